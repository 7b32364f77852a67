-- The marks of a picture as elements of SVG (Scalable Vector Graphics 2). A picture grows
-- downwards, and so does y; both count pixels. A row is 26 high, and its middle is at 13.
use Rattle.std.specs.Prelude.{ℕ, ◌+◌, ◌-◌, ◌*◌, List, ◌++◌, codes, decimal, min}
use Rattle.am_draw.specs.declared.marks.LaneKind.{LaneKind}
use Rattle.am_draw.specs.declared.marks.LaneKind.TheVariants.{Narrow, Wide}
use Rattle.am_draw.specs.Parts.{most_lanes}

-- where it stands
abbrev pub at_text : ℕ → ℕ → List ℕ
at_text x y = codes "' x='" ++ decimal x ++ (codes "' y='" ++ decimal y)

-- one of the symbols that the head defines
abbrev pub stamp : List ℕ → ℕ → ℕ → List ℕ
stamp symbol x y = codes "<use href='#am-" ++ (symbol ++ (at_text x y ++ codes "'/>\n"))

-- from one place of the row's middle to another
abbrev pub span_text : ℕ → ℕ → List ℕ
span_text from to = codes "' d='M" ++ decimal from ++ (codes " 13H" ++ decimal to)

-- a line of this class through the middle of a row
abbrev pub stroke : List ℕ → ℕ → ℕ → List ℕ
stroke class from to = codes "<path class='" ++ (class ++ (span_text from to ++ codes "'/>\n"))

-- from the middle of a row so far up
abbrev pub reach_text : ℕ → ℕ → List ℕ
reach_text x reach = codes "' d='M" ++ decimal x ++ (codes " 13v-" ++ decimal reach)

-- a line of this class that ends in the middle of a row, and is so long
abbrev pub stretch : List ℕ → ℕ → ℕ → List ℕ
stretch class x reach = codes "<path class='" ++ (class ++ (reach_text x reach ++ codes "'/>\n"))

-- the tag of a text of this class
abbrev pub opening : List ℕ → ℕ → ℕ → List ℕ
opening class x y = codes "<text class='" ++ (class ++ (at_text x y ++ codes "'>"))

-- a text of this class
abbrev pub label : List ℕ → ℕ → ℕ → List ℕ → List ℕ
label class x y text = opening class x y ++ (text ++ codes "</text>\n")

-- ---- where things stand

-- the middle of a lane, of which the first of its kind has it there
abbrev pub lane_x : LaneKind → ℕ → ℕ → ℕ
lane_x Narrow first lane = first + 20 * min lane most_lanes
lane_x Wide first lane = first + 44 * min lane most_lanes

-- that of the first walker
abbrev pub first_walker : ℕ
first_walker = 332

-- that of the first token, behind so many walkers
abbrev pub first_token : ℕ → ℕ
first_token walkers = 338 + 44 * walkers

-- that of the first file system, behind so many walkers and tokens
abbrev pub first_system : ℕ → ℕ → ℕ
first_system walkers tokens = 348 + 44 * walkers + 20 * tokens

-- that of the daemon, in columns that are moved so far
abbrev pub daemon_x : ℕ → ℕ
daemon_x moved = 884 + moved

-- how far the columns at the right are moved, behind so many wide lanes and so many narrow ones
abbrev pub shift : ℕ → ℕ → ℕ
shift wide narrow = 44 * wide + 20 * narrow - 468
