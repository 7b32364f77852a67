-- The titles of the columns, which stand once more each forty rows, with who has a bar there: own choice
-- (docs/FORMATS.md, "Pictures").
use Rattle.std.specs.Prelude.{ℕ, zero, suc, ◌+◌, ◌-◌, ◌*◌, ◌%◌, List, [], ◌++◌, get_or, codes, decimal, Option, None, Some, if◌then◌else◌}
use Rattle.am_lanes.specs.{Holder, Look}
use Rattle.am_lanes.specs.declared.holder.Look.TheVariants.{Missing, Expire, Ended, Waits, Inside, Idle, Catatonic, Dead}
use Rattle.am_draw.specs.declared.failing.Failing.{Failing}
use Rattle.am_draw.specs.declared.marks.LaneKind.{LaneKind}
use Rattle.am_draw.specs.declared.marks.LaneKind.TheVariants.{Narrow, Wide}
use Rattle.am_draw.specs.declared.part.Part.{Part}
use Rattle.am_draw.specs.FailingBars.{first_failing}
use Rattle.am_draw.specs.Lasting.{Lasts}
use Rattle.am_draw.specs.Look.{left_again_text, right_again_text}
use Rattle.am_draw.specs.Marks.{label, lane_x, first_walker, first_token, first_system}
use Rattle.am_draw.specs.Parts.{has_titles}
use Rattle.am_draw.specs.Stretches.{walker_columns, token_columns, moved}
use Rattle.am_draw.specs.Words.{words}

-- the number of one who looks so, beside its bar; one without a bar has none
abbrev pub name : Look → ℕ → ℕ → List ℕ
name (Missing fs) number x = label (codes "k") x 21 (decimal number)
name (Expire fs) number x = label (codes "k") x 21 (decimal number)
name Ended number x = []
name Waits number x = label (codes "s n") (x - 8) 19 (decimal number)
name Inside number x = label (codes "s n") (x - 8) 19 (decimal number)
name Idle number x = []
name Catatonic number x = label (codes "k") x 21 (codes "fs " ++ decimal number)
name Dead number x = []

-- that of the one in a lane
abbrev pub lane_name : Option Holder → ℕ → List ℕ
lane_name None x = []
lane_name (Some holder) x = name holder.look holder.number x

-- those in the first so many of these lanes, the first of which stands there
abbrev pub lane_names : LaneKind → ℕ → List (Option Holder) → ℕ → List ℕ
lane_names kind first lanes zero = []
lane_names kind first lanes (suc lane) =
    lane_names kind first lanes lane ++ lane_name (get_or lanes lane None) (lane_x kind first lane)

-- so many lanes of walkers, of tokens, of file systems and of failures are told of
abbrev pub named_lanes : ℕ
named_lanes = 64

-- those in the first lanes
abbrev pub first_names : LaneKind → ℕ → List (Option Holder) → List ℕ
first_names kind first lanes = lane_names kind first lanes named_lanes

-- the name of a trigger, or the number of a direct one's file system, in little room
abbrev pub short_words : ℕ → Option (List ℕ) → List ℕ
short_words fs None = codes "fs " ++ decimal fs
short_words fs (Some name) = words 2 name

-- that of the failure in a lane, at this height
abbrev pub failing_name : Option Failing → ℕ → ℕ → List ℕ
failing_name None x y = []
failing_name (Some held) x y =
    label (codes "s failed") x y (short_words held.trigger.fs held.trigger.name)

-- the height of the name of a lane: names stand at two heights by turns, as they are wider than a lane
abbrev pub name_y : ℕ → ℕ
name_y lane = 10 + 11 * (lane % 2)

-- those in the first so many of these lanes, the first of which stands there: each at the right of its bar
abbrev pub failing_names : ℕ → List (Option Failing) → ℕ → List ℕ
failing_names first lanes zero = []
failing_names first lanes (suc lane) =
    failing_names first lanes lane
    ++ failing_name (get_or lanes lane None) (lane_x Narrow first lane + 5) (name_y lane)

-- who has a bar
abbrev pub names : Lasts → List ℕ
names lasts =
    first_names Wide first_walker lasts.walkers
    ++ (first_names Narrow (first_token (walker_columns lasts)) lasts.tokens
    ++ (first_names Narrow (first_system (walker_columns lasts) (token_columns lasts)) lasts.systems
    ++ failing_names (first_failing lasts) lasts.failures named_lanes))

-- the title of the columns of tokens
abbrev pub tokens_again : ℕ → List ℕ
tokens_again walkers = label (codes "s") (328 + 44 * walkers) 9 (codes "tokens")

-- the titles of the columns at the right, which are moved so far
abbrev pub right_again : ℕ → List ℕ
right_again far = codes "<g transform='translate(" ++ decimal far ++ (codes ")'>\n" ++ right_again_text)

-- all of them, above the row
abbrev pub titles : Lasts → List ℕ
titles lasts =
    left_again_text
    ++ (tokens_again (walker_columns lasts)
    ++ (right_again (moved lasts)
    ++ (names lasts ++ codes "</g>\n")))

-- the same, if they stand there
abbrev pub titles_in : Part → ℕ → Lasts → List ℕ
titles_in part number lasts = if has_titles part.skipped number then titles lasts else []
