-- Which events of a script are drawn, and how wide the picture is: own choice (docs/FORMATS.md,
-- "Pictures").
use Rattle.std.specs.Prelude.{ℕ, ◌+◌, ◌-◌, ◌*◌, ◌/◌, ◌%◌, Bool, ◌&&◌, ◌==◌, not, min, nat_lt, if◌then◌else◌}
use Rattle.am_draw.specs.declared.part.Size.{Size}
use Rattle.am_draw.specs.declared.part.Part.{Part}

-- the most rows of a picture
abbrev pub most_rows : ℕ
most_rows = 1000000

-- the most lanes of walkers, and of tokens
abbrev pub most_lanes : ℕ
most_lanes = 1000000

-- Of the events those from one number to another are drawn, but at most so many. Numbers of events
-- begin with 1.
abbrev pub part_of : ℕ → ℕ → Size → Part
part_of first last size = record {
  skipped = first - 1;
  rows = min (min last size.events - (first - 1)) most_rows;
  size = size;
}

-- the event with this number comes after those that are drawn
abbrev pub is_past : Part → ℕ → Bool
is_past part number = nat_lt part.rows (number - part.skipped)

-- the event with this number is drawn: it comes no later than those that are, and isn't skipped
abbrev pub is_drawn : Part → ℕ → Bool
is_drawn part number = not (is_past part number) && nat_lt part.skipped number

-- how many rows are drawn of so many events that have come
abbrev pub rows_shown : Part → ℕ → ℕ
rows_shown part events =
    if is_past part events then part.rows else events - part.skipped

-- Each so many rows the titles of the columns stand once more, and at the first row where events are
-- skipped before it. They take the height of a row.
abbrev pub rows_a_title : ℕ
rows_a_title = 40

-- how often they stand among so many rows, before which so many events are skipped
abbrev pub titles_among : ℕ → ℕ → ℕ
titles_among skipped rows = min skipped 1 + (rows - 1) / rows_a_title

-- how often they stand above the row of the event with this number
abbrev pub titles_before : ℕ → ℕ → ℕ
titles_before skipped number = titles_among skipped (number - skipped)

-- they stand at the top of this event's row
abbrev pub has_titles : ℕ → ℕ → Bool
has_titles skipped number = nat_lt 1 number && (number - skipped - 1) % rows_a_title == 0

-- how many rows' heights so many rows take
abbrev pub tall : ℕ → ℕ → ℕ
tall skipped rows = rows + titles_among skipped rows

-- the top of the event's row, in pixels
abbrev pub row_y : Part → ℕ → ℕ
row_y part number = 118 + 26 * (number - part.skipped - 1 + titles_before part.skipped number)

-- room for so many lanes, but for no less than this, and at most for so many
abbrev pub wide : ℕ → ℕ → ℕ
wide least lanes =
    if nat_lt lanes least then least else if nat_lt most_lanes lanes then most_lanes else lanes
