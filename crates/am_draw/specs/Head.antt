-- What stands before the rows of a picture, and behind them: own choice (docs/FORMATS.md,
-- "Pictures").
use Rattle.std.specs.Prelude.{ℕ, ◌+◌, ◌*◌, ◌==◌, nat_lt, List, ◌++◌, [], codes, decimal, if◌then◌else◌}
use Rattle.am_draw.specs.declared.part.Part.{Part}
use Rattle.am_draw.specs.Lasting.{Lasts}
use Rattle.am_draw.specs.Look.{look_text, right_text}
use Rattle.am_draw.specs.Marks.{label, shift}
use Rattle.am_draw.specs.Parts.{wide, rows_shown, tall}
use Rattle.am_draw.specs.FailingBars.{all_bars}

-- how high a picture is of rows that take so many heights of one, in pixels
abbrev pub height : ℕ → ℕ
height tall = 140 + 26 * tall

-- how wide one is with room for so many lanes of walkers, and so many narrow ones, in pixels
abbrev pub width : ℕ → ℕ → ℕ
width walkers narrow = 980 + 44 * walkers + 20 * narrow

-- ---- the element that holds all others

-- how wide and how high it is
abbrev pub size_text : ℕ → ℕ → List ℕ
size_text across down =
    codes "<svg xmlns='http://www.w3.org/2000/svg' width='" ++ decimal across
    ++ (codes "' height='" ++ decimal down)

-- the same once more, for those that show it at another size
abbrev pub box_text : ℕ → ℕ → List ℕ
box_text across down = codes "' viewBox='0 0 " ++ decimal across ++ (codes " " ++ decimal down)

-- it is said where no row is drawn
abbrev pub none_words : ℕ → List ℕ
none_words rows = if rows == 0 then codes ": none is drawn" else []

-- how many rows there are, of how many events
abbrev pub row_count_words : ℕ → ℕ → List ℕ
row_count_words rows events =
    decimal rows ++ ((codes " of " ++ decimal events) ++ (codes " events" ++ none_words rows))

-- the same; where there are no events, that there are none
abbrev pub count_words : ℕ → ℕ → List ℕ
count_words rows events = if events == 0 then codes "no event was played" else row_count_words rows events

-- its title
abbrev pub title_text : ℕ → ℕ → List ℕ
title_text rows events =
    codes "' class='am' role='img'>\n<title>" ++ (count_words rows events ++ codes "</title>\n")

-- the tag, with its title, of a picture of so many rows of so many events, which are so tall
abbrev pub tag_text : ℕ → ℕ → ℕ → ℕ → ℕ → List ℕ
tag_text walkers narrow tall rows events =
    size_text (width walkers narrow) (height tall)
    ++ (box_text (width walkers narrow) (height tall) ++ title_text rows events)

-- ---- what all rows stand on

-- a line below each row
abbrev pub rules : ℕ → ℕ → List ℕ
rules across down =
    codes "<rect fill='url(#am-rows)' y='118' width='" ++ decimal across
    ++ ((codes "' height='" ++ decimal down) ++ codes "'/>\n")

-- the lanes of walkers
abbrev pub walker_lanes : ℕ → ℕ → List ℕ
walker_lanes across down =
    codes "<rect fill='url(#am-walkers)' x='310' y='118' width='" ++ decimal across
    ++ ((codes "' height='" ++ decimal down) ++ codes "'/>\n")

-- the edge of the column of walkers
abbrev pub edges : ℕ → ℕ → List ℕ
edges down left =
    codes "<path class='column' d='M304 118v" ++ decimal down
    ++ ((codes "M" ++ decimal left) ++ ((codes " 118v" ++ decimal down) ++ codes "'/>\n"))

-- the title of the columns of tokens
abbrev pub token_title : ℕ → List ℕ
token_title left = codes "<text class='h' x='" ++ decimal left ++ codes "' y='108'>kernel: tokens</text>\n"

-- the columns at the right, which are moved so far
abbrev pub right_columns : ℕ → ℕ → List ℕ
right_columns far down =
    codes "<g transform='translate(" ++ decimal far
    ++ ((codes ")'>\n<rect fill='url(#am-right)' x='852' y='118' width='596' height='" ++ decimal down)
    ++ (codes "'/>\n" ++ right_text))

-- all of it, below rows that are so high
abbrev pub ground : ℕ → ℕ → ℕ → List ℕ
ground walkers narrow down =
    (rules (width walkers narrow) down ++ walker_lanes (44 * walkers) down)
    ++ (edges down (320 + 44 * walkers)
    ++ (token_title (328 + 44 * walkers) ++ right_columns (shift walkers narrow) down))

-- ---- head and tail

-- so many rows of so many events, which are so tall, with room for so many lanes
abbrev pub head_for : ℕ → ℕ → ℕ → ℕ → ℕ → List ℕ
head_for walkers narrow tall rows events =
    tag_text walkers narrow tall rows events
    ++ (look_text
    ++ (ground walkers narrow (26 * tall) ++ label (codes "h") 46 84 (count_words rows events)))

-- the head of the picture of this part
abbrev pub head_text : Part → List ℕ
head_text part =
    head_for (wide 7 part.size.walkers)
    (wide 8 part.size.tokens + wide 0 part.size.systems + wide 0 part.size.failures)
    (tall part.skipped part.rows) part.rows part.size.events

-- the picture of no event, which says so
abbrev pub empty_picture : List ℕ
empty_picture = head_for 7 8 0 0 0 ++ codes "</svg>\n"

-- the bars that reach to the bottom of the last of so many rows
abbrev pub last_bars : ℕ → ℕ → Lasts → List ℕ
last_bars skipped rows lasts =
    codes "<g transform='translate(0," ++ decimal (105 + 26 * tall skipped rows)
    ++ (codes ")'>\n"
    ++ (all_bars (record { skipped = skipped; number = skipped + rows; more = 13 }) lasts
    ++ codes "</g>\n"))

-- the same, if there are rows
abbrev pub last_bars_in : ℕ → ℕ → Lasts → List ℕ
last_bars_in skipped rows lasts = if nat_lt 0 rows then last_bars skipped rows lasts else []

-- what stands behind the rows once so many events have come, where this lasts
abbrev pub tail_text : Part → ℕ → Lasts → List ℕ
tail_text part events lasts =
    last_bars_in part.skipped (rows_shown part events) lasts ++ codes "</svg>\n"
