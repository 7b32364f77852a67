-- What a line orders of a session as a whole: own choice (docs/FORMATS.md, "Sessions").
use Rattle.std.specs.Prelude.{ℕ, Bool, List, [], ◌∷◌, codes, bytes_eq, if◌then◌else◌}
use Rattle.am_lines.specs.{words_of}
use Rattle.am_script.specs.{is_long}
use Rattle.am_serve.specs.declared.orders.Order.{Order}
use Rattle.am_serve.specs.declared.orders.Order.TheVariants.{Save, Back, Other}

-- an order that has no words but its first
abbrev pub if_alone : Order → List (List ℕ) → Order
if_alone order [] = order
if_alone order words = Other

-- `!save`, `!back`, or neither
abbrev pub order_by : List ℕ → List (List ℕ) → Order
order_by word words =
    if bytes_eq word (codes "!save") then if_alone Save words
    else if bytes_eq word (codes "!back") then if_alone Back words
    else Other

-- what a line with these words orders
abbrev pub order_in : List (List ℕ) → Order
order_in [] = Other
order_in (word ∷ words) = order_by word words

-- What a line orders. Within a section of a head all lines are its text.
abbrev pub order_of : Bool → List ℕ → Order
order_of within line =
    if is_long line then Other
    else if within then Other
    else order_in (words_of line)
