-- How findings are written: own choice (docs/FORMATS.md, "Findings").
use Rattle.std.specs.Prelude.{ℕ, ◌+◌, List, [], ◌∷◌, ◌++◌, length, codes, decimal}
use Rattle.std.specs.List.{flat_map}
use Rattle.am_explore.specs.{Choice, Found, Seen, Tally}
use Rattle.am_explore.specs.declared.search.Found.TheVariants as founds
use Rattle.am_scenes.specs.{Asked}
use Rattle.am_views.specs.{event_text}

-- an event as its line
abbrev pub choice_line : Choice → List ℕ
choice_line choice = event_text choice.event ++ codes "\n"

-- the events of an order, as lines of a script
abbrev pub order_text : List Choice → List ℕ
order_text choices = flat_map choice_line choices

-- which question it is, by its line
abbrev pub asked_part : Asked → List ℕ
asked_part asked = codes "# line " ++ decimal asked.line

-- how many events an order has, and these
abbrev pub found_order_text : List Choice → List ℕ
found_order_text choices =
    codes ": yes, events " ++ (decimal (length choices) ++ (codes "\n" ++ order_text choices))

-- not all was seen: that no order that begins with these choices and has fewer steps behind them meets the question
abbrev pub unseen_text : List Choice → ℕ → List ℕ
unseen_text first below =
    codes ": not all seen, no order of fewer than " ++ (decimal (length first + below) ++ codes " events\n")

-- what was found of a question, where orders begin with these choices: with an order all its events, as lines of a
-- script
abbrev pub finding_text : List Choice → Asked → Found → List ℕ
finding_text first asked (founds.Order choices answers) = asked_part asked ++ found_order_text (first ++ choices.items)
finding_text first asked founds.Never = asked_part asked ++ codes ": no order\n"
finding_text first asked (founds.Cut below) = asked_part asked ++ unseen_text first below

-- what was found of all questions, in their order
abbrev pub answers_text : List Choice → List Asked → List Seen → List ℕ
answers_text first (asked ∷ others) (seen ∷ rest) =
    finding_text first asked seen.found ++ answers_text first others rest
answers_text first _ _ = []

-- what a search of all orders has met
abbrev pub tally_text : Tally → List ℕ
tally_text tally =
    codes "# orders " ++ (decimal tally.orders ++ (codes " states " ++ (decimal tally.states
    ++ (codes " ends " ++ (decimal tally.ends ++ (codes " worlds " ++ (decimal tally.worlds ++ codes "\n")))))))

-- that it was cut behind so many states, and how many choices there are where it began
abbrev pub cut_text : ℕ → Tally → List ℕ
cut_text left tally =
    codes "# not all seen, states " ++ (decimal tally.states ++ (codes " choices " ++ (decimal left ++ codes "\n")))

-- the last line: what was met, or that the search was cut
abbrev pub count_by : ℕ → Found → Tally → List ℕ
count_by left (founds.Cut below) tally = cut_text left tally
count_by left _ tally = tally_text tally

-- the last line, of what was seen
abbrev pub count_text : ℕ → Seen → List ℕ
count_text left seen = count_by left seen.found seen.tally

-- all that is written: of orders that begin with these choices, which lead to where so many choices are left
abbrev pub findings_text : List Choice → ℕ → List Asked → List Seen → Seen → List ℕ
findings_text first left asked seen count = answers_text first asked seen ++ count_text left count
