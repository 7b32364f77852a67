-- The timeout among the options of a line (auto.master(5), "OPTIONS").
use Rattle.std.specs.Prelude.{ℕ, ◌+◌, ◌*◌, ◌-◌, ◌==◌, nat_eq, nat_le, Bool, not, ◌&&◌, ◌||◌, List, [], ◌∷◌, ◌++◌, length, drop, fold, codes, Result, Ok, Err, if◌then◌else◌}
use Rattle.std.specs.Str.{bytes_eq}
use Rattle.std.specs.List.{list_all, starts_with}
use Rattle.am_lines.specs.{is_digit}
use Rattle.am_master.specs.declared.fault.MasterFaultKind.{MasterFaultKind}
use Rattle.am_master.specs.declared.fault.MasterFaultKind.TheVariants.{BadTimeout}

-- the number that decimal digits write
abbrev pub number_of : List ℕ → ℕ
number_of digits = fold (λ n digit. n * 10 + (digit - 48)) 0 digits

-- at least one decimal digit and nothing else, at most 4,294,967,295
abbrev pub is_seconds : List ℕ → Bool
is_seconds text =
    not (length text == 0) && list_all is_digit text && nat_le (number_of text) 4294967295

-- the options whose value is the next word
abbrev pub takes_next : List ℕ → Bool
takes_next word = bytes_eq word (codes "--timeout") || bytes_eq word (codes "-t")

-- the value that stands in the option itself
abbrev pub value_in : List ℕ → List (List ℕ)
value_in word = if starts_with nat_eq word (codes "--timeout=") then drop 10 word ∷ [] else []

-- the values of all timeout options, in their order; one that is missing is empty
abbrev pub timeout_values : List (List ℕ) → List (List ℕ)
timeout_values [] = []
timeout_values (word ∷ []) = if takes_next word then [] ∷ [] else value_in word
timeout_values (word ∷ next ∷ words) =
    if takes_next word then next ∷ timeout_values words
    else value_in word ++ timeout_values (next ∷ words)

-- each value is a number of seconds, and the last counts, or this timeout where there is none
abbrev pub timeout_of : ℕ → List (List ℕ) → Result ℕ MasterFaultKind
timeout_of timeout [] = Ok timeout
timeout_of timeout (value ∷ values) =
    if is_seconds value then timeout_of (number_of value) values else Err BadTimeout

-- own choice (docs/DECISIONS.md, "A timeout that no option tells is 300 seconds")
abbrev pub timeout_read : List (List ℕ) → Result ℕ MasterFaultKind
timeout_read options = timeout_of 300 (timeout_values options)
