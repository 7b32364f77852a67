-- The open tokens as they are gathered, and a row that may be there. For the code
-- alone: own choice.
use Rattle.std.specs.Prelude.{List, [], ◌++◌, codes, decimal, ℕ, Option, None, Some}
use Rattle.std.specs.List.{flat_map}
use Rattle.std.specs.Option.{option_map}
use Rattle.am_wait.specs.{WaitRows, token_of}
use Rattle.am_mountinfo.specs.declared.notes.Open.{Open}
use Rattle.am_mountinfo.specs.Notes.{walkers_text, trigger_text}

-- what is written of an open token
abbrev pub open_text : WaitRows → Open → List ℕ
open_text w o =
    codes "# open " ++ decimal o.token ++
    (codes " waiters" ++
    (walkers_text o.waiters.items ++
    (trigger_text (option_map (λ row. row.trigger) (token_of w.tokens o.token)) ++ codes "\n")))

-- what is written of these open tokens
abbrev pub opens_text : WaitRows → List Open → List ℕ
opens_text w opens = flat_map (open_text w) opens

-- what is written of a row, where there is one
abbrev pub row_note : {X : Type 0} → (X → List ℕ) → Option X → List ℕ
row_note note None = []
row_note note (Some row) = note row
