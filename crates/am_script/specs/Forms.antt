-- The events of a script that have come, with what is seen of each, and what is written of them. Own
-- choice (docs/FORMATS.md, "Scripts").
use Rattle.std.specs.Prelude.{◌≡◌, ℕ, Bool, false, List, [], ◌∷◌, map}
use Rattle.std.specs.List.{flat_map}
use Rattle.am_machine.specs.{Answer, Step}
use Rattle.am_machine.specs.State.{State}
use Rattle.am_state.specs.{Obs}
use Rattle.am_script.specs.Answers.{answer_line}
use Rattle.am_script.specs.Script.{Numbered}

-- an event of a script, its answer, and what is seen of it
pub record Shown : Type 0 where
  pub asked : Numbered
  pub answer : Answer
  pub seen : List Obs

-- the events of these rows
abbrev pub asked_in : List Shown → List Numbered
asked_in rows = map (λ row. row.asked) rows

-- the answers of these rows
abbrev pub answers_in : List Shown → List Answer
answers_in rows = map (λ row. row.answer) rows

-- From old, these events come one after another, each with its answer and what is seen of it, and
-- lead to new.
abbrev pub SeenRun : State → List Shown → State → Type 0
SeenRun old [] new = new ≡ old
SeenRun old (row ∷ rows) new =
    (mid : State) × Step old row.asked.event row.answer row.seen mid × SeenRun mid rows new

-- ---- what is written

-- how a script is played: what is written of each event, and whether an event that finds no memory
-- before it is played ends the script, or else is answered as refused
pub record Form : Type 0 where
  pub text : Shown → List ℕ
  pub ends : Bool

-- what is written of these events, in order
abbrev pub written_of : Form → List Shown → List ℕ
written_of form rows = flat_map form.text rows

-- of each event the line of its answer is written, and every event is answered
abbrev pub answers_alone : Form
answers_alone = record { text = λ row. answer_line row.answer; ends = false }
