-- One line of events is played: own choice (docs/FORMATS.md, "Scripts").
use Rattle.std.specs.Prelude.{⊤, ◌≡◌, ◌⊎◌, ℕ, ◌+◌, Bool, true, cond, List, Option, None, Some, Result, Ok, Err}
use Rattle.std.specs.Io.KnownBytes.{Appends}
use Rattle.am_machine.specs.{Event, Answer, Step}
use Rattle.am_state.specs.{Obs}
use Rattle.am_machine.specs.State.{State}
use Rattle.am_script.specs.declared.fault.ScriptFaultKind.{ScriptFaultKind}
use Rattle.am_script.specs.declared.fault.ScriptFault.{ScriptFault}
use Rattle.am_script.specs.declared.fault.ScriptFaultKind.TheVariants.{NoMemory, WriteFailed}
use Rattle.am_script.specs.declared.output.Output.{Output}
use Rattle.am_script.specs.declared.play.Summary.{Summary}
use Rattle.am_script.specs.Answers.{is_refused}
use Rattle.am_script.specs.Fault.{fault_at}
use Rattle.am_script.specs.Forms.{Form}
use Rattle.am_script.specs.Outputs.{Owed, owed_by, bytes_of, IsLost, Stands, Settles, PutsOut}

-- the line says an event
abbrev pub SaysEvent : Result (Option Event) ScriptFaultKind → Type 0
SaysEvent (Ok (Some event)) = ⊤
SaysEvent (Ok None) = ⊥
SaysEvent (Err kind) = ⊥

-- a line that says this is read so; memory may run out where it says an event
abbrev pub LineReadAs : Result (Option Event) ScriptFaultKind → Result (Option Event) ScriptFaultKind → Type 0
LineReadAs said (Ok event) = said ≡ Ok event
LineReadAs said (Err NoMemory) = SaysEvent said
LineReadAs said (Err kind) = said ≡ Err kind

-- the event that the line says has this answer; where it says none, nothing happens
abbrev pub LineAnswered : State → Result (Option Event) ScriptFaultKind → State → Result (Option Answer) ScriptFaultKind → Type 0
LineAnswered s (Ok None) next (Ok None) = next ≡ s
LineAnswered s (Ok (Some event)) next (Ok (Some answer)) = (seen : List Obs) × Step s event answer seen next
LineAnswered s (Err kind) next (Err fault) = (next ≡ s) × (fault ≡ kind)
LineAnswered s said next answer = ⊥

-- the event comes, and what is written of it is put out
pub record IsAnswered (form : Form) (s : State) (event : Event) (next : State) (number : ℕ)
    (kept keeps : Output) (old new : Option (List ℕ)) (refused : Bool) : Type 0 where
  pub answer : Answer
  pub seen : List Obs
  pub step : Step s event answer seen next
  pub puts :
      PutsOut kept keeps (owed_by number (form.text (record {
        asked = record { line = number; event = event };
        answer = answer;
        seen = seen;
      }))) old new
  pub test : refused ≡ is_refused answer

-- nothing happens
pub record IsIdle (s next : State) (kept keeps : Output) (old new : Option (List ℕ)) : Type 0 where
  pub same : next ≡ s
  pub settles : Settles kept keeps old new

-- what a line says is done, and whether its event was refused
abbrev pub TurnDone :
    Form → State → Result (Option Event) ScriptFaultKind → State → ℕ → Output → Output → Option (List ℕ)
    → Option (List ℕ) → Option Bool → Type 0
TurnDone form s (Ok None) next number kept keeps old new None = IsIdle s next kept keeps old new
TurnDone form s (Ok None) next number kept keeps old new (Some refused) = ⊥
TurnDone form s (Ok (Some event)) next number kept keeps old new None = ⊥
TurnDone form s (Ok (Some event)) next number kept keeps old new (Some refused) =
    IsAnswered form s event next number kept keeps old new refused
TurnDone form s (Err kind) next number kept keeps old new played = ⊥

-- there is no memory for the event, which ends the script
pub record FindsNoRoom (form : Form) (s next : State) (kept keeps : Output) (old new : Option (List ℕ))
    (kind : ScriptFaultKind) : Type 0 where
  pub ends : form.ends ≡ true
  pub idle : IsIdle s next kept keeps old new
  pub told : kind ≡ NoMemory

-- the line has a fault, or there is no memory for its event
abbrev pub TurnStopped :
    Form → State → Result (Option Event) ScriptFaultKind → State → Output → Output → Option (List ℕ)
    → Option (List ℕ) → ScriptFaultKind → Type 0
TurnStopped form s (Ok None) next kept keeps old new kind = ⊥
TurnStopped form s (Ok (Some event)) next kept keeps old new kind = FindsNoRoom form s next kept keeps old new kind
TurnStopped form s (Err fault) next kept keeps old new kind = IsIdle s next kept keeps old new × (kind ≡ fault)

-- ---- what is kept goes to the writer, and then this is how a script ends

-- all that was put out is written
pub record IsWhole (ended result : Result Summary ScriptFault) (all : List Owed) (old new : Option (List ℕ)) : Type 0 where
  pub same : result ≡ ended
  pub written : Appends old new (bytes_of all)

-- it is written as far as the writer takes it, which isn't to its end
pub record IsShort (result : Result Summary ScriptFault) (all : List Owed) (old new : Option (List ℕ)) : Type 0 where
  pub line : ℕ
  pub told : result ≡ Err (fault_at line WriteFailed)
  pub lost : IsLost all line old new

-- wherever the output stood: all of it is written, or all up to a byte that is lost
abbrev pub Closes : Output → Result Summary ScriptFault → Option (List ℕ) → Option (List ℕ) → Result Summary ScriptFault → Type 0
Closes output ended held holds result =
    (all : List Owed) → (start : Option (List ℕ)) → Stands output all start held
    → IsWhole ended result all start holds ⊎ IsShort result all start holds

-- one more line, if there is one
abbrev pub counted : Summary → Option Bool → Summary
counted summary None = summary
counted summary (Some refused) =
    record { lines = summary.lines + 1; refused = summary.refused + cond refused 1 0 }
