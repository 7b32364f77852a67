-- How a script is played: its events come as those of a run from its world, and what its form has
-- written of each is what is written. Own choice (docs/FORMATS.md, "Scripts").
use Rattle.std.specs.Prelude.{⊤, true, ◌≡◌, ◌⊎◌, ◌<◌, ◌≤◌, ℕ, List, [], ◌∷◌, ◌++◌, length, take, count_by, Option, None, Some, Result, Ok, Err}
use Rattle.std.specs.Io.KnownBytes.{Appends, Consumes, IsAtEnd}
use Rattle.am_machine.specs.{Setup, initial_state_of}
use Rattle.am_machine.specs.State.{State}
use Rattle.am_script.specs.declared.fault.ScriptFault.{ScriptFault}
use Rattle.am_script.specs.declared.fault.ScriptFaultKind.{ScriptFaultKind}
use Rattle.am_script.specs.declared.fault.ScriptFaultKind.TheVariants.{BadSection, NoMemory, ReadFailed, WriteFailed}
use Rattle.am_script.specs.declared.play.Summary.{Summary}
use Rattle.am_script.specs.Fault.{fault_at}
use Rattle.am_script.specs.Lines.{lines_of}
use Rattle.am_script.specs.Answers.{is_refused}
use Rattle.am_script.specs.Read.{played}
use Rattle.am_script.specs.Script.{Numbered, Told, Script, IsInHead, script_of}
use Rattle.am_script.specs.Forms.{Shown, Form, SeenRun, asked_in, answers_in, written_of}

-- ---- a script with a world

-- all events come, and nothing but what is written of them is written
pub record AllPlayed (form : Form) (start : State) (told : Told) (old new : Option (List ℕ))
    (summary : Summary) : Type 0 where
  pub no_fault : told.fault ≡ None
  pub rows : List Shown
  pub asked : told.events ≡ asked_in rows
  pub last : State
  pub run : SeenRun start rows last
  pub written : Appends old new (written_of form rows)
  pub lines : summary.lines ≡ length rows
  pub refused : summary.refused ≡ count_by is_refused (answers_in rows)

-- the script's own fault comes behind its events, of which all is written
pub record StopsAtFault (form : Form) (start : State) (told : Told) (old new : Option (List ℕ))
    (fault : ScriptFault) : Type 0 where
  pub found : told.fault ≡ Some fault
  pub rows : List Shown
  pub asked : told.events ≡ asked_in rows
  pub last : State
  pub run : SeenRun start rows last
  pub written : Appends old new (written_of form rows)

-- what is written of an event isn't taken whole, but for a beginning; all before it is written
pub record StopsAtEvent (form : Form) (start : State) (told : Told) (old new : Option (List ℕ))
    (fault : ScriptFault) : Type 0 where
  pub loss : fault.kind ≡ WriteFailed
  pub done : List Shown
  pub here : Shown
  pub others : List Numbered
  pub parted : told.events ≡ asked_in (done ++ here ∷ []) ++ others
  pub line : fault.line ≡ here.asked.line
  pub last : State
  pub run : SeenRun start (done ++ here ∷ []) last
  pub taken : ℕ
  pub short : taken < length (form.text here)
  pub written : Appends old new (written_of form done ++ take taken (form.text here))

-- there is no memory for an event of a script that ends there; all before it is written
pub record StopsForRoom (form : Form) (start : State) (told : Told) (old new : Option (List ℕ))
    (fault : ScriptFault) : Type 0 where
  pub ends : form.ends ≡ true
  pub kind : fault.kind ≡ NoMemory
  pub rows : List Shown
  pub here : Numbered
  pub others : List Numbered
  pub parted : told.events ≡ asked_in rows ++ here ∷ others
  pub line : fault.line ≡ here.line
  pub last : State
  pub run : SeenRun start rows last
  pub written : Appends old new (written_of form rows)

-- the script stops at its own fault, at an event of which not all is taken, or at one without memory
abbrev pub Stops : Form → State → Told → Option (List ℕ) → Option (List ℕ) → ScriptFault → Type 0
Stops form start told old new fault =
    StopsAtFault form start told old new fault
    ⊎ (StopsAtEvent form start told old new fault ⊎ StopsForRoom form start told old new fault)

-- ---- a script that ends before its events

-- the script ends before its events, so that nothing is written
pub record NothingPlayed (told : Told) (old new : Option (List ℕ)) (summary : Summary) : Type 0 where
  pub no_fault : told.fault ≡ None
  pub written : Appends old new []
  pub lines : summary.lines ≡ 0
  pub refused : summary.refused ≡ 0

-- the script stops at a fault of its head, and nothing is written
pub record StopsBefore (told : Told) (old new : Option (List ℕ)) (fault : ScriptFault) : Type 0 where
  pub found : told.fault ≡ Some fault
  pub written : Appends old new []

-- ---- any script

-- all events come where there is a world; where there is none, nothing is played
abbrev pub PlayedFrom : Form → Option Setup → Told → Option (List ℕ) → Option (List ℕ) → Summary → Type 0
PlayedFrom form None told old new summary = NothingPlayed told old new summary
PlayedFrom form (Some opening) told old new summary = AllPlayed form (initial_state_of opening) told old new summary

-- the script is played to its end
abbrev pub IsPlayed : Form → Script → Option (List ℕ) → Option (List ℕ) → Summary → Type 0
IsPlayed form script old new summary = PlayedFrom form script.opening script.told old new summary

-- the script stops behind the beginning of its world, or before it
abbrev pub StoppedFrom : Form → Option Setup → Told → Option (List ℕ) → Option (List ℕ) → ScriptFault → Type 0
StoppedFrom form None told old new fault = StopsBefore told old new fault
StoppedFrom form (Some opening) told old new fault = Stops form (initial_state_of opening) told old new fault

-- no memory for the head or for the world: nothing is written, and that is told at one of so many
-- lines, and not behind `events`
pub record RanOut (lines : ℕ) (events_at : Option ℕ) (old new : Option (List ℕ)) (fault : ScriptFault) : Type 0 where
  pub kind : fault.kind ≡ NoMemory
  pub first : 1 ≤ fault.line
  pub line : fault.line ≤ lines
  pub head : IsInHead events_at fault.line
  pub written : Appends old new []

-- the script, of so many lines, isn't played to its end
abbrev pub IsStopped : Form → ℕ → Script → Option (List ℕ) → Option (List ℕ) → ScriptFault → Type 0
IsStopped form lines script old new fault =
    RanOut lines script.events_at old new fault ⊎ StoppedFrom form script.opening script.told old new fault

-- ---- with a reader

-- the input was read to its end, and what it says is played
pub record PlaysInput (form : Form) (input rest old new : Option (List ℕ)) (summary : Summary) : Type 0 where
  pub text : List ℕ
  pub read : Consumes input rest text
  pub ended : IsAtEnd rest
  pub whole : IsPlayed form (script_of None text) old new summary

-- a script with a world stops at the last of so many lines, but where the writer failed
abbrev pub HaltsAt : Option Setup → ScriptFault → ℕ → Type 0
HaltsAt None fault last = ⊤
HaltsAt (Some opening) fault last = (fault.kind ≡ WriteFailed) ⊎ (fault.line ≡ last)

-- the script, of which so many lines were played, stops there
pub record HaltsIn (form : Form) (script : Script) (last : ℕ) (old new : Option (List ℕ))
    (fault : ScriptFault) : Type 0 where
  pub stopped : IsStopped form last script old new fault
  pub here : HaltsAt script.opening fault last

-- what was read behind a line: nothing, or its line feed and at most 4,095 bytes
abbrev pub IsAhead : List ℕ → Type 0
IsAhead [] = ⊤
IsAhead (b ∷ bytes) = (b ≡ 10) × (length bytes ≤ 4095)

-- The script stops at the last line of what was read, but for what was read ahead. It stops so
-- whatever else the input has.
pub record Halts (form : Form) (text : List ℕ) (old new : Option (List ℕ)) (fault : ScriptFault) : Type 0 where
  pub upto : List ℕ
  pub ahead : List ℕ
  pub parts : text ≡ upto ++ ahead
  pub few : IsAhead ahead
  pub halts : (more : List ℕ) → HaltsIn form (script_of None (text ++ more)) (length (lines_of upto)) old new fault

-- the input was read to its end, and the script stops behind that, or at the line that it ends with
pub record StopsAtEnd (form : Form) (rest : Option (List ℕ)) (text : List ℕ) (old new : Option (List ℕ))
    (fault : ScriptFault) : Type 0 where
  pub ended : IsAtEnd rest
  pub stopped : HaltsIn form (script_of None text) (length (lines_of text)) old new fault

-- the reader failed, or was asked too often, and the script stops behind the lines that were read
-- whole
abbrev pub BreaksOff : Form → List ℕ → Option (List ℕ) → Option (List ℕ) → ScriptFault → Type 0
BreaksOff form text old new fault =
    HaltsIn form (script_of (Some ReadFailed) text) (length (lines_of (played (Some ReadFailed) text))) old new fault

-- what was read isn't played to its end
pub record StopsInput (form : Form) (input rest old new : Option (List ℕ)) (fault : ScriptFault) : Type 0 where
  pub text : List ℕ
  pub read : Consumes input rest text
  pub stops :
      StopsAtEnd form rest text old new fault
      ⊎ (BreaksOff form text old new fault ⊎ Halts form text old new fault)

-- ---- the end of a head

-- what is answered where a script ends within its head
abbrev pub end_of_head : Option ScriptFaultKind → Option ℕ → ℕ → Result Summary ScriptFault
end_of_head None None number = Ok (record { lines = 0; refused = 0 })
end_of_head None (Some first) number = Err (fault_at first BadSection)
end_of_head (Some kind) section number = Err (fault_at number kind)
