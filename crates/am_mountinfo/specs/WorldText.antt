-- How the world after a script is printed: own choice (docs/DECISIONS.md, "A world is printed as
-- Linux prints mounts").
use Rattle.std.specs.Prelude.{◌≡◌, ◌⊎◌, ◌<◌, ℕ, Bool, false, true, not, List, [], ◌∷◌, ◌++◌, length, take, count_by, Option, None, Some}
use Rattle.std.specs.List.{list_any}
use Rattle.std.specs.Io.KnownBytes.{Appends, Consumes, IsAtEnd}
use Rattle.am_machine.specs.{Event, Answer, Setup, initial_state_of, Step, Run}
use Rattle.am_machine.specs.declared.answer.Answer.TheVariants as answers
use Rattle.am_mount.specs.{is_in}
use Rattle.am_names.specs.{MountRow}
use Rattle.am_names.specs.declared.errno.Errno.TheVariants as errnos
use Rattle.am_state.specs.{Obs}
use Rattle.am_machine.specs.State.{State}
use Rattle.am_script.specs.{ScriptFault, ScriptFaultKind, Summary, is_refused, lines_of, NothingPlayed, WasRead, played, Numbered, events_in, Told, script_of}
use Rattle.am_script.specs.declared.fault.ScriptFaultKind.TheVariants.{NoMemory, NoSuchNamespace, WriteFailed}
use Rattle.am_script.specs.Script.{Script}
use Rattle.am_views.specs.{HeadStops}
use Rattle.am_mountinfo.specs.Mountinfo.{ArePlaced, AreNamespaces, mountinfo, namespaces_text}
use Rattle.am_mountinfo.specs.Notes.{notes}

-- ---- a world as a text

-- one namespace alone is asked for, and there is no mount in it
abbrev pub is_nowhere : Option ℕ → List MountRow → Bool
is_nowhere None rows = false
is_nowhere (Some ns) rows = not (list_any (is_in ns) rows)

-- the mounts of all namespaces, each behind a line that names it, and then what else there is; or
-- the mounts of one namespace alone, which is there
abbrev pub IsText : Option ℕ → State → List ℕ → Type 0
IsText None s text =
    (order : List ℕ) × AreNamespaces s.kernel.table.rows order × (text ≡ namespaces_text s.kernel order ++ notes s)
IsText (Some ns) s text = (is_nowhere (Some ns) s.kernel.table.rows ≡ false) × (text ≡ mountinfo s.kernel ns)

-- the text is written
pub record IsWritten (only : Option ℕ) (s : State) (old new : Option (List ℕ)) : Type 0 where
  pub text : List ℕ
  pub shows : IsText only s text
  pub written : Appends old new text

-- the writer takes a beginning of the text, which is told at this line
pub record IsCut (line : ℕ) (text : List ℕ) (old new : Option (List ℕ)) (fault : ScriptFault) : Type 0 where
  pub loss : fault.kind ≡ WriteFailed
  pub line_is : fault.line ≡ line
  pub taken : ℕ
  pub short : taken < length text
  pub written : Appends old new (take taken text)

-- memory runs out before anything is written, which is told at this line
pub record NoRoomToWrite (line : ℕ) (old new : Option (List ℕ)) (fault : ScriptFault) : Type 0 where
  pub kind : fault.kind ≡ NoMemory
  pub line_is : fault.line ≡ line
  pub written : Appends old new []

-- the namespace that is asked for isn't there, which is told at this line
pub record IsNowhere (only : Option ℕ) (s : State) (line : ℕ) (old new : Option (List ℕ)) (fault : ScriptFault) : Type 0 where
  pub nowhere : is_nowhere only s.kernel.table.rows ≡ true
  pub kind : fault.kind ≡ NoSuchNamespace
  pub line_is : fault.line ≡ line
  pub written : Appends old new []

-- the namespace isn't there, memory runs out before the text, or the writer takes only a beginning of it
abbrev pub NotWritten : Option ℕ → State → ℕ → Option (List ℕ) → Option (List ℕ) → ScriptFault → Type 0
NotWritten only s line old new fault =
    IsNowhere only s line old new fault
    ⊎ NoRoomToWrite line old new fault
    ⊎ ((text : List ℕ) × IsText only s text × IsCut line text old new fault)

-- ---- the events

-- the event found no memory
abbrev pub ran_out : Answer → Bool
ran_out (answers.Refused errnos.NoMemory) = true
ran_out answer = false

-- all events come, one after another, and lead to last; none of them found no memory
pub record EventsPlayed (start : State) (told : Told) (last : State) (summary : Summary) : Type 0 where
  pub no_fault : told.fault ≡ None
  pub answers : List Answer
  pub run : Run start (events_in told.events) answers last
  pub lines : summary.lines ≡ length answers
  pub refused : summary.refused ≡ count_by is_refused answers
  pub room : count_by ran_out answers ≡ 0

-- the event comes, for which there is memory, and is refused or not
pub record IsPlayed (s : State) (event : Event) (next : State) (refused : Bool) : Type 0 where
  pub answer : Answer
  pub seen : List Obs
  pub step : Step s event answer seen next
  pub test : refused ≡ is_refused answer
  pub room : ran_out answer ≡ false

-- memory runs out for one of the events
pub record NoRoomToPlay (told : Told) (fault : ScriptFault) : Type 0 where
  pub kind : fault.kind ≡ NoMemory
  pub done : List Numbered
  pub here : Numbered
  pub others : List Numbered
  pub parted : told.events ≡ done ++ here ∷ others
  pub line : fault.line ≡ here.line

-- the script's own fault comes behind its events, or memory runs out for one of them
abbrev pub NotPlayed : Told → ScriptFault → Type 0
NotPlayed told fault = (told.fault ≡ Some fault) ⊎ NoRoomToPlay told fault

-- the line of the last of these events, or this one where there is none
abbrev pub last_line : ℕ → List Numbered → ℕ
last_line line [] = line
last_line line (asked ∷ others) = last_line asked.line others

-- ---- a script with a world

-- all events come, and the world that they lead to is written, and nothing else
pub record WorldShown (only : Option ℕ) (start : State) (told : Told) (old new : Option (List ℕ)) (summary : Summary) : Type 0 where
  pub last : State
  pub played : EventsPlayed start told last summary
  pub written : IsWritten only last old new

-- not all events come, and nothing is written
pub record StopsPlaying (told : Told) (old new : Option (List ℕ)) (fault : ScriptFault) : Type 0 where
  pub stops : NotPlayed told fault
  pub written : Appends old new []

-- all events come, and the world isn't written to its end, which is told at the line of the last, or
-- at that of `events` where there is none
pub record StopsWriting (only : Option ℕ) (start : State) (events_at : ℕ) (told : Told) (old new : Option (List ℕ)) (fault : ScriptFault) : Type 0 where
  pub last : State
  pub summary : Summary
  pub played : EventsPlayed start told last summary
  pub stops : NotWritten only last (last_line events_at told.events) old new fault

-- not all events come, or the world isn't written to its end
abbrev pub ShowStops : Option ℕ → State → ℕ → Told → Option (List ℕ) → Option (List ℕ) → ScriptFault → Type 0
ShowStops only start events_at told old new fault =
    StopsPlaying told old new fault ⊎ StopsWriting only start events_at told old new fault

-- ---- any script

-- the world that is written is one that the initial world leads to, and each path in it is below
-- that of its parent
pub record AllShown (only : Option ℕ) (opening : Setup) (told : Told) (old new : Option (List ℕ)) (summary : Summary) : Type 0 where
  pub shown : WorldShown only (initial_state_of opening) told old new summary
  pub placed : ArePlaced shown.last.kernel.table.rows

-- the world is shown where there is one; where there is none, nothing is written
abbrev pub ShownFrom : Option ℕ → Option Setup → Told → Option (List ℕ) → Option (List ℕ) → Summary → Type 0
ShownFrom only None told old new summary = NothingPlayed told old new summary
ShownFrom only (Some opening) told old new summary = AllShown only opening told old new summary

-- the script has a world, and that isn't shown
pub record EventsStop (only : Option ℕ) (script : Script) (old new : Option (List ℕ)) (fault : ScriptFault) : Type 0 where
  pub opening : Setup
  pub begins : script.opening ≡ Some opening
  pub line : ℕ
  pub line_is : script.events_at ≡ Some line
  pub stops : ShowStops only (initial_state_of opening) line script.told old new fault

-- ---- with a reader

-- the input was read to its end, and the world after the script that it is is written
pub record ShowsInput (only : Option ℕ) (input rest old new : Option (List ℕ)) (summary : Summary) : Type 0 where
  pub text : List ℕ
  pub read : Consumes input rest text
  pub ended : IsAtEnd rest
  pub whole : ShownFrom only (script_of None text).opening (script_of None text).told old new summary

-- the world after what was read, to its end or not, isn't written to its end
pub record StopsShowing (only : Option ℕ) (input rest old new : Option (List ℕ)) (fault : ScriptFault) : Type 0 where
  pub text : List ℕ
  pub broke : Option ScriptFaultKind
  pub read : WasRead input rest text broke
  pub stopped :
      HeadStops (length (lines_of (played broke text))) (script_of broke text) old new fault
      ⊎ EventsStop only (script_of broke text) old new fault
