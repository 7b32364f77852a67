-- A world that is played event by event, and what each call makes of it: own choice (docs/FORMATS.md, "Sessions").
use Rattle.std.specs.Prelude.{◌≡◌, ◌⊎◌, ◌<◌, ℕ, Bool, true, false, cond, List, [], ◌∷◌, length, drop, Option, None, Some, Result, Ok, Err}
use Rattle.am_group.specs.{MountState}
use Rattle.am_machine.specs.{Event, Answer, Step, setup_of, initial_state_of}
use Rattle.am_machine.specs.declared.answer.Answer.TheVariants as answers
use Rattle.am_machine.specs.declared.event.Event.TheVariants as events
use Rattle.am_machine.specs.State.{State}
use Rattle.am_mountinfo.specs.{IsWritten, NotWritten}
use Rattle.am_names.specs.{Status, WaitRow}
use Rattle.am_names.specs.declared.errno.Errno.{Errno}
use Rattle.am_script.specs.{ScriptFault, ScriptFaultKind, Summary, LineAnswered, NoNext, NotOpened, Numbered, Told, answer_line, fault_at, is_refused, line_read, lines_of, only_fault, script_of, without_world}
use Rattle.am_script.specs.Script.{Script}
use Rattle.am_script.specs.declared.fault.ScriptFaultKind.TheVariants.{BadEvent, BadSection, NoMemory, ReadFailed, WriteFailed}
use Rattle.am_views.specs.{obs_lines}
use Rattle.am_state.specs.{Obs}
use Rattle.am_world.specs.Capacity.{WorldTable, state_of}
use Rattle.am_session.specs.declared.played.Session.{Session}

-- ---- what a call writes

-- an event that is answered, and refused or not; or none
abbrev pub one_event : Answer → Summary
one_event answer = record { lines = 1; refused = cond (is_refused answer) 1 0 }

abbrev pub no_event : Summary
no_event = record { lines = 0; refused = 0 }

-- nothing is written, and this went so
pub record IsNothing (ended : Result Summary ScriptFault) (written : List ℕ) (went : Result Summary ScriptFault) : Type 0 where
  pub nothing : written ≡ []
  pub same : went ≡ ended

-- the text is written
pub record IsWhole (text : List ℕ) (ended : Summary) (written : List ℕ) (went : Result Summary ScriptFault) : Type 0 where
  pub whole : written ≡ text
  pub same : went ≡ Ok ended

-- the text is written, or there is no memory for it, which is told at this line
abbrev pub IsText : ℕ → List ℕ → Summary → List ℕ → Result Summary ScriptFault → Type 0
IsText line text ended written went =
    IsWhole text ended written went ⊎ IsNothing (Err (fault_at line WriteFailed)) written went

-- ---- one event

-- what a text says that is to be one line: a line feed in it is no event
abbrev pub event_said : List (List ℕ) → Result (Option Event) ScriptFaultKind
event_said (line ∷ []) = line_read line
event_said lines = Err BadEvent

-- an event has handed on all that was observed before it, and nothing else has
abbrev pub HandsOn : WorldTable → Result (Option Answer) ScriptFaultKind → WorldTable → Type 0
HandsOn old (Ok (Some answer)) new = new.handed ≡ length old.trace
HandsOn old (Ok None) new = new.handed ≡ old.handed
HandsOn old (Err kind) new = new.handed ≡ old.handed

-- what was answered last, and what was observed of it, are as they were
pub record IsKept (old new : Session) : Type 0 where
  pub answer : new.answer ≡ old.answer
  pub handed : new.world.handed ≡ old.world.handed

-- what is written of the answer, which the session keeps; nothing of a line without an event, and of
-- a fault
abbrev pub Answers : Session → Result (Option Answer) ScriptFaultKind → Session → List ℕ → Result Summary ScriptFault → Type 0
Answers old (Err kind) new written went = IsKept old new × IsNothing (Err (fault_at 1 kind)) written went
Answers old (Ok None) new written went = IsKept old new × IsNothing (Ok no_event) written went
Answers old (Ok (Some answer)) new written went =
    (new.answer ≡ Some answer) × (new.world.handed ≡ length old.world.trace)
    × IsText 1 (answer_line answer) (one_event answer) written went

-- the event of the line is answered by a step of the world, and the answer's line is written
pub record Plays (line : List ℕ) (old new : Session) (written : List ℕ) (went : Result Summary ScriptFault) : Type 0 where
  pub answered : Result (Option Answer) ScriptFaultKind
  pub step : LineAnswered (state_of old.world) (event_said (lines_of line)) (state_of new.world) answered
  pub answers : Answers old answered new written went

-- what a line that was taken leaves: its answer, where it is an event's, and whether it is
abbrev pub Leaves : Session → Result (Option Answer) ScriptFaultKind → Session → Result Bool ScriptFaultKind → Type 0
Leaves old (Err kind) new went = IsKept old new × (went ≡ Err kind)
Leaves old (Ok None) new went = IsKept old new × (went ≡ Ok false)
Leaves old (Ok (Some answer)) new went =
    (new.answer ≡ Some answer) × (new.world.handed ≡ length old.world.trace) × (went ≡ Ok true)

-- the event of the line is answered by a step of the world, and nothing is written
pub record Takes (line : List ℕ) (old new : Session) (went : Result Bool ScriptFaultKind) : Type 0 where
  pub answered : Result (Option Answer) ScriptFaultKind
  pub step : LineAnswered (state_of old.world) (event_said (lines_of line)) (state_of new.world) answered
  pub leaves : Leaves old answered new went

-- ---- what is told of a world

-- the line of this answer, if there is one
abbrev pub IsAnswer : Option Answer → List ℕ → Result Summary ScriptFault → Type 0
IsAnswer None written went = IsNothing (Ok no_event) written went
IsAnswer (Some answer) written went = IsText 1 (answer_line answer) (one_event answer) written went

-- what was answered last
abbrev pub TellsAnswer : Session → Session → List ℕ → Result Summary ScriptFault → Type 0
TellsAnswer old new written went = (new ≡ old) × IsAnswer old.answer written went

-- what the last event showed
abbrev pub seen_last : Session → List Obs
seen_last session = drop session.world.handed session.world.trace

abbrev pub TellsSeen : Session → Session → List ℕ → Result Summary ScriptFault → Type 0
TellsSeen old new written went =
    (new ≡ old) × IsText 0 (obs_lines (seen_last old)) no_event written went

-- the world as it is
abbrev pub IsShown : Option ℕ → State → List ℕ → Result Summary ScriptFault → Type 0
IsShown only s written (Ok summary) = (summary ≡ no_event) × IsWritten only s (Some []) (Some written)
IsShown only s written (Err fault) = NotWritten only s 0 (Some []) (Some written) fault

abbrev pub TellsWorld : Option ℕ → Session → Session → List ℕ → Result Summary ScriptFault → Type 0
TellsWorld only old new written went = (new ≡ old) × IsShown only (state_of old.world) written went

-- the token of a wait, unless that is acknowledged
abbrev pub awaited_by : Option Status → ℕ → Option ℕ
awaited_by None token = Some token
awaited_by (Some status) token = None

-- the token on which a walker waits that has this wait, or none
abbrev pub awaited : Option WaitRow → Option ℕ
awaited None = None
awaited (Some wait) = awaited_by wait.status wait.token

-- ---- what an event would be answered

-- the answer to an event `kind` of which this came
abbrev pub kind_answer : Result MountState Errno → Answer
kind_answer (Ok kind) = answers.Kind kind
kind_answer (Err e) = answers.Refused e

-- an event `kind` has this answer; nothing is seen of it, and nothing changes
abbrev pub IsKind : State → ℕ → List (List ℕ) → Result MountState Errno → Type 0
IsKind s ns path came = Step s (events.Kind ns path) (kind_answer came) [] s

-- ---- a new world

-- the world begins as the head says, and nothing has been asked of it
pub record IsBegun (head : List ℕ) (session : Session) : Type 0 where
  pub opening : (script_of None head).opening ≡ Some (setup_of (state_of session.world))
  pub world : state_of session.world ≡ initial_state_of (setup_of (state_of session.world))
  pub told : (script_of None head).told ≡ only_fault None
  pub answer : session.answer ≡ None

-- the head has a fault, or there is no memory for it or for its world
abbrev pub IsNoHead : List ℕ → ScriptFault → Type 0
IsNoHead head fault = NotOpened (length (lines_of head)) (script_of None head) fault

-- the text ends before the line `events`
pub record EndsBefore (script : Script) (fault : ScriptFault) : Type 0 where
  pub ends : script ≡ without_world None
  pub is : fault ≡ fault_at 0 BadSection

-- an event stands behind the line `events`
pub record HasEvent (told : Told) (fault : ScriptFault) : Type 0 where
  pub here : Numbered
  pub others : Told
  pub parted : told ≡ record others { events = here ∷ others.events }
  pub is : fault ≡ fault_at here.line BadEvent

-- the longest text of a head, in bytes: 16 TiB
abbrev pub longest_head : ℕ
longest_head = 17592186044416

-- there is no memory for a copy of the text, or it is too long
abbrev pub IsNotKept : List ℕ → ScriptFault → Type 0
IsNotKept head fault =
    (fault ≡ fault_at 1 NoMemory) ⊎ ((longest_head < length head) × (fault ≡ fault_at 1 ReadFailed))

-- no world begins
abbrev pub NotBegun : List ℕ → ScriptFault → Type 0
NotBegun head fault =
    IsNotKept head fault ⊎ (IsNoHead head fault ⊎ (EndsBefore (script_of None head) fault
    ⊎ (NoNext (script_of None head).told fault ⊎ HasEvent (script_of None head).told fault)))

-- a session, or none for this fault
abbrev pub IsNew : List ℕ → Result Session ScriptFault → Type 0
IsNew head (Ok session) = IsBegun head session
IsNew head (Err fault) = NotBegun head fault
