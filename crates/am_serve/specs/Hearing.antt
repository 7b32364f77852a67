-- What a line makes of a session, and what is told of it: own choice (docs/FORMATS.md, "Sessions").
use Rattle.std.specs.Prelude.{◌≡◌, ◌⊎◌, ℕ, ◌+◌, Bool, true, false, List, ◌++◌, Option, None, Some, Result, Ok, Err}
use Rattle.am_diagnosis.specs.Scripts.{long_slip}
use Rattle.am_diagnosis.specs.declared.expected.Slip.{Slip}
use Rattle.am_group.specs.{MountState}
use Rattle.am_names.specs.declared.errno.Errno.{Errno}
use Rattle.am_script.specs.{ScriptFault, ScriptFaultKind, fault_at}
use Rattle.am_script.specs.declared.fault.ScriptFaultKind.TheVariants.{LongLine, NoMemory}
use Rattle.am_session.specs.{HasSlip, IsBegun, IsKind, NotBegun, Session, Takes}
use Rattle.am_world.specs.Capacity.{state_of}
use Rattle.am_serve.specs.declared.complaints.Complaint.{Complaint}
use Rattle.am_serve.specs.declared.complaints.Complaint.TheVariants.{OfScript, NoWorld, BadQuestion}
use Rattle.am_serve.specs.declared.request.Question.{Question}
use Rattle.am_serve.specs.declared.request.Request.{Request}
use Rattle.am_serve.specs.declared.request.Request.TheVariants.{Long, Reset, Asks, AsksKind, Unknown, Plain}
use Rattle.am_serve.specs.declared.stands.Serving.{Serving}
use Rattle.am_serve.specs.declared.stands.Stand.{Stand}
use Rattle.am_serve.specs.declared.stands.Stand.TheVariants.{Gathering, Playing}
use Rattle.am_serve.specs.declared.telling.Telling.{Telling}
use Rattle.am_serve.specs.declared.telling.Telling.TheVariants.{Nothing, Answer, Asked, Kind, Fault}
use Rattle.am_serve.specs.Heads.{Gathered, ends_head, nothing_gathered, with_line}
use Rattle.am_serve.specs.Requests.{request_of}

-- no line was taken yet
abbrev pub fresh : Serving
fresh = record { stand = Gathering nothing_gathered; lines = 0 }

-- a section of a head is open
abbrev pub is_within : Stand → Bool
is_within (Gathering head) = head.within
is_within (Playing session) = false

-- it has this fault as the line behind those that were taken
abbrev pub next_fault : ℕ → Complaint → Option Slip → Telling
next_fault lines complaint slip = Fault (lines + 1) complaint slip

-- there is no memory for the line, and nothing has changed
abbrev pub FindsNoRoom : Serving → Serving → Telling → Type 0
FindsNoRoom old new told = (new ≡ old) × (told ≡ next_fault old.lines (OfScript NoMemory) None)

-- ---- a line of a head

-- it is one line more of the head
abbrev pub Gathers : Gathered → ℕ → List ℕ → Serving → Telling → Type 0
Gathers head lines line new told =
    (new ≡ record { stand = Gathering (with_line head line); lines = lines + 1 }) × (told ≡ Nothing)

-- the world of the head begins
pub record BeginsWorld (head : Gathered) (lines : ℕ) (line : List ℕ) (new : Serving) (told : Telling) : Type 0 where
  pub session : Session
  pub begun : IsBegun (head.text ++ line) session
  pub stands : new ≡ record { stand = Playing session; lines = lines + 1 }
  pub nothing : told ≡ Nothing

-- the head has a fault, which is told at its line, and another head begins
pub record HasBadHead (head : Gathered) (line : List ℕ) (new : Serving) (told : Telling) : Type 0 where
  pub fault : ScriptFault
  pub bad : NotBegun (head.text ++ line) fault
  pub slip : Option Slip
  pub placed : HasSlip (head.text ++ line) fault slip
  pub anew : new ≡ fresh
  pub tells : told ≡ Fault fault.line (OfScript fault.kind) slip

-- there is no memory for the line that ends the head: another head begins
abbrev pub LosesHead : ℕ → Serving → Telling → Type 0
LosesHead lines new told = (new ≡ fresh) × (told ≡ next_fault lines (OfScript NoMemory) None)

-- the line ends the head, or doesn't
abbrev pub HeardInHead : Bool → Gathered → ℕ → List ℕ → Serving → Telling → Type 0
HeardInHead true head lines line new told =
    BeginsWorld head lines line new told ⊎ (HasBadHead head line new told ⊎ LosesHead lines new told)
HeardInHead false head lines line new told =
    Gathers head lines line new told ⊎ FindsNoRoom (record { stand = Gathering head; lines = lines }) new told

-- ---- a line of events

-- the line isn't an event's, and doesn't count
pub record FindsNoEvent (next : Session) (lines : ℕ) (line : List ℕ) (kind : ScriptFaultKind) (new : Serving) (told : Telling) : Type 0 where
  pub slip : Option Slip
  pub placed : HasSlip line (fault_at 1 kind) slip
  pub stands : new ≡ record { stand = Playing next; lines = lines }
  pub tells : told ≡ next_fault lines (OfScript kind) slip

-- the line has an event, is skipped, or has a fault
abbrev pub LineTold : Session → ℕ → List ℕ → Result Bool ScriptFaultKind → Serving → Telling → Type 0
LineTold next lines line (Ok true) new told =
    (new ≡ record { stand = Playing next; lines = lines + 1 }) × (told ≡ Answer)
LineTold next lines line (Ok false) new told =
    (new ≡ record { stand = Playing next; lines = lines + 1 }) × (told ≡ Nothing)
LineTold next lines line (Err kind) new told = FindsNoEvent next lines line kind new told

-- the session makes of it what it makes of each line
pub record PlaysLine (session : Session) (lines : ℕ) (line : List ℕ) (new : Serving) (told : Telling) : Type 0 where
  pub next : Session
  pub went : Result Bool ScriptFaultKind
  pub takes : Takes line session next went
  pub leaves : LineTold next lines line went new told

-- ---- any line

-- a line of a head, or of events
abbrev pub HeardLine : Stand → ℕ → List ℕ → Serving → Telling → Type 0
HeardLine (Gathering head) lines line new told = HeardInHead (ends_head head line) head lines line new told
HeardLine (Playing session) lines line new told = PlaysLine session lines line new told

-- a question is told where there is a world
abbrev pub question_told : Stand → ℕ → Question → Telling
question_told (Gathering head) lines question = next_fault lines NoWorld None
question_told (Playing session) lines question = Asked question

-- the world is asked what it would answer to an event `kind`
abbrev pub KindTold : Stand → ℕ → ℕ → List (List ℕ) → Telling → Type 0
KindTold (Gathering head) lines ns path told = told ≡ next_fault lines NoWorld None
KindTold (Playing session) lines ns path told =
    (came : Result MountState Errno) × IsKind (state_of session.world) ns path came × (told ≡ Kind came)

-- a line that is this leaves the session so, and this is told of it
abbrev pub Heard : Request → Serving → List ℕ → Serving → Telling → Type 0
Heard Long old line new told =
    (new ≡ old) × (told ≡ next_fault old.lines (OfScript LongLine) (Some long_slip))
Heard Reset old line new told = (new ≡ fresh) × (told ≡ Nothing)
Heard (Asks question) old line new told =
    (new ≡ old) × (told ≡ question_told old.stand old.lines question)
Heard (AsksKind ns path) old line new told = (new ≡ old) × KindTold old.stand old.lines ns path told
Heard Unknown old line new told = (new ≡ old) × (told ≡ next_fault old.lines BadQuestion None)
Heard Plain old line new told = HeardLine old.stand old.lines line new told

-- the line leaves the session so, and this is told of it
abbrev pub Hears : Serving → List ℕ → Serving → Telling → Type 0
Hears old line new told = Heard (request_of (is_within old.stand) line) old line new told
