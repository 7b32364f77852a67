-- What the two halves stand for, and what becomes of an event: own choice (docs/DECISIONS.md,
-- "Kernel and daemon don't call one another").
use Rattle.std.specs.Prelude.{◌≡◌, ◌⊎◌, List, [], ◌∷◌, ◌++◌, length, Option, Some, None, Result, Ok, Err}
use Rattle.am_names.specs.declared.errno.Errno.{Errno}
use Rattle.am_names.specs.declared.errno.Errno.TheVariants.{NoMemory}
use Rattle.am_state.specs.{Obs}
use Rattle.am_state.specs.declared.obs.Obs.TheVariants.{Recorded}
use Rattle.am_daemon.specs.{DaemonState, DaemonTable, rows_of, Writing}
use Rattle.am_machine.specs.{Answer, refused, after}
use Rattle.am_machine.specs.declared.answer.Answer.TheVariants as answers
use Rattle.am_machine.specs.State.{State}
use Rattle.am_machine.specs.EventOutcome.{EventOutcome}
use Rattle.am_world.specs.Capacity.{WorldTable}
use Rattle.am_world.specs.declared.machine.Machine.{Machine}

-- the daemon's half
abbrev pub daemon_of : DaemonTable → DaemonState
daemon_of d = rows_of d

-- the world that these halves and this trace are, behind observations that were handed on
abbrev pub table_of : List Obs → Machine → WorldTable
table_of gone h = record {
  kernel = h.kernel;
  daemon = h.daemon;
  handed = length gone;
  trace = gone ++ h.trace.items;
}

-- kernel, daemon and trace as the machine's state
abbrev pub whole_state : Machine → State
whole_state h = record { kernel = h.kernel; daemon = rows_of h.daemon; trace = h.trace.items }

-- the state behind these observations
abbrev pub behind : List Obs → State → State
behind gone s = record s { trace = gone ++ s.trace }

-- The outcome has come; or it is a refusal, or memory ran out, and nothing has changed.
abbrev pub Yields : EventOutcome → State → Result Answer Errno → State → Type 0
Yields o old (Ok answer) new = (answer ≡ o.answer) × (new ≡ after old o)
Yields o old (Err e) new = (new ≡ old) × ((e ≡ NoMemory) ⊎ (o ≡ refused old e))

-- what is seen of a change of the book
abbrev pub written : Option Writing → List Obs
written None = []
written (Some writing) = Recorded writing.trigger writing.entry ∷ []

-- the answer to an event of which this came
abbrev pub told : Result Answer Errno → Answer
told (Ok answer) = answer
told (Err e) = answers.Refused e
