-- What an event comes to (own choice).
use Rattle.std.specs.Prelude.{List, [], Option, Some, None}
use Rattle.am_names.specs.declared.errno.Errno.{Errno}
use Rattle.am_state.specs.{Obs}
use Rattle.am_kernel.specs.{KernelState}
use Rattle.am_machine.specs.declared.answer.Answer.{Answer}
use Rattle.am_machine.specs.declared.answer.Answer.TheVariants as answers
use Rattle.am_machine.specs.State.{State}

-- its answer, what is seen of it, and the state but for the trace
pub record EventOutcome : Type 0 where
  pub answer : Answer
  pub seen : List Obs
  pub state : State

-- nothing is seen and nothing changes
abbrev pub refused : State → Errno → EventOutcome
refused s e = record { answer = answers.Refused e; seen = []; state = s }

-- a test may refuse it
abbrev pub unless : Option Errno → State → EventOutcome → EventOutcome
unless (Some e) s done = refused s e
unless None s done = done

-- this is answered and seen, and the kernel's half changes to this
abbrev pub with_kernel : Answer → List Obs → KernelState → State → EventOutcome
with_kernel answer shown k s = record { answer = answer; seen = shown; state = record s { kernel = k } }

-- nothing changes
abbrev pub told : Answer → State → EventOutcome
told answer s = record { answer = answer; seen = []; state = s }
