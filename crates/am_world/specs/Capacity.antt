-- A world as it is kept: own choice (docs/DECISIONS.md, "`am_daemon` keeps a job as `am_job` has
-- it").
use Rattle.std.specs.Prelude.{ℕ, List}
use Rattle.am_state.specs.{Obs}
use Rattle.am_kernel.specs.{KernelState}
use Rattle.am_daemon.specs.{DaemonTable, rows_of}
use Rattle.am_machine.specs.State.{State}

-- The acts that a job has left are a tree with a branch for each number of a mount, so the value of
-- a type keeps a job as `am_job` has it. So many of the observations were handed on; a world keeps the
-- others alone.
pub record WorldTable : Type 0 where
  pub kernel : KernelState
  pub daemon : DaemonTable
  pub handed : ℕ
  pub trace : List Obs

-- the machine's state
unfoldable pub state_of : WorldTable → State
state_of t = record { kernel = t.kernel; daemon = rows_of t.daemon; trace = t.trace }
