-- What every world keeps (own choice).
use Rattle.am_laws.specs.{Lawful}
use Rattle.am_machine.specs.State.{State}
use Rattle.am_machine.specs.Invariant.Traces.{FitsTrace, rows_in}
use Rattle.am_machine.specs.Invariant.Attachments.{NumbersAreAllocated}
use Rattle.am_machine.specs.Invariant.Tokens.{TokensAgree}
use Rattle.am_machine.specs.Invariant.Planned.{ArePlanned}
use Rattle.am_machine.specs.Invariant.Books.{BookAgrees}
use Rattle.am_machine.specs.Invariant.Records.{AreOfTheirTokens}
use Rattle.am_machine.specs.Invariant.Places.{PlacesAgree}
use Rattle.am_machine.specs.Invariant.TriggerMounts.{TriggerMountsAgree}

-- The rows are what the trace tells of them, and the trace is lawful.
pub record IsTraced (s : State) : Type 0 where
  pub fits : FitsTrace (rows_in s) s.trace
  pub lawful : Lawful s.trace

-- Kernel and daemon agree.
pub record HalvesAgree (s : State) : Type 0 where
  pub given : NumbersAreAllocated s.kernel s.daemon
  pub tokens : TokensAgree s.kernel s.daemon.jobs
  pub planned : ArePlanned s.daemon.jobs
  pub places : PlacesAgree s.kernel
  pub book : BookAgrees s.kernel s.daemon
  pub records : AreOfTheirTokens s.kernel.waits s.daemon.book
  pub stands : TriggerMountsAgree s.kernel s.daemon

-- the trace is lawful, and the halves agree
pub record IsConsistent (s : State) : Type 0 where
  pub traced : IsTraced s
  pub agreed : HalvesAgree s
