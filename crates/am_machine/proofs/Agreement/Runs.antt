-- Kernel and daemon agree on each file system that the daemon serves.
use Rattle.std.proofs.Common.{ℕ}
use Rattle.am_kernel.specs.{KernelState}
use Rattle.am_daemon.specs.{DaemonState}
use Rattle.am_machine.specs.State.{State}
use Rattle.am_machine.specs.{initial_state_of, WalksFit, TokensAgree, ArePlanned, PlacesAgree, IsServed, BookAgrees, AreOfTheirTokens, AreWritten, IsConsistent, AgreeOn, Agree, RunsAgree}
use Rattle.am_machine.proofs.Agreement.Mounts.{mounted_here, nothing_here}
use Rattle.am_machine.proofs.Agreement.Tokens.{pending_here, tokens_here}
use Rattle.am_machine.proofs.Consistent.{initial_consistent, run_consistent}
use Rattle.am_machine.proofs.Walks.Runs.{initial_named, run_named}

-- what the parts of the invariant come to, of a file system that the daemon serves
pub agree_on : (k : KernelState) (d : DaemonState) → TokensAgree k d.jobs → ArePlanned d.jobs → WalksFit k → PlacesAgree k → BookAgrees k d → AreOfTheirTokens k.waits d.book → AreWritten k d → (fs attach : ℕ) → IsServed k d fs attach → AgreeOn k d fs attach
agree_on k d tokens planned named places book records settled fs attach served = record {
  mounted = mounted_here k d settled fs attach served places;
  pending = pending_here k d tokens fs attach served book records named;
  unrecorded = nothing_here k d settled fs attach served;
  tokens = tokens_here k d tokens fs attach served planned;
}

-- of every such file system
pub agrees : (s : State) → IsConsistent s → WalksFit s.kernel → Agree s
agrees s h named fs attach served =
    let halves = h.agreed in
    agree_on s.kernel s.daemon halves.tokens halves.planned named halves.places halves.book halves.records halves.stands.settled fs attach served

-- after every run
pub runs_agree : RunsAgree
runs_agree opening events answers s along run =
    let old = initial_state_of opening in
    agrees s (run_consistent old events answers s run (initial_consistent opening)) (run_named old events answers s run along (initial_named opening))
