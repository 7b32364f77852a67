use Rattle.std.proofs.Common.{◌≡◌, All, None, take}
use Rattle.am_runner.specs.Tasks.{point_at}
use Rattle.am_runner.proofs.tasks.point_of.Given as goal

abbrev pub invariant-loop-entry : goal.invariant-loop-entry
invariant-loop-entry l = All (λ e. point_at l.fs e ≡ None) (take l.entry-index l.history)
