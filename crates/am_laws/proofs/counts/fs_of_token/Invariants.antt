use Rattle.std.proofs.Common.{◌≡◌, length}
use Rattle.am_laws.specs.{fs_of_token}
use Rattle.am_laws.proofs.counts.fs_of_token.Given as goal

abbrev pub invariant-loop-o : goal.invariant-loop-o
invariant-loop-o l = fs_of_token l.token l.rest ≡ fs_of_token l.token l.fn.seen

abbrev pub decreases-loop-o : goal.decreases-loop-o
decreases-loop-o l = length l.rest
