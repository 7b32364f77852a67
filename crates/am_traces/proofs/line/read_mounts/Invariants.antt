use Rattle.std.proofs.Common.{length}
use Rattle.am_traces.proofs.MountLemmas.{SoFar}
use Rattle.am_traces.proofs.line.read_mounts.Given as goal

abbrev pub invariant-loop-rest : goal.invariant-loop-rest
invariant-loop-rest l = SoFar l.numbers.items l.rest l.fn.text

abbrev pub decreases-loop-rest : goal.decreases-loop-rest
decreases-loop-rest l = length l.rest
