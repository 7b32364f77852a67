use Rattle.std.proofs.Common.{length}
use Rattle.am_traces.proofs.JudgeLemmas.{Counted}
use Rattle.am_traces.proofs.verdict.indented_line.Given as goal

abbrev pub invariant-loop-fewer : goal.invariant-loop-fewer
invariant-loop-fewer l = Counted l.fn.text l.rest l.above (l.fn.place) l.left

abbrev pub decreases-loop-fewer : goal.decreases-loop-fewer
decreases-loop-fewer l = length l.rest
