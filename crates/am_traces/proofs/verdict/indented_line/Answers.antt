use Rattle.std.proofs.Common.{refl, arith}
use Rattle.am_traces.specs.Says.{is_indented}
use Rattle.am_traces.proofs.JudgeLemmas.{counts_on}
use Rattle.am_traces.proofs.verdict.indented_line.Goals as goal

pub loop-fewer-preserved : goal.loop-fewer-preserved
loop-fewer-preserved c =
    let here = rw c.in-Some-behind.is at c.cut_at_line_feed.ensures.cut in
    let shorter = rw c.in-Some-behind.is at c.cut_at_line_feed.ensures.shorter in
    counts_on _ _ c.cut_at_line_feed.result.0.now _ _ _ c.loop-fewer.left c.in-Some.fewer (is_indented c.cut_at_line_feed.result.0.now) c.loop-fewer.invariant here refl c.in-Some.ensures.some (omega (arith, shorter))
