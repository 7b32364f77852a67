use Rattle.std.proofs.Common.{drop}
use Rattle.am_findings.proofs.FindLemmas.{AreLeft}
use Rattle.am_findings.proofs.explore.answer_all.Given as goal

abbrev pub invariant-loop-asked : goal.invariant-loop-asked
invariant-loop-asked g l = AreLeft l.told l.part l.most (drop l.asked-index l.questions) l.questions l.fn.text.items l.text.items
    l.verdict
