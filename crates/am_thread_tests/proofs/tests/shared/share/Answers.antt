use Rattle.std.proofs.Common.{sym, ◌∙◌}
use Rattle.am_thread_tests.proofs.tests.shared.share.Goals as goal

pub invariant_of-result : goal.invariant_of-result
invariant_of-result g c =
    let ends = c.args.ends in
    let put = c.join-put.ensures.first in
    let takers = c.join-put.ensures.second in record {
      all = takers.0 ∙ ends.all ∙ sym put.1;
      one = λ k d lt. takers.1 ends.put.pipe ends.one k d lt ∙ sym put.0;
    }
