use Rattle.std.proofs.Common.{sym, ◌∙◌, arith}
use Rattle.am_expire.specs.{rows_in, expiry_in}
use Rattle.am_expire.proofs.UpLemmas.{ends_here, passed_more, passed_all}
use Rattle.am_expire.proofs.expiry.View.passed.Goals as goal

pub returns-then-branch-clause-ok : goal.returns-then-branch-clause-ok
returns-then-branch-clause-ok c =
    ends_here (expiry_in c.args.self.now) (rows_in c.args.part.now) c.loop-index.index
    (omega (arith, c.loop-index-test.true, c.len-len.ensures)) c.loop-index.invariant (sym c.in_ok-ends_at.ensures.ok ∙ c.if-branch.true)

pub loop-index-preserved : goal.loop-index-preserved
loop-index-preserved c =
    passed_more (expiry_in c.args.self.now) (rows_in c.args.part.now) c.loop-index.index
    c.loop-index.invariant (sym c.in_ok-ends_at.ensures.ok ∙ c.if-branch.false)

pub returns-clause-ok : goal.returns-clause-ok
returns-clause-ok c =
    passed_all (expiry_in c.args.self.now) (rows_in c.args.part.now) c.len-len.result c.loop-index.index c.len-len.ensures
    (omega (arith, c.loop-index-test.false)) c.loop-index.invariant
