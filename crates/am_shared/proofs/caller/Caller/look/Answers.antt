use Rattle.std.proofs.Common.{rules, ap, ◌∙◌}
use Rattle.am_shared.specs.{Account, calls_of}
use Rattle.am_shared.specs.Passes.{view_of}
use Rattle.am_shared.proofs.CallLemmas.{sees_from}
use Rattle.am_shared.proofs.caller.Caller.look.Goals as goal

pub returns-clause-lent : goal.returns-clause-lent
returns-clause-lent g c =
    let lent = c.lend.ensures.lent in
    let before = view_of c.self.inside.pass in
    let behind = view_of c.lend.new.calling in
    let mine = c.self.invariant.1 ∙ ap (λ (a : Account). calls_of a.receipts) c.self.view_is in
    let was = ap (λ (a : Account). a.seen) c.self.view_is in
    (lent.0, lent.2, lent.3, sees_from lent.0 before behind _ _ lent.4 mine lent.5 was lent.6 (search rules), lent.7)
