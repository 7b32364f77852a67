use Rattle.std.proofs.Common.{rules, ap, ◌∙◌}
use Rattle.am_shared.specs.{Account, calls_of}
use Rattle.am_shared.specs.Passes.{view_of}
use Rattle.am_shared.proofs.CallLemmas.{sees_from}
use Rattle.am_shared.proofs.DeskLemmas.{taken_of}
use Rattle.am_shared.proofs.caller.Caller.take_history.Goals as goal

pub returns-clause-taken : goal.returns-clause-taken
returns-clause-taken g c =
    let taken = c.take_history.ensures.taken in
    let s = taken.0 in
    let before = view_of c.self.inside.pass in
    let behind = view_of c.take_history.new.taking in
    let mine = c.self.invariant.1 ∙ ap (λ (a : Account). calls_of a.receipts) c.self.view_is in
    let was = ap (λ (a : Account). a.seen) c.self.view_is in
    taken_of g.L.Opened.opening _ _ c.take_history.result s taken.3
    (sees_from s before behind _ _ taken.4 mine taken.5 was taken.6 (search rules)) taken.7 taken.8 taken.9
