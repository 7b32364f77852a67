use Rattle.std.proofs.Common.{◌≡◌, ◌+◌, length, sym, subst, rules}
use Rattle.am_runner.specs.{AreWalkers}
use Rattle.am_runner.proofs.PartLemmas.{walkers_more}
use Rattle.am_runner.proofs.asking.keep.Goals as goal

pub returns-in_ok-push : goal.returns-in_ok-push
returns-in_ok-push g c before =
    let plan = g.L.Planned.plan in
    let back = c.args.back.now.items in
    let one = c.parts-caller.result in
    let number : one.1 ≡ 1 + length back = search rules in
    subst (AreWalkers plan 1) (sym c.in_ok-push.ensures.items)
    (walkers_more plan 1 back one.1 one.0 before number c.parts-caller.ensures)
