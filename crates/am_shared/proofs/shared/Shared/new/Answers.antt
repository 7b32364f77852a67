use Rattle.std.proofs.Common.{◌++◌, length, arith, sym, ap}
use Rattle.am_shared.specs.{opening_of}
use Rattle.am_shared.proofs.ApplyLemmas.{new_kept}
use Rattle.am_shared.proofs.shared.Shared.new.Goals as goal

pub invariant_of-result : goal.invariant_of-result
invariant_of-result c =
    let none = c.new-2.ensures in
    let left = c.new-3.ensures.items in (
      new_kept (opening_of c.args.opening) c.in-Ok.world _ c.args.put _ c.args.keep _ c.in-Ok.ensures.ok c.in-Ok.ensures.kept
          (λ i. none i ++ left i) c.requires.put c.new-4.ensures.items (ap length none),
      (sym (ap length none), omega (arith, ap length left)),
    )
