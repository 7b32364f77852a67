use Rattle.std.proofs.Common.{◌≡◌, ◌+◌, ◌∷◌, ◌++◌, [], ℕ, List, arith, sym, ap, ◌∙◌}
use Rattle.am_propagate.proofs.LoopLemmas.{numbers_more}
use Rattle.am_propagate.proofs.subtree.addition.numbers_after.Goals as goal

pub loop-preserved : goal.loop-preserved
loop-preserved c =
    let at : c.loop.number ≡ c.args.last + c.loop.counter = c.loop.invariant.number in
    record {
      number = omega arith;
      numbers =
          c.in_ok-push.ensures.items ∙
          ap (λ (xs : List ℕ). xs ++ (c.loop.number + 1) ∷ []) c.loop.invariant.numbers ∙
          sym (numbers_more c.args.last c.loop.counter (c.loop.number + 1) (omega arith));
    }
