use Rattle.std.proofs.Common.{◌≡◌, List, [], ◌∷◌, rules}
use Rattle.std.proofs.lemmas.List.Elements.{All-rest}
use Rattle.std.specs.Vec.Iter.{into_iter_items}
use Rattle.am_shared.specs.{Account}
use Rattle.am_runner.proofs.asking.start_walkers.Goals as goal

pub loop-caller-preserved : goal.loop-caller-preserved
loop-caller-preserved g c =
    let others = into_iter_items c.next.new.self in
    let step : into_iter_items c.loop-caller.caller-iterator ≡ c.in-Some.caller ∷ others =
    search rules in record {
      can = search rules;
      finite = search rules;
      room = search rules;
      fresh = All-rest (λ (caller : Account). caller.receipts ≡ []) c.in-Some.caller others
          (into_iter_items c.loop-caller.caller-iterator) step c.loop-caller.invariant.fresh;
    }
