use Rattle.std.proofs.Common.{◌≡◌, List, [], ◌∷◌, rules}
use Rattle.std.proofs.lemmas.List.Elements.{All-pop, All-rest}
use Rattle.std.specs.Vec.Iter.{into_iter_items}
use Rattle.am_pipe.specs.{Taker}
use Rattle.am_shared.specs.{Account}
use Rattle.am_runner.proofs.serving.start_workers.Goals as goal

pub loop-taker-preserved : goal.loop-taker-preserved
loop-taker-preserved g c =
    let others = into_iter_items c.next.new.self in
    let step : into_iter_items c.loop-taker.taker-iterator ≡ c.in-Some.taker ∷ others =
    search rules in record {
      can = search rules;
      finite = search rules;
      room = search rules;
      fresh = (All-pop (λ (caller : Account). caller.receipts ≡ []) c.loop-taker.callers.items
          c.pop-in-loop-taker.new.self.items c.pop-in-loop-taker.result
          c.pop-in-loop-taker.ensures.items c.loop-taker.invariant.fresh).0;
      untaken = All-rest (λ (taker : Taker). (taker.pipe ≡ g.L.Opened.pipe) × (taker.got ≡ []))
          c.in-Some.taker others (into_iter_items c.loop-taker.taker-iterator) step
          c.loop-taker.invariant.untaken;
    }
