use Rattle.std.proofs.Common.{◌≡◌, List, [], ◌∷◌, All, rules, sym, ◌∙◌, subst, arith}
use Rattle.std.proofs.lemmas.List.Elements.{All-push, All-rest}
use Rattle.std.specs.Vec.Iter.{into_iter_items}
use Rattle.atomic_table.specs.Seated.{TableId}
use Rattle.atomic_table.specs.declared.shared.Seat.{Seat}
use Rattle.am_machine.specs.{Entry}
use Rattle.am_shared.specs.{Account, Known, newcomer}
use Rattle.am_shared.specs.Chronicle.{caller}
use Rattle.am_shared.specs.Passes.{CallsOn, view_of}
use Rattle.am_shared.proofs.CallLemmas.{fresh_account, fresh_caller}
use Rattle.am_shared.proofs.caller.share.Goals as goal

pub loop-pass-init : goal.loop-pass-init
loop-pass-init g c =
    let passes = c.in_ok-passes.passes.items in
    let items : into_iter_items c.into_iter-pass-iterator.result ≡ passes = search rules in
    let same = c.logbook.view_is ∙ sym c.requires.logbook in
    let fresh : All (λ (pass : Seat Entry Known). CallsOn g.L.Opened.logbook pass × (view_of pass ≡ caller [] []))
    passes =
    subst (λ (t : TableId). All (λ (pass : Seat Entry Known). CallsOn t pass × (view_of pass ≡ caller [] [])) passes)
    same c.in_ok-passes.ensures.each in record {
      can = search rules;
      finite = search rules;
      count = search rules;
      room = search rules;
      passes = subst
          (λ (l : List (Seat Entry Known)). All
          (λ (pass : Seat Entry Known). CallsOn g.L.Opened.logbook pass × (view_of pass ≡ caller [] [])) l)
          (sym items) fresh;
      each = rw c.in_ok-made.ensures.items (search rules);
    }

pub loop-pass-preserved : goal.loop-pass-preserved
loop-pass-preserved g c =
    let others = into_iter_items c.next.new.self in
    let step : into_iter_items c.loop-pass.pass-iterator ≡ c.in-Some.pass ∷ others = search rules in
    let all = subst (λ (l : List (Seat Entry Known)).
    All (λ (pass : Seat Entry Known). CallsOn g.L.Opened.logbook pass × (view_of pass ≡ caller [] [])) l) step
    c.loop-pass.invariant.passes in record {
      can = search rules;
      finite = search rules;
      count = search rules;
      room = search rules;
      passes = All-rest
          (λ (pass : Seat Entry Known). CallsOn g.L.Opened.logbook pass × (view_of pass ≡ caller [] []))
          c.in-Some.pass others (into_iter_items c.loop-pass.pass-iterator) step c.loop-pass.invariant.passes;
      each = rw c.push_reserved.ensures.items (All-push (λ (x : Account). x ≡ newcomer) _ _
          c.loop-pass.invariant.each (fresh_account c.in-Some.pass _ (all 0 c.in-Some.pass (omega arith)).1 (search rules)));
    }

pub invariant_of-push_reserved : goal.invariant_of-push_reserved
invariant_of-push_reserved g c =
    let others = into_iter_items c.next.new.self in
    let step : into_iter_items c.loop-pass.pass-iterator ≡ c.in-Some.pass ∷ others = search rules in
    let all = subst
    (λ (l : List (Seat Entry Known)). All
    (λ (pass : Seat Entry Known). CallsOn g.L.Opened.logbook pass × (view_of pass ≡ caller [] [])) l)
    step c.loop-pass.invariant.passes in
    fresh_caller g.L.Opened.logbook c.in-Some.pass _ (all 0 c.in-Some.pass (omega arith)) (search rules)
