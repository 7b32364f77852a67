use Rattle.std.proofs.Common.{◌≡◌, ◌+◌, ◌++◌, ◌∷◌, [], List, rules, sym, ap, ◌∙◌, subst, append_assoc, arith, length}
use Rattle.std.proofs.lemmas.List.{append-nil}
use Rattle.std.specs.Vec.Iter.{into_iter_items, into_iter_len}
use Rattle.am_pipe.proofs.CountLemmas.{empty_where_length_is_zero}
use Rattle.am_shared.specs.{Account, EachRise, Known, Rise}
use Rattle.am_shared.specs.Calls.{all_calls, calls_of}
use Rattle.am_shared.specs.Passes.{view_of}
use Rattle.am_shared.proofs.gathering.hand_all_in.Goals as goal

pub loop-caller-preserved : goal.loop-caller-preserved
loop-caller-preserved g c =
    let inv = c.loop-caller.invariant in
    let h = c.hand_in.ensures.keeper in
    let others = into_iter_items c.next.new.self in
    let made = (view_of c.loop-caller.keeping).mine in
    let one = c.in-Some.caller in
    let step : into_iter_items c.loop-caller.caller-iterator ≡ one ∷ others = search rules in
    let fewer : into_iter_len c.loop-caller.caller-iterator ≡ into_iter_len c.next.new.self + 1 = search rules in
    let theirs : (view_of c.caller.inside.pass).mine ≡ calls_of one.receipts =
    c.caller.invariant.1 ∙ ap (λ (a : Account). calls_of a.receipts) c.caller.view_is in record {
      can = search rules;
      finite = search rules;
      on = (h.0.0 ∙ c.requires.history, inv.on.1, h.0.2);
      keeps = ap (λ (v : Known). v.keeps) h.1 ∙ inv.keeps;
      made = ap (λ (v : Known). v.made) h.1 ∙ inv.made;
      all = ap (λ (v : Known). v.all) h.1 ∙ inv.all;
      parts = omega (
        arith,
        ap (λ (v : Known). v.parts) h.1,
        ap (λ (v : Known). v.parts) c.caller.invariant.0.1,
        fewer,
        inv.parts,
      );
      mine = ap (λ (v : Known). v.mine ++ all_calls others) h.1
          ∙ append_assoc made (view_of c.caller.inside.pass).mine (all_calls others)
          ∙ ap (λ l. made ++ (l ++ all_calls others)) theirs
          ∙ sym (ap (λ (l : List Account). made ++ all_calls l) step) ∙ inv.mine;
      rise = λ rest. inv.rise (subst (λ (l : List Account). EachRise l) (sym step)
          (subst (λ (a : Account). Rise 0 a.receipts) c.caller.view_is c.caller.invariant.2, rest));
    }

pub returns-clause-mine : goal.returns-clause-mine
returns-clause-mine g c =
    let made = (view_of c.loop-caller.keeping).mine in
    let left = c.loop-caller.caller-iterator in
    let count : length (into_iter_items left) ≡ 0 =
    omega (arith, c.in-None.ensures.steps.0, left.rest.ok.0) in
    let none : into_iter_items left ≡ [] = empty_where_length_is_zero (into_iter_items left) count in
    sym (append-nil made) ∙ sym (ap (λ (l : List Account). made ++ all_calls l) none)
    ∙ c.loop-caller.invariant.mine
