use Rattle.std.proofs.Common.{◌≡◌, ℕ, ◌+◌, ◌++◌, ◌∷◌, [], length, true, ap, sym, ◌∙◌, rules, arith}
use Rattle.std.proofs.Common.{length-append, append_assoc}
use Rattle.std.specs.Prelude.{if◌then◌else◌, ◌==◌}
use Rattle.std.specs.Vec.Iter.{into_iter_items}
use Rattle.std.proofs.lemmas.List.{append-nil}
use Rattle.am_pipe.specs.{taken_by, end_view, known, weigh, weigh_to}
use Rattle.am_pipe.proofs.CountLemmas.{once_at, empty_where_length_is_zero}
use Rattle.am_pipe.proofs.RestLemmas.{taken_by_snoc}
use Rattle.am_pipe.proofs.ends.gather.Goals as goal

pub loop-end-preserved : goal.loop-end-preserved
loop-end-preserved g c =
    let inv = c.loop-end.invariant in
    let put = c.args.put in
    let done = c.loop-end.yielded in
    let end = c.in-Some.end in
    let others = into_iter_items c.next.new.self in
    let step : into_iter_items c.loop-end.end-iterator ≡ end ∷ others = search rules in
    let len : length done + 1 ≡ length (done ++ end ∷ []) =
    omega (arith, length-append done (end ∷ [])) in
    let got : taken_by done ++ end.got ≡ taken_by (done ++ end ∷ []) =
    sym (taken_by_snoc done end) in record {
      can = search rules;
      finite = search rules;
      queue = search rules;
      pipe = search rules;
      view = c.give_up.ensures.known
          ∙ ap (λ u. end_view true u.made (u.parts + 1) u.sent (u.got ++ end.got)) inv.view
          ∙ (λ i. end_view true put.takers (len i) put.sent (got i));
      rest = inv.rest ∙ ap (λ l. done ++ l) step ∙ sym (append_assoc done (end ∷ []) others);
    }

pub returns-clause-once : goal.returns-clause-once
returns-clause-once g c k =
    let inv = c.loop-end.invariant in
    let left = c.loop-end.end-iterator in
    let done = c.loop-end.yielded in
    let count : length (into_iter_items left) ≡ 0 =
    omega (arith, c.in-None.ensures.steps.0, left.rest.ok.0) in
    let none : into_iter_items left ≡ [] = empty_where_length_is_zero (into_iter_items left) count in
    let all : c.args.takers.items ≡ done =
    inv.rest ∙ ap (λ l. done ++ l) none ∙ append-nil done in
    let got : taken_by c.args.takers.items ≡ (known c.loop-end.pass).got =
    ap taken_by all ∙ sym (ap (λ u. u.got) inv.view) in
    let h = λ (p : ℕ). if p == k then 1 else 0 in
    ap (λ l. weigh h (l ++ c.take_rest-left.result.items)) got ∙ c.take_rest-left.ensures.once h
    ∙ ap (λ u. weigh_to h (length u.sent)) inv.view ∙ once_at k (length c.args.put.sent)
