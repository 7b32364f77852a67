use Rattle.std.proofs.Common.{◌∷◌, ◌++◌, ◌<◌, [], ℕ, List, length, sym, ap, rules, ◌∙◌}
use Rattle.am_names.specs.{names_of}
use Rattle.am_propagate.specs.{bare_top}
use Rattle.am_propagate.proofs.LoopLemmas.{gives_more, gives_none}
use Rattle.am_propagate.proofs.subtree.Subtree.with_bare_tops.Goals.{in-Some+in_ok-push-2, in_default}
use Rattle.am_propagate.proofs.subtree.Subtree.with_bare_tops.Goals as goal

pub loop-receiver-preserved : goal.loop-receiver-preserved
loop-receiver-preserved c =
    let h = bare_top c.args.self.now (names_of c.args.place.now) in
    let within : c.loop-receiver.receiver-index < length c.args.receivers.now = Prim.search rules in
    elim c.match-bare_top.branch [
      | in-Some+in_ok-push-2 w ↦
          ap (λ v. v.items) w.going-is ∙
          w.in_ok-push-2.ensures.items ∙
          ap (λ (xs : List ℕ). xs ++ w.in-Some.top ∷ []) c.loop-receiver.invariant ∙
          ap (λ (xs : List ℕ). c.args.mount ∷ xs) (sym (gives_more h c.args.receivers.now c.loop-receiver.receiver-index c.receiver-item.result within c.receiver-item.is w.in-Some.top (sym c.bare_top.ensures ∙ w.in-Some.is)))
      | in_default w ↦
          ap (λ v. v.items) w.going-is ∙
          c.loop-receiver.invariant ∙
          ap (λ (xs : List ℕ). c.args.mount ∷ xs) (sym (gives_none h c.args.receivers.now c.loop-receiver.receiver-index c.receiver-item.result within c.receiver-item.is (sym c.bare_top.ensures ∙ w.in_default.is)))
    ]
