use Rattle.std.proofs.Common.{◌≡◌, ◌<◌, ◌+◌, ◌-◌, ◌∷◌, ℕ, suc, List, length, take, arith, rules, refl, sym, ap, subst, ◌∙◌}
use Rattle.std.proofs.lemmas.List.{length-take-le}
use Rattle.am_names.specs.{MountRow}
use Rattle.am_propagate.specs.Copying.{AreBelow}
use Rattle.am_propagate.proofs.ComingLemmas.{adds_back, adds_below, adds_more}
use Rattle.am_propagate.proofs.subtree.addition.add_rows_at.Goals as goal

pub loop-index-init : goal.loop-index-init
loop-index-init c = record {
  rows = c.in_ok-add_row_at.ensures.ok;
  below = subst (λ (k : ℕ). AreBelow k c.add_row_at.new.tree) (omega arith)
      (adds_below c.args.at.now.place c.args.fs c.args.mount c.args.mount c.args.at.now.mount c.args.tree.now c.add_row_at.new.tree c.requires.above c.in_ok-add_row_at.ensures.ok);
}

pub overflow_add-number : goal.overflow_add-number
overflow_add-number c =
    let fits : c.args.mount + length c.args.receivers.now < 18446744073709551616 = c.requires.numbers in
    let same : c.mount.inside.0 ≡ c.args.mount = c.mount.view_is ∙ refl in
    let within : c.loop-index.index < length c.args.receivers.now = search rules in
    omega arith

pub overflow_add-number-in-loop-index : goal.overflow_add-number-in-loop-index
overflow_add-number-in-loop-index c =
    let fits : c.args.mount + length c.args.receivers.now < 18446744073709551616 = c.requires.numbers in
    let same : c.mount.inside.0 ≡ c.args.mount = c.mount.view_is ∙ refl in
    let within : c.loop-index.index < length c.args.receivers.now = search rules in
    omega arith

pub add_row_at-requires-in-loop-index : goal.add_row_at-requires-in-loop-index
add_row_at-requires-in-loop-index c =
    subst (λ (n : ℕ). AreBelow (n + c.loop-index.index + 1) c.loop-index.tree) (sym c.mount.view_is) c.loop-index.invariant.below

pub returns-in-Err-clause-err : goal.returns-in-Err-clause-err
returns-in-Err-clause-err c =
    let i = c.loop-index.index in
    let receivers = c.args.receivers.now in
    let within : i < length receivers = search rules in
    let long : length (take i receivers) ≡ i = length-take-le i receivers (omega arith) in
    c.take_back.ensures ∙ ap (λ (xs : List MountRow). take (length xs - (i + 1)) xs) c.in-Err.ensures.err ∙
    adds_back c.args.at.now.place c.args.fs c.args.mount c.args.mount (i + 1) (c.args.at.now.mount ∷ take i receivers) c.args.tree.now c.loop-index.tree c.loop-index.invariant.rows (omega arith)

pub loop-index-preserved : goal.loop-index-preserved
loop-index-preserved c =
    let place = c.args.at.now.place in
    let fs = c.args.fs in
    let n = c.args.mount in
    let i = c.loop-index.index in
    let receivers = c.args.receivers.now in
    let d = c.index-receivers-index.result in
    let within : i < length receivers = search rules in
    let same : c.mount.inside.0 ≡ n = c.mount.view_is ∙ refl in
    let here = c.requires.there d (suc i, omega arith, sym c.index-receivers-index.is) in
    let number : c.mount.inside.0 + i + 1 ≡ n + 1 + i = omega arith in
    record {
      rows = adds_more place fs n n (c.mount.inside.0 + i + 1) c.args.at.now.mount receivers i d within c.index-receivers-index.is number
          c.args.tree.now c.loop-index.tree c.add_row_at-in-loop-index.new.tree here.0 here.1
          c.loop-index.invariant.rows c.in_default.ensures.ok;
      below = subst (λ (k : ℕ). AreBelow k c.add_row_at-in-loop-index.new.tree) (omega arith)
          (adds_below place fs n (c.mount.inside.0 + i + 1) d c.loop-index.tree c.add_row_at-in-loop-index.new.tree
          (subst (λ (k : ℕ). AreBelow (k + i + 1) c.loop-index.tree) (sym c.mount.view_is) c.loop-index.invariant.below)
          c.in_default.ensures.ok);
    }
