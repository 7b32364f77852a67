use Rattle.std.proofs.Common.{◌≡◌, ◌-◌, List, [], ◌∷◌, ◌++◌, Some, slice_get, length, rules, sym, ap, ◌∙◌, subst}
use mathlib.Core.List.{IsPrefix}
use Rattle.am_machine.specs.{Entry, entry}
use Rattle.am_shared.specs.{Known, left_of}
use Rattle.am_shared.specs.Chronicle.{AreIn, keeper}
use Rattle.am_shared.specs.Passes.{view_of}
use Rattle.am_shared.proofs.ApplyLemmas.{kept_opening}
use Rattle.am_shared.proofs.DeskLemmas.{kept_of, last_is, stands_last}
use Rattle.am_shared.proofs.desk.Desk.apply.Goals as goal

pub invariant_of-self-2 : goal.invariant_of-self-2
invariant_of-self-2 g c =
    let old = c.in-Some.shared.now in
    let new = c.apply_with.new.self in
    let position = c.in_ok-made.made.position in
    let answer = c.in_ok-made.made.answer in
    let there : c.self.inside.shared ≡ Some old = search rules in
    let kept = kept_of _ _ _ _ _ _ _ _ old there c.self.invariant.3 in
    let applied = c.in_ok-made.ensures.one in
    let last = c.in-Some-last.last.now in
    let at : slice_get c.history.result.now (length c.history.result.now - 1) ≡ Some last = search rules in
    let is : last ≡ entry c.args.event answer =
    last_is (left_of old) c.history.result.now (entry c.args.event answer) last
    (c.history.ensures.left ∙ applied.left) at in
    let k = c.record.ensures.keeper in
    let view : view_of c.record.new.keeping ≡ keeper g.L.Opened.callers new.history =
    k.1 ∙ (λ i. keeper (kept.0 i).made ((kept.0 i).all ++ is i ∷ []))
    ∙ ap (keeper g.L.Opened.callers) (sym applied.history) in (
      (k.0.0.0 ∙ c.requires.history, c.self.invariant.0.1, k.0.0.2),
      ap (λ (v : Known). v.keeps) view,
      ap (λ (v : Known). v.made) view,
      (
        view,
        kept_opening old new c.args.event position answer applied ∙ kept.1,
        applied.put.pipe ∙ kept.2,
        applied.put.takers ∙ kept.3,
        applied.put.room ∙ kept.4,
        applied.keep ∙ kept.5,
      ),
    )

pub returns-clause-ok : goal.returns-clause-ok
returns-clause-ok g c =
    let old = c.in-Some.shared.now in
    let there : c.self.inside.shared ≡ Some old = search rules in
    let kept = kept_of _ _ _ _ _ _ _ _ old there c.self.invariant.3 in
    let before = view_of c.args.calling.now in
    let behind = view_of c.record.new.calling in
    let all : (view_of c.self.inside.keeping).all ≡ old.history = ap (λ (v : Known). v.all) kept.0 in
    let applied = c.in_ok-made.ensures.one in
    let last = c.in-Some-last.last.now in
    let at : slice_get c.history.result.now (length c.history.result.now - 1) ≡ Some last = search rules in
    let is : last ≡ entry c.args.event c.in_ok-made.made.answer =
    last_is (left_of old) c.history.result.now (entry c.args.event c.in_ok-made.made.answer) last
    (c.history.ensures.left ∙ applied.left) at in
    stands_last g.L.Opened.opening old c.apply_with.new.self c.args.event c.in_ok-made.made.position
    c.in_ok-made.made.answer before behind applied c.history.ensures.shared kept.1
    (subst (λ (l : List Entry). AreIn l before.mine) all c.record.ensures.calls)
    (subst (λ (l : List Entry). IsPrefix before.seen l) all c.record.ensures.seen)
    (ap (λ (v : Known). v.seen) c.record.ensures.caller.1 ∙ (λ i. all i ++ is i ∷ []))
