use Rattle.std.proofs.Common.{◌≡◌, List, get_or, ap, sym, subst, rules, ◌∙◌}
use Rattle.std.specs.Prelude.{map}
use Rattle.std.specs.List.{slice_set}
use Rattle.std.proofs.lemmas.List.Sorted.{answers_always}
use Rattle.am_names.specs.{GroupRow}
use Rattle.am_group.specs.{at_group, group_under}
use Rattle.am_group.specs.Invariant.{GroupsRise}
use Rattle.am_group.proofs.LiftingLemmas.{set_found, set_absent}
use Rattle.am_group.proofs.lifting.set_group_master.Goals as goal

pub returns-in-Ok : goal.returns-in-Ok
returns-in-Ok c =
    let slice = c.as_slice.result.now in
    let rows = c.args.groups.now.rows in
    let number = c.args.number in
    let f = group_under c.args.master in
    let row = c.index-as_slice-at.result in
    let own : slice ≡ rows = c.as_slice.ensures.value in
    let up : GroupsRise slice = subst (λ (xs : List GroupRow). GroupsRise xs) (sym own) c.requires in
    let by_number = c.in-Ok.ensures.position (λ (r : GroupRow). r.group)
    (answers_always _ _ _ (λ f a r g called. search rules)) in
    let is : row ≡ get_or slice c.in-Ok.at row =
    c.index-as_slice-at.is ∙ ap (λ (xs : List GroupRow). get_or xs c.in-Ok.at row) (c.as_slice-in-Ok.ensures.value ∙ sym own) in
    let found : slice_set slice c.in-Ok.at (f row) ≡ map (at_group f number) slice =
    set_found (λ (r : GroupRow). r.group) f slice up number c.in-Ok.at row c.in-Ok.ensures.bound is by_number in
    (c.set.ensures.rows ∙
    subst (λ (xs : List GroupRow). slice_set xs c.in-Ok.at (f row) ≡ map (at_group f number) xs) own found)

pub returns-in_default : goal.returns-in_default
returns-in_default c =
    let slice = c.as_slice.result.now in
    let number = c.args.number in
    let f = group_under c.args.master in
    let own : slice ≡ c.args.groups.now.rows = c.as_slice.ensures.value in
    let up : GroupsRise slice = subst (λ (xs : List GroupRow). GroupsRise xs) (sym own) c.requires in
    let by_number = c.in_default.ensures.position (λ (r : GroupRow). r.group)
    (answers_always _ _ _ (λ f a r g called. search rules)) in
    let none : slice ≡ map (at_group f number) slice = set_absent (λ (r : GroupRow). r.group) f slice up number c.in_default.field-0 by_number in
    (subst (λ (xs : List GroupRow). xs ≡ map (at_group f number) xs) own none)
