use Rattle.std.proofs.Common.{◌≡◌, List, get_or, ap, sym, subst, rules, ◌∙◌}
use Rattle.std.specs.Prelude.{map}
use Rattle.std.specs.List.{slice_set}
use Rattle.std.proofs.lemmas.List.Sorted.{answers_always}
use Rattle.am_names.specs.{MemberRow}
use Rattle.am_group.specs.{at_row, under_master, RiseFrom}
use Rattle.am_group.proofs.LiftingLemmas.{set_found, set_absent}
use Rattle.am_group.proofs.lifting.set_master.Goals as goal

pub returns-in-Ok : goal.returns-in-Ok
returns-in-Ok c =
    let slice = c.as_slice.result.now in
    let rows = c.args.members.now.rows in
    let number = c.args.number in
    let f = under_master c.args.master in
    let row = c.index-as_slice-at.result in
    let own : slice ≡ rows = c.as_slice.ensures.value in
    let up : RiseFrom 0 slice = subst (λ (xs : List MemberRow). RiseFrom 0 xs) (sym own) c.requires in
    let by_number = c.in-Ok.ensures.position (λ (r : MemberRow). r.mount)
    (answers_always _ _ _ (λ f a r g called. search rules)) in
    let is : row ≡ get_or slice c.in-Ok.at row =
    c.index-as_slice-at.is ∙ ap (λ (xs : List MemberRow). get_or xs c.in-Ok.at row) (c.as_slice-in-Ok.ensures.value ∙ sym own) in
    let found : slice_set slice c.in-Ok.at (f row) ≡ map (at_row f number) slice =
    set_found (λ (r : MemberRow). r.mount) f slice up number c.in-Ok.at row c.in-Ok.ensures.bound is by_number in
    (c.set.ensures.rows ∙
    ap (λ (r : MemberRow). slice_set c.args.members.now.rows c.in-Ok.at r) c.under_master.ensures ∙
    subst (λ (xs : List MemberRow). slice_set xs c.in-Ok.at (f row) ≡ map (at_row f number) xs) own found)

pub returns-in_default : goal.returns-in_default
returns-in_default c =
    let slice = c.as_slice.result.now in
    let number = c.args.number in
    let f = under_master c.args.master in
    let own : slice ≡ c.args.members.now.rows = c.as_slice.ensures.value in
    let up : RiseFrom 0 slice = subst (λ (xs : List MemberRow). RiseFrom 0 xs) (sym own) c.requires in
    let by_number = c.in_default.ensures.position (λ (r : MemberRow). r.mount)
    (answers_always _ _ _ (λ f a r g called. search rules)) in
    let none : slice ≡ map (at_row f number) slice = set_absent (λ (r : MemberRow). r.mount) f slice up number c.in_default.field-0 by_number in
    (subst (λ (xs : List MemberRow). xs ≡ map (at_row f number) xs) own none)
