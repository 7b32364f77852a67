use Rattle.std.proofs.Common.{◌≡◌, List, sym, subst, rules, ◌∙◌}
use Rattle.std.specs.Prelude.{map}
use Rattle.std.specs.List.{slice_set}
use Rattle.std.proofs.lemmas.List.Sorted.{answers_always}
use Rattle.am_names.specs.{MemberRow}
use Rattle.am_group.specs.{at_row, RiseFrom}
use Rattle.am_group.proofs.SpareLemmas.{written_found, written_absent}
use Rattle.am_group.proofs.groups.changes.write_row.Goals as goal

pub returns-in-Ok : goal.returns-in-Ok
returns-in-Ok c =
    let slice = c.as_slice.result.now in
    let number = c.mount.inside.0 in
    let own : slice ≡ c.args.members.now.rows = c.as_slice.ensures.value in
    let up : RiseFrom 0 slice = subst (λ (xs : List MemberRow). RiseFrom 0 xs) (sym own) c.requires in
    let by_number = c.in-Ok.ensures.position (λ (r : MemberRow). r.mount)
    (answers_always _ _ _ (λ f a r g called. search rules)) in
    let found : slice_set slice c.in-Ok.at c.args.row ≡ map (at_row (λ r. c.args.row) number) slice =
    written_found slice up number c.args.row c.in-Ok.at c.in-Ok.ensures.bound by_number in
    rw (← c.mount.view_is)
    (c.set.ensures.rows ∙
    subst (λ (xs : List MemberRow). slice_set xs c.in-Ok.at c.args.row ≡ map (at_row (λ r. c.args.row) number) xs) own found)

pub returns-in_default : goal.returns-in_default
returns-in_default c =
    let slice = c.as_slice.result.now in
    let number = c.mount.inside.0 in
    let own : slice ≡ c.args.members.now.rows = c.as_slice.ensures.value in
    let up : RiseFrom 0 slice = subst (λ (xs : List MemberRow). RiseFrom 0 xs) (sym own) c.requires in
    let by_number = c.in_default.ensures.position (λ (r : MemberRow). r.mount)
    (answers_always _ _ _ (λ f a r g called. search rules)) in
    let none : slice ≡ map (at_row (λ r. c.args.row) number) slice = written_absent slice up number c.args.row c.in_default.field-0 by_number in
    rw (← c.mount.view_is) (subst (λ (xs : List MemberRow). xs ≡ map (at_row (λ r. c.args.row) number) xs) own none)
