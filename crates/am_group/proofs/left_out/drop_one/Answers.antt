use Rattle.std.proofs.Common.{◌≡◌, ◌++◌, List, suc, take, drop, sym, subst, ◌∙◌, rules}
use Rattle.std.proofs.lemmas.List.Sorted.{answers_always}
use Rattle.am_names.specs.{GroupRow}
use Rattle.am_group.specs.Invariant.{GroupsRise}
use Rattle.am_names.proofs.LeaveLemmas.{others}
use Rattle.am_group.proofs.LeaveLemmas.{left_found, left_absent}
use Rattle.am_group.proofs.left_out.drop_one.Goals as goal

pub returns-in-Ok : goal.returns-in-Ok
returns-in-Ok c =
    let slice = c.as_slice.result.now in
    let number = c.group.inside.0 in
    let own : slice ≡ c.args.groups.now.rows = c.as_slice.ensures.value in
    let up : GroupsRise slice = subst (λ (xs : List GroupRow). GroupsRise xs) (sym own) c.requires in
    let by_number = c.in-Ok.ensures.position (λ (r : GroupRow). r.group)
    (answers_always _ _ _ (λ f a r g called. search rules)) in
    let found : others (λ (row : GroupRow). row.group) number slice ≡ take c.in-Ok.at slice ++ drop (suc c.in-Ok.at) slice =
    left_found (λ (row : GroupRow). row.group) slice up number c.in-Ok.at c.in-Ok.ensures.bound by_number in
    rw (← c.group.view_is) (c.take_out.ensures.rows ∙
    sym (subst (λ (xs : List GroupRow). others (λ (row : GroupRow). row.group) number xs ≡ take c.in-Ok.at xs ++ drop (suc c.in-Ok.at) xs) own found))

pub returns-in_default : goal.returns-in_default
returns-in_default c =
    let slice = c.as_slice.result.now in
    let number = c.group.inside.0 in
    let own : slice ≡ c.args.groups.now.rows = c.as_slice.ensures.value in
    let up : GroupsRise slice = subst (λ (xs : List GroupRow). GroupsRise xs) (sym own) c.requires in
    let by_number = c.in_default.ensures.position (λ (r : GroupRow). r.group)
    (answers_always _ _ _ (λ f a r g called. search rules)) in
    let none : others (λ (row : GroupRow). row.group) number slice ≡ slice = left_absent (λ (row : GroupRow). row.group) slice up number c.in_default.field-0 by_number in
    rw (← c.group.view_is) (sym (subst (λ (xs : List GroupRow). others (λ (row : GroupRow). row.group) number xs ≡ xs) own none))
