use Rattle.std.proofs.Common.{◌≡◌, ◌++◌, List, suc, take, drop, sym, subst, ◌∙◌, rules}
use Rattle.std.proofs.lemmas.List.Sorted.{answers_always}
use Rattle.am_names.specs.{MemberRow}
use Rattle.am_group.specs.{RiseFrom}
use Rattle.am_names.proofs.LeaveLemmas.{others}
use Rattle.am_group.proofs.LeaveLemmas.{left_found, left_absent}
use Rattle.am_group.proofs.left_out.leave_one_out.Goals as goal

pub returns-in-Ok : goal.returns-in-Ok
returns-in-Ok c =
    let slice = c.as_slice.result.now in
    let number = c.mount.inside.0 in
    let own : slice ≡ c.args.members.now.rows = c.as_slice.ensures.value in
    let up : RiseFrom 0 slice = subst (λ (xs : List MemberRow). RiseFrom 0 xs) (sym own) c.requires in
    let by_number = c.in-Ok.ensures.position (λ (r : MemberRow). r.mount)
    (answers_always _ _ _ (λ f a r g called. search rules)) in
    let found : others (λ (row : MemberRow). row.mount) number slice ≡ take c.in-Ok.at slice ++ drop (suc c.in-Ok.at) slice =
    left_found (λ (row : MemberRow). row.mount) slice up number c.in-Ok.at c.in-Ok.ensures.bound by_number in
    rw (← c.mount.view_is) (c.take_out.ensures.rows ∙
    sym (subst (λ (xs : List MemberRow). others (λ (row : MemberRow). row.mount) number xs ≡ take c.in-Ok.at xs ++ drop (suc c.in-Ok.at) xs) own found))

pub returns-in_default : goal.returns-in_default
returns-in_default c =
    let slice = c.as_slice.result.now in
    let number = c.mount.inside.0 in
    let own : slice ≡ c.args.members.now.rows = c.as_slice.ensures.value in
    let up : RiseFrom 0 slice = subst (λ (xs : List MemberRow). RiseFrom 0 xs) (sym own) c.requires in
    let by_number = c.in_default.ensures.position (λ (r : MemberRow). r.mount)
    (answers_always _ _ _ (λ f a r g called. search rules)) in
    let none : others (λ (row : MemberRow). row.mount) number slice ≡ slice = left_absent (λ (row : MemberRow). row.mount) slice up number c.in_default.field-0 by_number in
    rw (← c.mount.view_is) (sym (subst (λ (xs : List MemberRow). others (λ (row : MemberRow). row.mount) number xs ≡ xs) own none))
