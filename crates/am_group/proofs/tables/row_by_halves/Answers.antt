use Rattle.std.proofs.Common.{◌≡◌, Some, get_or, sym, ap, ◌∙◌, rules}
use Rattle.std.proofs.lemmas.List.Sorted.{answers_always}
use Rattle.am_names.specs.{MemberRow}
use Rattle.am_group.specs.{member_row}
use Rattle.am_group.proofs.FindLemmas.{found, absent}
use Rattle.am_group.proofs.tables.row_by_halves.Goals as goal

pub returns-in-Ok : goal.returns-in-Ok
returns-in-Ok c =
    let rows = c.args.members.now in
    let row = c.index-members-at.result in
    let number = c.mount.inside.0 in
    let by_number = c.in-Ok.ensures.position (λ (r : MemberRow). r.mount)
    (answers_always _ _ _ (λ f a r g called. search rules)) in
    let there : member_row rows number ≡ Some (get_or rows c.in-Ok.at row) =
    found (λ (row : MemberRow). row.mount) rows c.requires number c.in-Ok.at c.in-Ok.ensures.bound by_number row in
    rw (← c.mount.view_is) (ap Some c.index-members-at.is ∙ sym there)

pub returns-in-Err : goal.returns-in-Err
returns-in-Err c =
    let rows = c.args.members.now in
    let number = c.mount.inside.0 in
    let by_number = c.in-Err.ensures.position (λ (r : MemberRow). r.mount)
    (answers_always _ _ _ (λ f a r g called. search rules)) in
    rw (← c.mount.view_is) (sym (absent (λ (row : MemberRow). row.mount) rows c.requires number _ by_number))
