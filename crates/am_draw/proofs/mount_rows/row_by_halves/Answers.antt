use Rattle.std.proofs.Common.{◌≡◌, Some, get_or, sym, ap, ◌∙◌, rules}
use Rattle.std.proofs.lemmas.List.Sorted.{answers_always}
use Rattle.am_names.specs.{MountRow}
use Rattle.am_mount.specs.{mount_row}
use Rattle.am_mount.proofs.FindLemmas.{found, absent}
use Rattle.am_draw.proofs.mount_rows.row_by_halves.Goals as goal

pub returns-in-Ok : goal.returns-in-Ok
returns-in-Ok c =
    let rows = c.args.rows.now in
    let row = c.index-rows-at.result in
    let number = c.mount.inside.0 in
    let by_number = c.in-Ok.ensures.position (λ (r : MountRow). r.mount)
    (answers_always _ _ _ (λ f a r g called. search rules)) in
    let there : mount_row rows number ≡ Some (get_or rows c.in-Ok.at row) =
    found rows c.requires number c.in-Ok.at c.in-Ok.ensures.bound by_number row in
    rw (← c.mount.view_is) (ap Some c.index-rows-at.is ∙ sym there)

pub returns-in-Err : goal.returns-in-Err
returns-in-Err c =
    let rows = c.args.rows.now in
    let number = c.mount.inside.0 in
    let by_number = c.in-Err.ensures.position (λ (r : MountRow). r.mount)
    (answers_always _ _ _ (λ f a r g called. search rules)) in
    rw (← c.mount.view_is) (sym (absent rows c.requires number _ by_number))
