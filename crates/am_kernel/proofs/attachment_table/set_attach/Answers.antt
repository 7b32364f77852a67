use Rattle.std.proofs.Common.{◌≡◌, List, map, get_or, sym, ap, subst, ◌∙◌, rules}
use Rattle.std.specs.List.{slice_set}
use Rattle.std.proofs.lemmas.List.Sorted.{answers_always}
use Rattle.am_group.proofs.FindLemmas.{index_found}
use Rattle.am_kernel.specs.{Attached, RiseByFs, reattached_row}
use Rattle.am_kernel.proofs.AttachmentLemmas.{reattached_elsewhere, reattached_here}
use Rattle.am_kernel.proofs.RisingLemmas.{written_found, written_absent}
use Rattle.am_kernel.proofs.attachment_table.set_attach.Goals as goal

pub returns-in-Ok : goal.returns-in-Ok
returns-in-Ok c =
    let slice : List Attached = c.deref.result.now in
    let number = c.fs.inside.0 in
    let own : slice ≡ c.args.rows.now.items = c.deref.ensures.value in
    let up : RiseByFs slice = subst (λ (xs : List Attached). RiseByFs xs) (sym own) c.requires in
    let by_number = c.in-Ok.ensures.position (λ (r : Attached). r.fs)
    (answers_always _ _ _ (λ f a r g called. search rules)) in
    let row : Attached = c.index_mut.result.now in
    let written : Attached = record row { attach = c.args.attach } in
    let here = index_found (λ (r : Attached). r.fs) slice up number c.in-Ok.at c.in-Ok.ensures.bound by_number row in
    let row_is : row ≡ get_or slice c.in-Ok.at row = c.index_mut.ensures.value ∙ ap (λ (xs : List Attached). get_or xs c.in-Ok.at row) (sym own) in
    let is : written ≡ reattached_row number c.args.attach (get_or slice c.in-Ok.at row) =
    ap (λ (r : Attached). record r { attach = c.args.attach }) row_is ∙ reattached_here number c.args.attach (get_or slice c.in-Ok.at row) here in
    let found : slice_set slice c.in-Ok.at written ≡ map (reattached_row number c.args.attach) slice =
    written_found (λ (r : Attached). r.fs) number (reattached_row number c.args.attach) (reattached_elsewhere number c.args.attach) slice up c.in-Ok.at row written c.in-Ok.ensures.bound by_number is in
    rw (← c.fs.view_is) (subst (λ (xs : List Attached). slice_set xs c.in-Ok.at written ≡ map (reattached_row number c.args.attach) xs) own found)

pub returns-in_default : goal.returns-in_default
returns-in_default c =
    let slice : List Attached = c.deref.result.now in
    let number = c.fs.inside.0 in
    let own : slice ≡ c.args.rows.now.items = c.deref.ensures.value in
    let up : RiseByFs slice = subst (λ (xs : List Attached). RiseByFs xs) (sym own) c.requires in
    let by_number = c.in_default.ensures.position (λ (r : Attached). r.fs)
    (answers_always _ _ _ (λ f a r g called. search rules)) in
    let none : slice ≡ map (reattached_row number c.args.attach) slice =
    written_absent (λ (r : Attached). r.fs) number (reattached_row number c.args.attach) (reattached_elsewhere number c.args.attach) slice up c.in_default.field-0 by_number in
    rw (← c.fs.view_is) (subst (λ (xs : List Attached). xs ≡ map (reattached_row number c.args.attach) xs) own none)
