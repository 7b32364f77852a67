use Rattle.std.proofs.Common.{ℕ, ◌≡◌, ◌<◌, ◌==◌, List, Some, map, refl, sym, ap, subst, ◌∙◌}
use Rattle.std.specs.Prelude.{find, is_some}
use Rattle.std.specs.List.{All}
use Rattle.am_ordered.specs.RowTable.{RowTable}
use Rattle.am_group.proofs.LookupLemmas.{RiseBy-map}
use Rattle.am_kernel.specs.{AreHeld, Attached, Holder, RiseByAttach, RiseByFs, reattached_row}
use Rattle.am_kernel.specs.declared.attachment_table.AttachmentTable.TheInside.{Inside}
use Rattle.am_kernel.proofs.AttachmentLemmas.{reattached_fs}
use Rattle.am_kernel.proofs.HolderLemmas.{held_absent, held_renewed, old_held, rises_renewed}
use Rattle.am_kernel.proofs.attachment_table.AttachmentTable.set_attach.Goals as goal
use Rattle.am_kernel.proofs.attachment_table.AttachmentTable.set_attach.Goals.{in-Some, in_default}

pub renew-requires-clause-held : goal.renew-requires-clause-held
renew-requires-clause-held c =
    let its = c.self.inside in
    let found : find (λ (r : Attached). r.fs == c.args.fs) its.rows.items ≡ Some c.in-Some.row =
    ap (λ (xs : List Attached). find (λ (r : Attached). r.fs == c.args.fs) xs) (sym c.as_slice.ensures.value) ∙ sym c.row_of.ensures ∙ c.in-Some.is in
    ap (λ o. is_some o) (old_held c.args.fs c.args.attach its.holders.items its.rows.items c.in-Some.row c.self.invariant.rising c.self.invariant.ordered c.self.invariant.held found)

-- what holds before the rows are written
record IsRenewed (fs attach : ℕ) (t : Inside) : Type 0 where
  rising : RiseByFs t.rows.items
  ordered : RiseByAttach t.holders.items
  held : AreHeld t.holders.items (map (reattached_row fs attach) t.rows.items)

pub invariant_of-self : goal.invariant_of-self
invariant_of-self c =
    let its : Inside = c.self.inside in
    let mid : Inside = c.match-row_of.self-inside in
    let fs : ℕ = c.args.fs in
    let attach : ℕ = c.args.attach in
    let above : All (λ (r : Attached). r.attach < attach) its.rows.items = subst (λ (t : RowTable Attached). All (λ (r : Attached). r.attach < attach) t.rows) (sym c.self.view_is) c.requires in
    let found : c.row_of.result ≡ find (λ (r : Attached). r.fs == fs) its.rows.items =
    c.row_of.ensures ∙ ap (λ (xs : List Attached). find (λ (r : Attached). r.fs == fs) xs) c.as_slice.ensures.value in
    let renewed : IsRenewed fs attach mid =
    elim c.match-row_of.branch [
      | in-Some w ↦
          let row : Attached = w.in-Some.row in
          let new : Holder = record { attach = attach; fs = fs } in
          let there : find (λ (r : Attached). r.fs == fs) its.rows.items ≡ Some row = sym found ∙ w.in-Some.is in
          subst (λ (t : Inside). IsRenewed fs attach t) (sym w.self-inside-is)
          (record {
            rising = c.self.invariant.rising;
            ordered =
                subst (λ (hs : List Holder). RiseByAttach hs) (sym w.renew.ensures)
                (rises_renewed fs attach its.holders.items its.rows.items row c.self.invariant.rising c.self.invariant.ordered c.self.invariant.held there new refl above);
            held =
                subst (λ (hs : List Holder). AreHeld hs (map (reattached_row fs attach) its.rows.items)) (sym w.renew.ensures)
                (held_renewed fs attach its.holders.items its.rows.items row c.self.invariant.rising c.self.invariant.ordered c.self.invariant.held there new refl refl);
          })
      | in_default w ↦
          subst (λ (t : Inside). IsRenewed fs attach t) (sym w.self-inside-is)
          (record {
            rising = c.self.invariant.rising;
            ordered = c.self.invariant.ordered;
            held = held_absent fs attach its.holders.items its.rows.items c.self.invariant.rising c.self.invariant.held (sym found ∙ w.in_default.is);
          })
    ] in
    record {
      rising =
          subst (λ (rows : List Attached). RiseByFs rows) (sym c.set_attach.ensures)
          (RiseBy-map (λ (row : Attached). row.fs) (reattached_row fs attach) (reattached_fs fs attach) 0 mid.rows.items renewed.rising);
      ordered = renewed.ordered;
      held = subst (λ (rows : List Attached). AreHeld mid.holders.items rows) (sym c.set_attach.ensures) renewed.held;
    }
