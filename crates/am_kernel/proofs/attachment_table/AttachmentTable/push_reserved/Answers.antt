use Rattle.std.proofs.Common.{◌<◌, ◌++◌, ◌∷◌, [], List, refl, sym, subst, arith}
use Rattle.std.specs.List.{All}
use Rattle.am_ordered.specs.RowTable.{RowTable}
use Rattle.am_kernel.specs.{Attached, Holder, RiseByFs, RiseByAttach, AreHeld}
use Rattle.am_kernel.proofs.HolderLemmas.{held_below, held_pushed}
use Rattle.am_kernel.proofs.RisingLemmas.{rises_on}
use Rattle.am_kernel.proofs.attachment_table.AttachmentTable.push_reserved.Goals as goal

pub invariant_of-self : goal.invariant_of-self
invariant_of-self c =
    let row : Attached = c.args.row in
    let new : Holder = record { attach = row.attach; fs = row.fs } in
    let rows : List Attached = c.self.inside.rows.items in
    let holders : List Holder = c.self.inside.holders.items in
    let above : All (λ (r : Attached). r.fs < row.fs) rows = subst (λ (t : RowTable Attached). All (λ (r : Attached). r.fs < row.fs) t.rows) (sym c.self.view_is) c.requires.above in
    let latest : All (λ (r : Attached). r.attach < row.attach) rows = subst (λ (t : RowTable Attached). All (λ (r : Attached). r.attach < row.attach) t.rows) (sym c.self.view_is) c.requires.latest in
    record {
      rising =
          subst (λ (xs : List Attached). RiseByFs xs) (sym c.push_reserved.ensures.items)
          (rises_on (λ (r : Attached). r.fs) 0 rows row c.self.invariant.rising (omega arith) above);
      ordered =
          subst (λ (xs : List Holder). RiseByAttach xs) (sym c.push_back_reserved.ensures.items)
          (rises_on (λ (h : Holder). h.attach) 0 holders new c.self.invariant.ordered (omega arith) (held_below row.attach holders rows c.self.invariant.held latest));
      held =
          subst (λ (xs : List Holder). AreHeld xs c.push_reserved.new.self.items) (sym c.push_back_reserved.ensures.items)
          (subst (λ (xs : List Attached). AreHeld (holders ++ new ∷ []) xs) (sym c.push_reserved.ensures.items) (held_pushed holders rows new row refl refl c.self.invariant.held));
    }
