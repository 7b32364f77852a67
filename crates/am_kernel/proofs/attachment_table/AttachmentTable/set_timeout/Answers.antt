use Rattle.std.proofs.Common.{List, sym, subst}
use Rattle.am_group.proofs.LookupLemmas.{RiseBy-map}
use Rattle.am_kernel.specs.{AreHeld, Attached, RiseByFs, timeout_row}
use Rattle.am_kernel.proofs.AttachmentLemmas.{timeout_fs}
use Rattle.am_kernel.proofs.HolderLemmas.{held_timeout}
use Rattle.am_kernel.proofs.attachment_table.AttachmentTable.set_timeout.Goals as goal

pub invariant_of-self : goal.invariant_of-self
invariant_of-self c = record {
  rising =
      subst (λ (rows : List Attached). RiseByFs rows) (sym c.set_timeout.ensures)
      (RiseBy-map (λ (row : Attached). row.fs) (timeout_row c.args.fs c.args.timeout) (timeout_fs c.args.fs c.args.timeout) 0 c.self.inside.rows.items c.self.invariant.rising);
  ordered = c.self.invariant.ordered;
  held =
      subst (λ (rows : List Attached). AreHeld c.self.inside.holders.items rows) (sym c.set_timeout.ensures)
      (held_timeout c.self.inside.holders.items c.self.inside.rows.items c.args.fs c.args.timeout c.self.invariant.held);
}
