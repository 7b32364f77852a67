use Rattle.std.proofs.Common.{◌≡◌, ◌==◌, Option, Some, sym, ap, subst, ◌∙◌}
use Rattle.std.specs.Prelude.{find}
use Rattle.std.specs.Option.{option_map}
use Rattle.std.specs.List.{All}
use Rattle.am_ordered.specs.RowTable.{RowTable}
use Rattle.am_kernel.specs.{Attached}
use Rattle.am_kernel.proofs.HolderLemmas.{alone, holder_is}
use Rattle.am_kernel.proofs.attachment_table.AttachmentTable.holder.Goals as goal

pub returns-clause-holder : goal.returns-clause-holder
returns-clause-holder c =
    let its = c.self.inside in
    c.holder_of.ensures
    ∙ holder_is its.holders.items its.rows.items c.self.invariant.ordered c.self.invariant.held c.args.attach
    ∙ ap (λ (t : RowTable Attached). option_map (λ (row : Attached). row.fs) (find (λ (row : Attached). row.attach == c.args.attach) t.rows)) c.self.view_is

pub returns-clause-alone : goal.returns-clause-alone
returns-clause-alone c =
    let its = c.self.inside in
    subst (λ (t : RowTable Attached). All (λ (row : Attached). row.attach ≡ c.args.attach → c.holder_of.result ≡ Some row.fs) t.rows) c.self.view_is
    (subst (λ (o : Option _). All (λ (row : Attached). row.attach ≡ c.args.attach → o ≡ Some row.fs) its.rows.items) (sym c.holder_of.ensures)
    (alone its.holders.items its.rows.items c.self.invariant.ordered c.self.invariant.held c.args.attach))
