use Rattle.std.proofs.Common.{List, sym, ap, subst, ◌∙◌}
use Rattle.std.specs.Prelude.{filter, not}
use Rattle.am_names.specs.{MountRow, is_among}
use Rattle.am_mount.specs.{AreIndexed, IsRising}
use Rattle.am_mount.proofs.RowLemmas.{RiseFrom-filter}
use Rattle.am_mount.proofs.tree.Tree.remove_each.Goals as goal

pub invariant_of-self : goal.invariant_of-self
invariant_of-self c =
    let left = c.leave_out.ensures in
    record {
      rising = subst (λ (rows : List MountRow). IsRising rows) (sym left) (RiseFrom-filter (λ row. not (is_among c.args.gone.now row.mount)) 0 c.self.inside.rows.rows c.self.invariant.rising);
      indexed = subst (λ (rows : List MountRow). AreIndexed rows c.unlist.new.indexes) (ap (filter (λ row. not (is_among c.args.gone.now row.mount))) c.as_slice.ensures.value ∙ sym left) c.unlist.ensures;
    }

pub returns : goal.returns
returns c =
    c.leave_out.ensures ∙ ap (filter (λ row. not (is_among c.args.gone.now row.mount))) c.self.view_is
