use Rattle.std.proofs.Common.{◌≡◌, ◌≤◌, ◌<◌, ◌-◌, Bool, List, length, drop, Some, sym, ap, subst, ◌∙◌, arith}
use Rattle.std.specs.Prelude.{filter, not}
use Rattle.std.specs.Option.{option_copied}
use Rattle.am_names.specs.{MountRow, is_among}
use Rattle.am_mount.specs.{AreIndexed, mount_row}
use Rattle.am_mount.proofs.IndexLemmas.{none_gone, gone_earlier, indexed_none, indexed_less, may_take_out, only_kept}
use Rattle.am_mount.proofs.RowLemmas.{RiseFrom-filter}
use Rattle.am_mount.proofs.tree.unlist.Goals as goal

pub loop-left-init : goal.loop-left-init
loop-left-init c = (
  omega arith,
  subst (λ (rows : List MountRow). AreIndexed rows c.args.indexes.now)
      (sym (none_gone c.args.gone.now c.args.rows.now)) c.requires.indexed,
)

pub remove-requires : goal.remove-requires
remove-requires c =
    let rows = c.args.rows.now in
    let keeps : MountRow → Bool = λ row. not (is_among (drop c.loop-left.left c.args.gone.now) row.mount) in
    let mount = c.index-gone-left.result in
    let found : mount_row rows mount ≡ Some c.in-Some.row.now =
    sym c.mount_row.ensures ∙ ap option_copied c.in-Some.is in
    may_take_out (filter keeps rows) (RiseFrom-filter keeps 0 rows c.requires.rising) c.in-Some.row.now
    (only_kept keeps rows c.requires.rising mount c.in-Some.row.now found) c.loop-left.indexes
    c.loop-left.invariant.1

pub loop-left-preserved-in-Some : goal.loop-left-preserved-in-Some
loop-left-preserved-in-Some c =
    let rows = c.args.rows.now in
    let gone = c.args.gone.now in
    let left = c.loop-left.left in
    let mount = c.index-gone-left.result in
    let some : 0 < left = c.loop-left-test.true in
    let bound : left ≤ length gone = c.loop-left.invariant.0 in
    let keeps : MountRow → Bool = λ row. not (is_among (drop left gone) row.mount) in
    let still : MountRow → Bool = λ row. not (is_among (drop (left - 1) gone) row.mount) in
    let less = gone_earlier gone left mount some bound c.index-gone-left.is in (
      omega arith,
      indexed_less mount keeps still less rows c.requires.rising c.in-Some.row.now c.loop-left.indexes c.remove.new.self
          (sym c.mount_row.ensures ∙ ap option_copied c.in-Some.is) c.remove.ensures c.loop-left.invariant.1,
    )

pub loop-left-preserved : goal.loop-left-preserved
loop-left-preserved c =
    let rows = c.args.rows.now in
    let gone = c.args.gone.now in
    let left = c.loop-left.left in
    let mount = c.index-gone-left.result in
    let some : 0 < left = c.loop-left-test.true in
    let bound : left ≤ length gone = c.loop-left.invariant.0 in
    let keeps : MountRow → Bool = λ row. not (is_among (drop left gone) row.mount) in
    let still : MountRow → Bool = λ row. not (is_among (drop (left - 1) gone) row.mount) in
    let less = gone_earlier gone left mount some bound c.index-gone-left.is in (
      omega arith,
      indexed_none mount keeps still less rows c.loop-left.indexes
          (sym c.mount_row.ensures ∙ ap option_copied c.in_default.is) c.loop-left.invariant.1,
    )
