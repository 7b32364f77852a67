use Rattle.std.proofs.Common.{◌≡◌, ◌≤◌, ◌<◌, ◌-◌, Bool, List, length, drop, refl, sym, subst, ◌∙◌, arith}
use Rattle.std.specs.Prelude.{filter, not, ◌==◌, ◌&&◌}
use Rattle.am_names.specs.{GroupRow, is_among}
use Rattle.am_group.specs.{ListGroups}
use Rattle.am_group.proofs.IndexedLemmas.{none_gone, gone_earlier, group_absent, group_less, groups_lists_rise}
use Rattle.am_group.proofs.LookupLemmas.{RiseBy-filter}
use Rattle.am_group.proofs.groups.leaving.unlist_groups.Goals as goal

pub loop-left-init : goal.loop-left-init
loop-left-init c = (
  omega arith,
  subst (λ (rows : List GroupRow). ListGroups rows c.args.indexes.now)
      (sym (none_gone (λ (row : GroupRow). row.group) c.args.lost.now c.args.groups.now)) c.requires.indexed,
  λ n. refl,
  λ n. refl,
)

pub remove_group-requires : goal.remove_group-requires
remove_group-requires c =
    let keeps : GroupRow → Bool = λ row. not (is_among (drop c.loop-left.left c.args.lost.now) row.group) in
    groups_lists_rise (filter keeps c.args.groups.now)
    (RiseBy-filter (λ (row : GroupRow). row.group) keeps 0 c.args.groups.now c.requires.rising) c.loop-left.indexes c.loop-left.invariant.1

pub loop-left-preserved-in-Some : goal.loop-left-preserved-in-Some
loop-left-preserved-in-Some c =
    let rows = c.args.groups.now in
    let lost = c.args.lost.now in
    let left = c.loop-left.left in
    let group = c.index-lost-left.result in
    let some : 0 < left = c.loop-left-test.true in
    let bound : left ≤ length lost = c.loop-left.invariant.0 in
    let keeps : GroupRow → Bool = λ row. not (is_among (drop left lost) row.group) in
    let still : GroupRow → Bool = λ row. not (is_among (drop (left - 1) lost) row.group) in
    let less : (r : GroupRow) → still r ≡ (keeps r && not (group == r.group)) =
    λ r. gone_earlier lost left group some bound c.index-lost-left.is r.group in
    let inv = c.loop-left.invariant in (
      omega arith,
      group_less group keeps still less rows c.requires.rising c.in-Some.row c.loop-left.indexes c.remove_group.new.self
          (sym c.group_row.ensures ∙ c.in-Some.is) c.remove_group.ensures c.loop-left.invariant.1,
      λ n. c.remove_group.ensures.members n ∙ inv.2 n,
      λ n. c.remove_group.ensures.slaves n ∙ inv.3 n,
    )

pub loop-left-preserved : goal.loop-left-preserved
loop-left-preserved c =
    let rows = c.args.groups.now in
    let lost = c.args.lost.now in
    let left = c.loop-left.left in
    let group = c.index-lost-left.result in
    let some : 0 < left = c.loop-left-test.true in
    let bound : left ≤ length lost = c.loop-left.invariant.0 in
    let keeps : GroupRow → Bool = λ row. not (is_among (drop left lost) row.group) in
    let still : GroupRow → Bool = λ row. not (is_among (drop (left - 1) lost) row.group) in
    let less : (r : GroupRow) → still r ≡ (keeps r && not (group == r.group)) =
    λ r. gone_earlier lost left group some bound c.index-lost-left.is r.group in (
      omega arith,
      group_absent group keeps still less rows c.loop-left.indexes
          (sym c.group_row.ensures ∙ c.in_default.is) c.loop-left.invariant.1,
      c.loop-left.invariant.2,
      c.loop-left.invariant.3,
    )
