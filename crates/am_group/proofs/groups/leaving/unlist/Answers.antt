use Rattle.std.proofs.Common.{◌≡◌, ◌≤◌, ◌<◌, ◌-◌, Bool, List, length, drop, refl, sym, subst, ◌∙◌, arith}
use Rattle.std.specs.Prelude.{filter, not, ◌==◌, ◌&&◌}
use Rattle.am_names.specs.{MemberRow, is_among}
use Rattle.am_group.specs.{ListMembers}
use Rattle.am_group.proofs.IndexedLemmas.{none_gone, gone_earlier, mount_absent, mount_less, members_lists_rise}
use Rattle.am_group.proofs.LookupLemmas.{RiseFrom-filter}
use Rattle.am_group.proofs.groups.leaving.unlist.Goals as goal

pub loop-left-init : goal.loop-left-init
loop-left-init c = (
  omega arith,
  subst (λ (rows : List MemberRow). ListMembers rows c.args.indexes.now)
      (sym (none_gone (λ (row : MemberRow). row.mount) c.args.gone.now c.args.members.now)) c.requires.indexed,
  λ n. refl,
)

pub remove-requires-clause-members : goal.remove-requires-clause-members
remove-requires-clause-members c =
    let keeps : MemberRow → Bool = λ row. not (is_among (drop c.loop-left.left c.args.gone.now) row.mount) in
    (members_lists_rise (filter keeps c.args.members.now)
    (RiseFrom-filter keeps 0 c.args.members.now c.requires.rising) c.loop-left.indexes c.loop-left.invariant.1).0

pub remove-requires-clause-slaves : goal.remove-requires-clause-slaves
remove-requires-clause-slaves c =
    let keeps : MemberRow → Bool = λ row. not (is_among (drop c.loop-left.left c.args.gone.now) row.mount) in
    (members_lists_rise (filter keeps c.args.members.now)
    (RiseFrom-filter keeps 0 c.args.members.now c.requires.rising) c.loop-left.indexes c.loop-left.invariant.1).1

pub loop-left-preserved-in-Some : goal.loop-left-preserved-in-Some
loop-left-preserved-in-Some c =
    let rows = c.args.members.now in
    let gone = c.args.gone.now in
    let left = c.loop-left.left in
    let mount = c.index-gone-left.result in
    let some : 0 < left = c.loop-left-test.true in
    let bound : left ≤ length gone = c.loop-left.invariant.0 in
    let keeps : MemberRow → Bool = λ row. not (is_among (drop left gone) row.mount) in
    let still : MemberRow → Bool = λ row. not (is_among (drop (left - 1) gone) row.mount) in
    let less : (r : MemberRow) → still r ≡ (keeps r && not (mount == r.mount)) =
    λ r. gone_earlier gone left mount some bound c.index-gone-left.is r.mount in (
      omega arith,
      mount_less mount keeps still less rows c.requires.rising c.in-Some.row c.loop-left.indexes c.remove.new.self
          (sym c.member_row.ensures ∙ c.in-Some.is) c.remove.ensures c.loop-left.invariant.1,
      λ n. c.remove.ensures.below n ∙ c.loop-left.invariant.2 n,
    )

pub loop-left-preserved : goal.loop-left-preserved
loop-left-preserved c =
    let rows = c.args.members.now in
    let gone = c.args.gone.now in
    let left = c.loop-left.left in
    let mount = c.index-gone-left.result in
    let some : 0 < left = c.loop-left-test.true in
    let bound : left ≤ length gone = c.loop-left.invariant.0 in
    let keeps : MemberRow → Bool = λ row. not (is_among (drop left gone) row.mount) in
    let still : MemberRow → Bool = λ row. not (is_among (drop (left - 1) gone) row.mount) in
    let less : (r : MemberRow) → still r ≡ (keeps r && not (mount == r.mount)) =
    λ r. gone_earlier gone left mount some bound c.index-gone-left.is r.mount in (
      omega arith,
      mount_absent mount keeps still less rows c.loop-left.indexes
          (sym c.member_row.ensures ∙ c.in_default.is) c.loop-left.invariant.1,
      c.loop-left.invariant.2,
    )
