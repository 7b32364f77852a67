use Rattle.std.proofs.Common.{◌≤◌, ℕ, List, Bool, nat_lt, length, sym, ap, subst, rules, ◌∙◌}
use Rattle.std.proofs.lemmas.List.Sorted.{IsPartitionPoint-from_clause, IsPartitionedBy-ltb}
use Rattle.am_names.specs.{MemberRow}
use Rattle.am_names.specs.PeerGroups.{PeerGroups}
use Rattle.am_group.specs.{RiseFrom, below}
use Rattle.am_group.proofs.FindLemmas.{numbers_ordered}
use Rattle.am_group.proofs.GoneLemmas.{parted_count}
use Rattle.am_group.proofs.groups.Groups.rank.Goals as goal

pub returns-clause-rank : goal.returns-clause-rank
returns-clause-rank c =
    let m = c.args.mount in
    let rows = c.as_slice.result.now in
    let number : MemberRow → ℕ = λ (row : MemberRow). row.mount in
    let test : MemberRow → Bool = λ (row : MemberRow). nat_lt row.mount m in
    let rises : RiseFrom 0 rows =
    subst (λ (xs : List MemberRow). RiseFrom 0 xs) (sym c.as_slice.ensures.value) c.self.invariant.orderly.rising in
    let point = IsPartitionPoint-from_clause test rows _ c.partition_point.ensures.partitioned
    (IsPartitionedBy-ltb number rows m (numbers_ordered number rows rises)) (λ a r q k. search rules) in
    let bound : c.partition_point.result ≤ length rows = c.partition_point.ensures.bound in
    parted_count test rows c.partition_point.result bound point.0 point.1 ∙
    ap (λ (xs : List MemberRow). length (below m xs)) c.as_slice.ensures.value ∙
    ap (λ (x : PeerGroups). length (below m x.members)) c.self.view_is
