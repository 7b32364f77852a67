use Rattle.std.proofs.Common.{ℕ, Bool, nat_lt, rules, arith}
use Rattle.std.specs.Prelude.{slice_get}
use Rattle.std.proofs.lemmas.Bool.Decides.{nat_tests}
use Rattle.std.proofs.lemmas.List.Sorted.{IsPartitionPoint-from_clause, IsPartitionedBy-ltb}
use Rattle.am_names.specs.declared.trigger.Trigger.{Trigger}
use Rattle.am_expire.specs.{rows_at, passes}
use Rattle.am_expire.proofs.OrderLemmas.{fs_rises}
use Rattle.am_expire.proofs.PlaceLemmas.{places_parted, rows_parted}
use Rattle.am_expire.proofs.order.Order.start.Goals as goal

pub returns-clause-start : goal.returns-clause-start
returns-clause-start c =
    let uses = c.args.triggers.now.rows.uses in
    let places = c.args.self.now.places.items in
    let fs = c.args.fs in
    let test : Trigger × ℕ → Bool = λ (x : Trigger × ℕ). nat_lt x.0.fs fs in
    let parted = IsPartitionedBy-ltb (λ (x : Trigger × ℕ). x.0.fs) (rows_at uses places) fs (fs_rises (rows_at uses places) c.requires.order.rising) in
    let place_point = IsPartitionPoint-from_clause (λ (place : ℕ). passes test (slice_get uses place)) _ _ c.partition_point.ensures.partitioned
    (places_parted test uses places c.requires parted) (λ a r q k. search rules) in
    let point = rows_parted test uses places c.requires c.partition_point.result (omega (arith, c.partition_point.ensures.bound, c.args.self.now.places.ok.0)) place_point in
    (λ k d low high. let p = point.0 k d low high in grind (arith, nat_tests), λ k d low high. let p = point.1 k d low high in grind (arith, nat_tests))
