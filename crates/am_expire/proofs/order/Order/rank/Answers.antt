use Rattle.std.proofs.Common.{ℕ, Bool, rules, arith}
use Rattle.std.specs.Prelude.{slice_get}
use Rattle.std.specs.Ordering.{is_lt}
use Rattle.std.proofs.lemmas.List.Sorted.{IsPartitionPoint-from_clause}
use Rattle.am_names.specs.declared.trigger.Trigger.{Trigger}
use Rattle.am_expire.specs.{use_cmp, rows_at, passes}
use Rattle.am_expire.proofs.OrderLemmas.{ranked}
use Rattle.am_expire.proofs.PlaceLemmas.{places_parted, rows_parted}
use Rattle.am_expire.proofs.order.Order.rank.Goals as goal

pub returns-clause-rank : goal.returns-clause-rank
returns-clause-rank c =
    let uses = c.args.triggers.now.rows.uses in
    let places = c.args.self.now.places.items in
    let row : Trigger × ℕ = (c.args.trigger.now, c.args.moment) in
    let test : Trigger × ℕ → Bool = λ (x : Trigger × ℕ). is_lt (use_cmp x row) in
    let point = IsPartitionPoint-from_clause (λ (place : ℕ). passes test (slice_get uses place)) _ _ c.partition_point.ensures.partitioned
    (places_parted test uses places c.requires (ranked (rows_at uses places) row c.requires.order.rising)) (λ a r q k. search rules) in
    rows_parted test uses places c.requires c.partition_point.result (omega (arith, c.partition_point.ensures.bound, c.args.self.now.places.ok.0)) point
