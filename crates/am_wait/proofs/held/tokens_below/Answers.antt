use Rattle.std.proofs.Common.{rules, of_calls, tests, ltb, arith}
use Rattle.std.proofs.lemmas.Fn.{always_returns_same}
use Rattle.std.proofs.lemmas.List.Sorted.{IsPartitionedBy-ltb}
use Rattle.am_wait.specs.{HeldToken}
use Rattle.am_wait.proofs.RisingLemmas.{rise_on, point_is}
use Rattle.am_wait.proofs.held.tokens_below.Goals as goal

pub returns : goal.returns
returns c =
    let token = λ (row : HeldToken). row.token in
    let point = c.partition_point.ensures.partitioned (λ row. ltb row.token c.args.token) (always_returns_same _ _ _ (λ a r f k. search (rules, of_calls, tests)))
    (IsPartitionedBy-ltb token c.args.tokens.now.items c.args.token (rise_on token 0 c.args.tokens.now.items c.requires.rising)) in
    point_is token c.args.token c.partition_point.result c.args.tokens.now.items (omega (arith, c.partition_point.ensures.bound, c.args.tokens.now.ok.0)) point
