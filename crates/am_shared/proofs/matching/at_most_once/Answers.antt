use Rattle.std.proofs.Common.{rules}
use Rattle.am_shared.proofs.MatchLemmas.{apart_from, apart_rest, refuses}
use Rattle.am_shared.proofs.matching.at_most_once.Goals as goal

pub returns-then-not-all_away : goal.returns-then-not-all_away
returns-then-not-all_away g c =
    let inv = c.loop-caller.invariant in
    let parts =
    apart_from c.loop-caller.rest.now c.in-Some.caller.now c.receipts.result.now c.in-Some.others.now (search rules)
    (search rules) inv.rise in
    refuses c.all_away.result c.all_away.ensures (search rules)
    (λ once. (parts.0 (inv.same.0 once)).0)

pub loop-caller-preserved : goal.loop-caller-preserved
loop-caller-preserved g c =
    let inv = c.loop-caller.invariant in
    let parts =
    apart_from c.loop-caller.rest.now c.in-Some.caller.now c.receipts.result.now c.in-Some.others.now (search rules)
    (search rules) inv.rise in
    let away = c.all_away.ensures.0 (search rules) in
    record {
      rise = apart_rest c.loop-caller.rest.now c.in-Some.caller.now c.in-Some.others.now (search rules) inv.rise;
      same = ((λ once. (parts.0 (inv.same.0 once)).1), λ once. inv.same.1 (parts.1 (away, once)));
    }
