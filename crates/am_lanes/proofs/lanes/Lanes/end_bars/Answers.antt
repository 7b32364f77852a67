use Rattle.std.proofs.Common.{◌≡◌, ℕ, Option, None, subst, rules}
use Rattle.am_lanes.specs.{IsNextEnding}
use Rattle.am_lanes.proofs.LaneLemmas.{ends_all}
use Rattle.am_lanes.proofs.lanes.Lanes.end_bars.Goals as goal

pub returns : goal.returns
returns c =
    let none : c.next_ending.result ≡ None = search rules in
    ends_all c.args.ending.now c.args.self.now c.loop-lane.self c.loop-lane.from c.loop-lane.invariant
    (subst (λ (o : Option ℕ). IsNextEnding c.args.ending.now c.loop-lane.from c.loop-lane.self o) none c.next_ending.ensures.next)
