use Rattle.am_group.specs.{group_numbers, is_at_or_under}
use Rattle.am_group.proofs.WalkLemmas.{IsWalk, left, live_master}
use Rattle.am_group.proofs.groups.Groups.met.Given as goal

abbrev pub invariant-loop-group : goal.invariant-loop-group
invariant-loop-group l =
    IsWalk l.fn.own (is_at_or_under l.fn.self l.fn.own) (live_master l.fn.self) l.met.items l.pending.items

abbrev pub decreases-loop-group : goal.decreases-loop-group
decreases-loop-group l = left l.met.items (group_numbers l.fn.self.groups)
