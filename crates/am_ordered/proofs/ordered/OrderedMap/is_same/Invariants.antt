use Rattle.std.proofs.Common.{◌≡◌, ◌≤◌, length, take}
use Rattle.am_ordered.proofs.ordered.OrderedMap.is_same.Given as goal

-- the rows before this one are the same
abbrev pub invariant-loop-index : goal.invariant-loop-index
invariant-loop-index g l =
    (take l.index l.fn.self.entries ≡ take l.index l.fn.other.entries) × (l.index ≤ length l.fn.self.entries)
