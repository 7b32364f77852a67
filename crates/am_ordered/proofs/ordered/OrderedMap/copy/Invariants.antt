use Rattle.std.proofs.Common.{◌≡◌, ◌≤◌, ◌+◌, length, take}
use Rattle.am_ordered.proofs.ordered.OrderedMap.copy.Given as goal

-- the rows before this one are copied, and there is room for the others and as many more
abbrev pub invariant-loop-index : goal.invariant-loop-index
invariant-loop-index g l =
    (l.copy.entries ≡ take l.index l.fn.self.entries) × (l.index ≤ length l.fn.self.entries) ×
    (l.fn.self.room + length l.fn.self.entries ≤ l.copy.room + l.index)
