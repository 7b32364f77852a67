use Rattle.std.proofs.Common.{◌≡◌, ◌≤◌, length, take}
use Rattle.am_ordered.proofs.same.are_same.Given as goal

-- the entries before this one are the same
abbrev pub invariant-loop-index : goal.invariant-loop-index
invariant-loop-index g l =
    (take l.index l.fn.one.entries ≡ take l.index l.fn.other.entries) × (l.index ≤ length l.fn.one.entries)
