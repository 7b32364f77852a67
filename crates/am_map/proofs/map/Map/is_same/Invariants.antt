use Rattle.std.proofs.Common.{◌≡◌, ◌≤◌, length, take}
use Rattle.am_map.proofs.map.Map.is_same.Given as goal

-- the rows before this one are the same
abbrev pub invariant-loop-index : goal.invariant-loop-index
invariant-loop-index l = (take l.index l.fn.self ≡ take l.index l.fn.other) × (l.index ≤ length l.fn.self)
