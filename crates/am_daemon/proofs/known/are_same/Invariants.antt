use Rattle.std.proofs.Common.{◌≡◌, ◌≤◌, length, take}
use Rattle.am_daemon.proofs.known.are_same.Given as goal

-- the paths before this one are the same
abbrev pub invariant-loop-index : goal.invariant-loop-index
invariant-loop-index l = (take l.index l.fn.places.entries ≡ take l.index l.fn.others.entries) × (l.index ≤ length l.fn.places.entries)
