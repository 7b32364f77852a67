use Rattle.std.proofs.Common.{◌≡◌, ◌≤◌, length, take}
use Rattle.am_wait.specs.{walkers_at}
use Rattle.am_wait.proofs.seats.are_same_walkers.Given as goal

-- the walkers at the keys before this one are the same
abbrev pub invariant-loop-at : goal.invariant-loop-at
invariant-loop-at l =
    (take l.at (walkers_at l.fn.slab l.fn.keys) ≡ take l.at (walkers_at l.fn.others l.fn.other_keys)) ×
    (l.at ≤ length l.fn.keys)
