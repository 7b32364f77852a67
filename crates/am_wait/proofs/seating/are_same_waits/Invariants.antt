use Rattle.std.proofs.Common.{◌<◌, ◌≤◌, ℕ, length, get_or}
use Rattle.am_wait.specs.{HasSameWait}
use Rattle.am_wait.proofs.seating.are_same_waits.Given as goal

-- each walker before this one has the same wait
abbrev pub invariant-loop-index : goal.invariant-loop-index
invariant-loop-index l =
    ((k : ℕ) (d : ℕ × ℕ) → k < l.index →
    HasSameWait l.fn.slab l.fn.seats.rows l.fn.others l.fn.other.rows (get_or l.fn.keys.entries k d).0) ×
    (l.index ≤ length l.fn.keys.entries)
