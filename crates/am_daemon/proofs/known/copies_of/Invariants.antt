use Rattle.std.proofs.Common.{◌≡◌, ◌≤◌, ◌+◌, length, take}
use Rattle.am_daemon.proofs.known.copies_of.Given as goal

-- the rows before this one are copied, and there is room for the others
abbrev pub invariant-loop-index : goal.invariant-loop-index
invariant-loop-index l =
    (l.copies.entries ≡ take l.index l.places.entries) × (l.index ≤ length l.places.entries) ×
    (length l.places.entries ≤ l.copies.room + l.index)
