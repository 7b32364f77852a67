use Rattle.std.proofs.Common.{take}
use Rattle.am_wait.proofs.SeatLemmas.{SetsAll}
use Rattle.am_wait.proofs.seats.set_statuses.Given as goal

abbrev pub invariant-loop-key : goal.invariant-loop-key
invariant-loop-key l = SetsAll l.fn.slab l.slab l.status (take l.key-index l.keys)
