use Rattle.std.proofs.Common.{◌≡◌, take}
use Rattle.am_daemon.proofs.copies.copies_of.Given as goal

abbrev pub invariant-loop-map : goal.invariant-loop-map
invariant-loop-map l = l.copies.items ≡ take l.map-index l.maps
