use Rattle.std.proofs.Common.{◌≡◌, take}
use Rattle.am_map.specs.{with_key}
use Rattle.am_map.proofs.entry.with_key.Given as goal

abbrev pub invariant-loop-byte : goal.invariant-loop-byte
invariant-loop-byte l = l.replaced.items ≡ with_key l.key (take l.byte-index l.bytes)
