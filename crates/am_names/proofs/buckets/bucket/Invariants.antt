use Rattle.std.proofs.Common.{◌≡◌, drop}
use Rattle.am_names.specs.Buckets.{mixed}
use Rattle.am_names.proofs.buckets.bucket.Given as goal

abbrev pub invariant-loop-byte : goal.invariant-loop-byte
invariant-loop-byte l = mixed 0 l.fn.text ≡ mixed l.bucket (drop l.byte-index l.fn.text)
