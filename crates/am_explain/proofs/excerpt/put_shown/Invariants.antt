use Rattle.std.proofs.Common.{◌≡◌, ◌++◌, take, map}
use Rattle.am_explain.specs.Excerpts.{shown}
use Rattle.am_explain.proofs.excerpt.put_shown.Given as goal

abbrev pub invariant-loop-byte : goal.invariant-loop-byte
invariant-loop-byte l = l.text.items ≡ l.fn.text.items ++ map shown (take l.byte-index l.bytes)
