use Rattle.std.proofs.Common.{◌≡◌, ◌≤◌, ◌+◌, ℕ, List, ◌++◌, length}
use Rattle.am_serve.specs.Keeping.{AreFew}
use Rattle.am_serve.proofs.ReadingLemmas.{Reaches}
use Rattle.am_serve.proofs.reading.Reading.take_bytes.Given as goal

abbrev pub invariant-loop-end : goal.invariant-loop-end
invariant-loop-end g l = record {
  done : List ℕ;
  parts : l.bytes ≡ done ++ l.rest;
  stands : Reaches l.fn.self l.self done (g.W.Write.contents l.fn.writer) (g.W.Write.contents l.writer);
  number : l.self.number + length l.rest ≤ l.fn.self.number + length l.bytes;
  few : AreFew l.self.service l.self.number;
}

abbrev pub decreases-loop-end : goal.decreases-loop-end
decreases-loop-end g l = length l.rest
