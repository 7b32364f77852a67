use Rattle.std.proofs.Common.{◌≡◌, ◌≤◌, ◌+◌, ℕ, List, ◌++◌, length, Option}
use Rattle.am_script.specs.{ReadingStands}
use Rattle.am_script.proofs.reading.Reading.take_bytes.Given as goal

abbrev pub invariant-loop-end : goal.invariant-loop-end
invariant-loop-end g l = record {
  done : List ℕ;
  parts : l.bytes ≡ done ++ l.rest;
  stands : (text : List ℕ) → (start : Option (List ℕ)) → ReadingStands (g.M.Manner.writes l.manner) l.fn.self text start (g.W.Write.contents l.fn.writer) → ReadingStands (g.M.Manner.writes l.manner) l.self (text ++ done) start (g.W.Write.contents l.writer);
  number : l.self.player.number + length l.rest ≤ l.fn.self.player.number + length l.bytes;
}

abbrev pub decreases-loop-end : goal.decreases-loop-end
decreases-loop-end g l = length l.rest
