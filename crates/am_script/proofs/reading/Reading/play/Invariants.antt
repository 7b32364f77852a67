use Rattle.std.proofs.Common.{◌≡◌, ◌≤◌, ◌*◌, List, [], ℕ}
use Rattle.std.specs.Io.KnownBytes.{Consumes}
use Rattle.am_script.specs.{ReadingStands}
use Rattle.am_script.proofs.reading.Reading.play.Given as goal

-- each time the reader is asked, no answer is held back
abbrev pub invariant-loop : goal.invariant-loop
invariant-loop g l = record {
  text : List ℕ;
  read : Consumes (g.R.Read.remaining l.fn.reader) (g.R.Read.remaining l.reader) text;
  stands : ReadingStands (g.M.Manner.writes l.manner) l.self text (g.W.Write.contents l.fn.writer) (g.W.Write.contents l.writer);
  number : l.self.player.number ≤ 4096 * l.counter;
  written : l.self.player.output.bytes.items ≡ [];
}
