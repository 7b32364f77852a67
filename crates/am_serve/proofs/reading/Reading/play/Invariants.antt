use Rattle.std.proofs.Common.{◌≤◌, ◌*◌, List, ℕ}
use Rattle.std.specs.Io.KnownBytes.{Consumes}
use Rattle.am_serve.specs.Keeping.{AreFew}
use Rattle.am_serve.specs.Reading.{ReadingStands}
use Rattle.am_serve.proofs.reading.Reading.play.Given as goal

-- each time the reader is asked, all lines that were read whole are answered
abbrev pub invariant-loop : goal.invariant-loop
invariant-loop g l = record {
  text : List ℕ;
  read : Consumes (g.R.Read.remaining l.fn.reader) (g.R.Read.remaining l.reader) text;
  stands : ReadingStands l.self text (g.W.Write.contents l.fn.writer) (g.W.Write.contents l.writer);
  number : l.self.number ≤ 4096 * l.counter;
  few : AreFew l.self.service l.self.number;
}
