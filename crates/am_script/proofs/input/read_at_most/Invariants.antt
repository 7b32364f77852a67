use Rattle.std.proofs.Common.{◌≤◌, ◌*◌, vec_len}
use Rattle.std.specs.Io.KnownBytes.{Consumes}
use Rattle.am_script.proofs.input.read_at_most.Given as goal

abbrev pub invariant-loop : goal.invariant-loop
invariant-loop g l = record {
  read : Consumes (g.R.Read.remaining l.fn.reader) (g.R.Read.remaining l.reader) l.text.items;
  short : vec_len l.text ≤ 4096 * l.counter;
}
