use Rattle.std.proofs.Common.{◌≡◌, ◌≤◌, length}
use Rattle.am_script.specs.{cut_line}
use Rattle.am_draw.proofs.negative.cut_line.Given as goal

abbrev pub invariant-loop-behind : goal.invariant-loop-behind
invariant-loop-behind l = record {
  same : cut_line l.rest ≡ cut_line l.fn.text;
  short : length l.rest ≤ length l.fn.text;
}

abbrev pub decreases-loop-behind : goal.decreases-loop-behind
decreases-loop-behind l = length l.rest
