use Rattle.std.proofs.Common.{◌≡◌, ◌≤◌, length}
use Rattle.am_script.specs.{cut_line}
use Rattle.am_scenes.proofs.line.cut_line.Given as goal

abbrev pub invariant-loop-after : goal.invariant-loop-after
invariant-loop-after l = record {
  same : cut_line l.rest ≡ cut_line l.fn.text;
  short : length l.rest ≤ length l.fn.text;
}

abbrev pub decreases-loop-after : goal.decreases-loop-after
decreases-loop-after l = length l.rest
