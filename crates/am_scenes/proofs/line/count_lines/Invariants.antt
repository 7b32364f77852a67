use Rattle.std.proofs.Common.{◌≡◌, ◌≤◌, ◌+◌, ◌^◌, length, option_copied}
use Rattle.am_script.specs.{lines_in, lines_of}
use Rattle.am_scenes.proofs.line.count_lines.Given as goal

abbrev pub invariant-loop-rest : goal.invariant-loop-rest
invariant-loop-rest l = record {
  counted : l.number + length (lines_in (option_copied l.rest)) ≡ length (lines_of l.fn.text);
  fits : length (lines_of l.fn.text) ≤ 2 ^ 62;
}

abbrev pub decreases-loop-rest : goal.decreases-loop-rest
decreases-loop-rest l = length (lines_in (option_copied l.rest))
