use Rattle.std.proofs.Common.{◌≤◌, ◌+◌, ◌^◌, option_copied}
use Rattle.am_script.specs.{lines_of, lines_in, size_in, IsLeft}
use Rattle.am_script.proofs.visit.open_text.Given as goal

abbrev pub invariant-loop-rest : goal.invariant-loop-rest
invariant-loop-rest l = record {
  left : IsLeft (lines_of l.text) l.heading l.number (lines_in (option_copied l.rest));
  fits : l.number + size_in (option_copied l.rest) ≤ 2 ^ 62;
}

abbrev pub decreases-loop-rest : goal.decreases-loop-rest
decreases-loop-rest l = size_in (option_copied l.rest)
