use Rattle.std.proofs.Common.{◌≡◌, option_copied}
use Rattle.am_script.specs.{lines_in, size_in}
use Rattle.am_draw.specs.HeadNegative.{said}
use Rattle.am_draw.proofs.negative.next_said.Given as goal

abbrev pub invariant-loop-rest : goal.invariant-loop-rest
invariant-loop-rest l = said (lines_in (option_copied l.fn.lines)) ≡ said (lines_in (option_copied l.rest))

abbrev pub decreases-loop-rest : goal.decreases-loop-rest
decreases-loop-rest l = size_in (option_copied l.rest)
