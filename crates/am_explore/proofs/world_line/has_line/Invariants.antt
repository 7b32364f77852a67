use Rattle.std.proofs.Common.{◌≡◌, length, option_copied}
use Rattle.am_script.specs.{lines_in}
use Rattle.am_explore.specs.WorldLines.{has_line, is_among_lines}
use Rattle.am_explore.proofs.world_line.has_line.Given as goal

-- if there is one, it is among those that are left
abbrev pub invariant-loop-rest : goal.invariant-loop-rest
invariant-loop-rest l = is_among_lines l.fn.sought (lines_in (option_copied l.rest)) ≡ has_line l.fn.sought l.fn.text

abbrev pub decreases-loop-rest : goal.decreases-loop-rest
decreases-loop-rest l = length (lines_in (option_copied l.rest))
