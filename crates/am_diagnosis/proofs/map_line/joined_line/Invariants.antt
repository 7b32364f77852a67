use Rattle.std.proofs.Common.{◌≡◌, ◌++◌}
use Rattle.std.specs.Option.{option_copied}
use Rattle.am_script.specs.Lines.{lines_in, lines_of, size_in}
use Rattle.am_diagnosis.specs.Maps.{joined_in}
use Rattle.am_diagnosis.proofs.map_line.joined_line.Given as goal

abbrev pub invariant-loop-rest : goal.invariant-loop-rest
invariant-loop-rest l = joined_in (lines_of l.fn.text) ≡ l.line.items ++ joined_in (lines_in (option_copied l.rest))

abbrev pub decreases-loop-rest : goal.decreases-loop-rest
decreases-loop-rest l = size_in (option_copied l.rest)
