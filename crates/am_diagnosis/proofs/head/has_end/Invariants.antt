use Rattle.std.proofs.Common.{◌≡◌}
use Rattle.std.specs.Option.{option_copied}
use Rattle.std.specs.List.{list_any}
use Rattle.am_script.specs.Lines.{lines_in, size_in}
use Rattle.am_script.specs.Sections.{is_end}
use Rattle.am_diagnosis.proofs.head.has_end.Given as goal

abbrev pub invariant-loop-rest : goal.invariant-loop-rest
invariant-loop-rest l = list_any is_end (lines_in (option_copied l.rest)) ≡ list_any is_end (lines_in (option_copied l.fn.text))

abbrev pub decreases-loop-rest : goal.decreases-loop-rest
decreases-loop-rest l = size_in (option_copied l.rest)
