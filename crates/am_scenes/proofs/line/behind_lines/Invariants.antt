use Rattle.std.proofs.Common.{◌≡◌, drop, option_copied}
use Rattle.am_script.specs.{lines_in, lines_of}
use Rattle.am_scenes.proofs.line.behind_lines.Given as goal

abbrev pub invariant-loop : goal.invariant-loop
invariant-loop l = lines_in (option_copied l.rest) ≡ drop l.counter (lines_of l.fn.text)
