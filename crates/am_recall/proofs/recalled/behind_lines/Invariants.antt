use Rattle.std.proofs.Common.{◌≡◌, drop}
use Rattle.am_recall.specs.Lines.{raw_lines}
use Rattle.am_recall.proofs.recalled.behind_lines.Given as goal

abbrev pub invariant-loop-above : goal.invariant-loop-above
invariant-loop-above l = raw_lines l.rest ≡ drop l._above (raw_lines l.fn.text)
