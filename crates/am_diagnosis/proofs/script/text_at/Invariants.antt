use Rattle.std.proofs.Common.{◌≡◌, drop}
use Rattle.am_script.specs.Lines.{lines_of}
use Rattle.am_diagnosis.proofs.script.text_at.Given as goal

abbrev pub invariant-loop-above : goal.invariant-loop-above
invariant-loop-above l = lines_of l.rest ≡ drop l._above (lines_of l.fn.script)
