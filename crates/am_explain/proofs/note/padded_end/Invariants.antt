use Rattle.std.proofs.Common.{◌≡◌, ◌≤◌, ◌+◌}
use Rattle.std.specs.Option.{option_copied}
use Rattle.am_recall.specs.Lines.{left_lines}
use Rattle.am_explain.specs.Notes.{padded_end}
use Rattle.am_explain.proofs.Sizes.{size_left}
use Rattle.am_explain.proofs.note.padded_end.Given as goal

abbrev pub invariant-loop-rest : goal.invariant-loop-rest
invariant-loop-rest l = record {
  found : padded_end l.line_number (left_lines (option_copied l.rest)) ≡ padded_end l.fn.number (left_lines (option_copied l.fn.text));
  fits : l.line_number + size_left (option_copied l.rest) ≤ l.fn.number + size_left (option_copied l.fn.text);
}

abbrev pub decreases-loop-rest : goal.decreases-loop-rest
decreases-loop-rest l = size_left (option_copied l.rest)
