use Rattle.std.proofs.Common.{◌≡◌, ◌+◌, ◌≤◌, length}
use Rattle.am_script.specs.{lines_of}
use Rattle.am_traces.specs.Texts.{lines_read, onto}
use Rattle.am_traces.proofs.trace.read_lines.Given as goal

abbrev pub invariant-loop-seen : goal.invariant-loop-seen
invariant-loop-seen l = record {
  same : onto l.seen.items (lines_read l.above (lines_of l.left)) ≡ lines_read 0 (lines_of l.fn.text);
  counted : l.above + length l.left ≤ length l.fn.text;
}

abbrev pub decreases-loop-seen : goal.decreases-loop-seen
decreases-loop-seen l = length l.left
