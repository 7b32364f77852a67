use Rattle.std.proofs.Common.{◌-◌, ◌≤◌, drop, length}
use Rattle.am_recall.specs.Lines.{LeavesLines}
use Rattle.am_recall.proofs.recalled.whole_lines.Given as goal

abbrev pub invariant-loop-place : goal.invariant-loop-place
invariant-loop-place l = (l.at ≤ length l.bytes) × (l.lines ≤ l.at) × LeavesLines l.lines l.bytes (drop l.at l.bytes)

abbrev pub decreases-loop-place : goal.decreases-loop-place
decreases-loop-place l = length l.bytes - l.at
