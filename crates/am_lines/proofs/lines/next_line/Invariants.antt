use Rattle.std.proofs.Common.{◌≡◌, ◌≤◌, ◌+◌, ℕ, length}
use Rattle.am_lines.specs.{lines_from, put_before, raw_lines_in}
use Rattle.am_lines.proofs.lines.next_line.Given as goal

abbrev pub invariant-loop-front : goal.invariant-loop-front
invariant-loop-front l = record {
  so_far : (n : ℕ) → put_before n l.line.items (lines_from (n + l.raw_lines) l.rest) ≡ lines_from n l.fn.text;
  raw : l.raw_lines + raw_lines_in l.rest ≡ raw_lines_in l.fn.text;
  counted : l.raw_lines + length l.rest ≤ length l.fn.text;
}

abbrev pub decreases-loop-front : goal.decreases-loop-front
decreases-loop-front l = length l.rest
