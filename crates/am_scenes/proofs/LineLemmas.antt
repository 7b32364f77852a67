-- How many lines a text has.
use Rattle.std.proofs.Common.{◌≡◌, ◌≤◌, ◌<◌, ◌+◌, ◌^◌, ℕ, List, length, arith}
use Rattle.std.proofs.lemmas.List.Splits.{length-slice_split}
use Rattle.std.proofs.lemmas.List.Sums.{count_by-le-length}
use Rattle.am_lines.specs.{is_line_feed}
use Rattle.am_script.specs.{lines_of}

-- no more than its bytes and one
pub lines_fit : (text : List ℕ) → length (lines_of text) ≤ length text + 1
lines_fit text = omega (arith, length-slice_split is_line_feed text, count_by-le-length is_line_feed text)

pub counted_first : (text : List ℕ) → 0 + length (lines_of text) ≡ length (lines_of text)
counted_first text = omega arith

pub lines_short : (text : List ℕ) → length text < 2 ^ 62 → length (lines_of text) ≤ 2 ^ 62
lines_short text h = omega (arith, lines_fit text, h)
