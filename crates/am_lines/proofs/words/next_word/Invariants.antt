use Rattle.std.proofs.Common.{◌≡◌, ◌≤◌, length}
use Rattle.am_lines.specs.{words_of}
use Rattle.am_lines.proofs.words.next_word.Given as goal

abbrev pub invariant-loop-word : goal.invariant-loop-word
invariant-loop-word l = record {
  same : words_of l.rest ≡ words_of l.fn.line;
  shorter : length l.rest ≤ length l.fn.line;
}

abbrev pub decreases-loop-word : goal.decreases-loop-word
decreases-loop-word l = length l.rest
