use Rattle.std.proofs.Common.{◌≡◌, ◌++◌, length, map}
use Rattle.am_lines.specs.{words_of}
use Rattle.am_mount_lines.proofs.words.words_in.Given as goal

abbrev pub invariant-loop-word : goal.invariant-loop-word
invariant-loop-word l = map (λ word. word.now) l.words.items ++ words_of l.rest ≡ words_of l.fn.line

abbrev pub decreases-loop-word : goal.decreases-loop-word
decreases-loop-word l = length l.rest
