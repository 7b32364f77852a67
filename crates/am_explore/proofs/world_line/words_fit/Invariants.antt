use Rattle.std.proofs.Common.{◌≡◌, length}
use Rattle.am_lines.specs.{words_of}
use Rattle.am_explore.specs.WorldLines.{words_fit}
use Rattle.am_explore.proofs.world_line.words_fit.Given as goal

-- what is left decides
abbrev pub invariant-loop-one : goal.invariant-loop-one
invariant-loop-one l = words_fit (words_of l.sought) (words_of l.words)
    ≡ words_fit (words_of l.fn.sought) (words_of l.fn.words)

abbrev pub decreases-loop-one : goal.decreases-loop-one
decreases-loop-one l = length l.sought
