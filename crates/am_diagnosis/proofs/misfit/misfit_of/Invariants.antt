use Rattle.std.proofs.Common.{◌≡◌, ◌≤◌, ◌+◌, length}
use Rattle.am_lines.specs.{words_of}
use Rattle.am_diagnosis.specs.Misfits.{misfit_of}
use Rattle.am_diagnosis.proofs.misfit.misfit_of.Given as goal

abbrev pub invariant-loop-word : goal.invariant-loop-word
invariant-loop-word l = record {
  same : misfit_of l.place l.parameters (words_of l.rest) ≡ misfit_of 1 l.fn.parameters (words_of l.fn.words);
  within : l.place + length l.rest ≤ 1 + length l.fn.words;
}

abbrev pub decreases-loop-word : goal.decreases-loop-word
decreases-loop-word l = length l.rest
