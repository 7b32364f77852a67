use Rattle.std.proofs.Common.{◌≡◌, ◌≤◌, ◌+◌, length, drop}
use Rattle.am_lines.specs.{words_of}
use Rattle.am_explain.specs.SceneSlips.{service_misfit}
use Rattle.am_explain.specs.declared.scene_expected.SceneExpected.TheVariants.{Daemon}
use Rattle.am_explain.proofs.scene_misfit.service_misfit.Given as goal

abbrev pub invariant-loop-word : goal.invariant-loop-word
invariant-loop-word l = record {
  same : service_misfit l.place l.expected (words_of l.rest) ≡ service_misfit 1 Daemon (drop 1 (words_of l.fn.line));
  within : l.place + length l.rest ≤ 1 + length l.fn.line;
}

abbrev pub decreases-loop-word : goal.decreases-loop-word
decreases-loop-word l = length l.rest
