use Rattle.std.proofs.Common.{◌≡◌, length}
use Rattle.std.specs.Option.{option_map}
use Rattle.am_lines.specs.{words_of}
use Rattle.am_scenes.specs.ServiceWords.{failures_read, results_of}
use Rattle.am_scenes.proofs.ServiceLemmas.{with_failures}
use Rattle.am_scenes.proofs.service_words.read_results.Given as goal

abbrev pub invariant-loop-word : goal.invariant-loop-word
invariant-loop-word l = with_failures l.results.items (failures_read (words_of l.rest))
    ≡ option_map results_of (failures_read (words_of l.fn.words))

abbrev pub decreases-loop-word : goal.decreases-loop-word
decreases-loop-word l = length l.rest
