use Rattle.std.proofs.Common.{◌∷◌, ◌∙◌, ℕ, List, ap, sym}
use Rattle.std.specs.Option.{option_map}
use Rattle.am_lines.specs.{words_of}
use Rattle.am_scenes.specs.ServiceWords.{failures_read, results_of}
use Rattle.am_scenes.proofs.ServiceLemmas.{fail_more}
use Rattle.am_scenes.proofs.service_words.read_results.Goals as goal

pub loop-word-preserved : goal.loop-word-preserved
loop-word-preserved c =
    let word = c.in-Some.word.now in
    fail_more c.loop-word.results.items c.push-in-Some.new.self.items (words_of c.loop-word.rest.now)
    (words_of c.in-Some-next_word.behind.now) word c.in-Some-next_word.digits.now c.in-Some-read_fail.failure
    (option_map results_of (failures_read (words_of c.args.words.now)))
    (c.in-Some.ensures.some ∙ ap (λ (l : List (List ℕ)). word ∷ l) c.in-Some-next_word.ensures.some)
    (sym c.in-Some-read_fail.ensures) c.in_ok-push-2.ensures.items c.loop-word.invariant
