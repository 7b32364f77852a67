use Rattle.std.proofs.Common.{◌≡◌, List, [], IfOk, IfErr, map, refl, subst, true, Ok, Err}
use Rattle.std.proofs.lemmas.Result.{IfErr-weaker, IfOk-weaker}
use Rattle.std.specs.Prelude.{Option}
use Rattle.clap.specs.Words.{App, FailsBy, HasKind, HasMatchesOf, Row, Text, fault_of, is_simple_and_free, kind_of}
use Rattle.am_cli.specs.Args.{RefusedFor}
use Rattle.am_cli.specs.CommandLine.{Asks, AsksNothing, cli}
use Rattle.am_cli.proofs.AskedLemmas.{asked_answered, asked_taken, is_free, refused_answered, refused_taken}
use Rattle.am_cli.proofs.args.read_args.Goals as goal

pub returns-in-Ok-try_get_matches_from-clause-read : goal.returns-in-Ok-try_get_matches_from-clause-read
returns-in-Ok-try_get_matches_from-clause-read c =
    let words = map (λ word. word.now) c.args.words.now in
    let has = subst (λ (a : App). HasMatchesOf a words c.in-Ok-try_get_matches_from.matches) c.in-Ok.ensures.shape c.in-Ok-try_get_matches_from.ensures.matches in
    let free : fault_of cli words ≡ [] = subst (λ (a : App). is_simple_and_free a ≡ true → fault_of a words ≡ []) c.in-Ok.ensures.shape c.in-Ok-try_get_matches_from.ensures.kinds is_free in
    IfOk-weaker c.asked_in.result _ _ (λ args asks. asked_taken words args free (subst (λ (named : Option (Text × List Row)). Asks named args) (has refl).1 asks)) c.asked_in.ensures.asks

pub returns-in-Ok-try_get_matches_from-clause-refused : goal.returns-in-Ok-try_get_matches_from-clause-refused
returns-in-Ok-try_get_matches_from-clause-refused c =
    let words = map (λ word. word.now) c.args.words.now in
    let has = subst (λ (a : App). HasMatchesOf a words c.in-Ok-try_get_matches_from.matches) c.in-Ok.ensures.shape c.in-Ok-try_get_matches_from.ensures.matches in
    let free : fault_of cli words ≡ [] = subst (λ (a : App). is_simple_and_free a ≡ true → fault_of a words ≡ []) c.in-Ok.ensures.shape c.in-Ok-try_get_matches_from.ensures.kinds is_free in
    IfErr-weaker c.asked_in.result _ _ (λ fault none. refused_taken words fault free (subst (λ (named : Option (Text × List Row)). RefusedFor (AsksNothing named) fault) (has refl).1 none)) c.asked_in.ensures.refused

pub returns-in-Err-clause-read : goal.returns-in-Err-clause-read
returns-in-Err-clause-read c =
    let words = map (λ word. word.now) c.args.words.now in
    let kinds : HasKind (fault_of cli words) c.in-Err.error = subst (λ (a : App). is_simple_and_free a ≡ true → HasKind (fault_of a words) c.in-Err.error) c.in-Ok.ensures.shape c.in-Err.ensures.kinds is_free in
    IfOk-weaker c.answered.result _ _ (λ args by. asked_answered words (kind_of c.in-Err.error) args kinds by) c.answered.ensures.read

pub returns-in-Err-clause-refused : goal.returns-in-Err-clause-refused
returns-in-Err-clause-refused c =
    let words = map (λ word. word.now) c.args.words.now in
    let kinds : HasKind (fault_of cli words) c.in-Err.error = subst (λ (a : App). is_simple_and_free a ≡ true → HasKind (fault_of a words) c.in-Err.error) c.in-Ok.ensures.shape c.in-Err.ensures.kinds is_free in
    IfErr-weaker c.answered.result _ _ (λ fault by. refused_answered words (kind_of c.in-Err.error) fault kinds by) c.answered.ensures.refused
