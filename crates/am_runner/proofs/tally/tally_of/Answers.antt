use Rattle.std.proofs.Common.{sym, ap, ◌∙◌}
use Rattle.std.specs.List.{count_by}
use Rattle.am_runner.specs.Runs.{enters, is_round, leaves}
use Rattle.am_runner.proofs.TallyLemmas.{history_tells}
use Rattle.am_runner.proofs.tally.tally_of.Goals as goal

pub returns : goal.returns
returns c all =
    let history = c.history-history.ensures.whole all in
    let tells = history_tells c.args.shared.now c.history-history.ensures.shared.kept.legal in record {
      rounds = c.rounds_in.ensures ∙ ap (count_by is_round) history;
      entered = c.entered_in.ensures ∙ ap (count_by enters) history ∙ sym tells.0;
      left = c.left_in.ensures ∙ ap (count_by leaves) history ∙ sym tells.1;
    }
