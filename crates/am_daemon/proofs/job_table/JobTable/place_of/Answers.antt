use Rattle.std.proofs.Common.{◌≡◌, false, sym, ap, ◌∙◌}
use Rattle.std.specs.Prelude.{is_some}
use Rattle.am_daemon.specs.{JobRows, is_among, tokens_of}
use Rattle.am_daemon.proofs.JobTableLemmas.{no_place}
use Rattle.am_daemon.proofs.job_table.JobTable.place_of.Goals as goal

pub returns-in_err-turn : goal.returns-in_err-turn
returns-in_err-turn c =
    let none : is_among c.args.job (tokens_of c.args.self.now.rows) ≡ false =
    sym (ap (λ (t : JobRows). is_among c.args.job (tokens_of t.rows)) c.self.view_is)
    ∙ sym (c.self.invariant.known c.args.job)
    ∙ sym c.turn_of.ensures
    ∙ ap is_some c.in_err-turn.was in
    c.from_residual.ensures ∙ sym (no_place c.args.job c.args.self.now.rows none)
