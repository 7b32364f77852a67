use Rattle.am_daemon.proofs.JobTableLemmas.{turn_taken}
use Rattle.am_daemon.proofs.job_table.take_turn.Goals as goal

pub returns : goal.returns
returns c other =
    rw (← c.job.view_is)
    (turn_taken c.job.inside.0 other _ _ (c.swap_remove-taken.ensures.updates.0 other))
