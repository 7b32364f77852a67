use Rattle.am_kernel.proofs.WaitingLemmas.{turn_taken}
use Rattle.am_kernel.proofs.walks.take_turn.Goals as goal

pub returns-clause-among : goal.returns-clause-among
returns-clause-among c other =
    rw (← c.walker.view_is)
    (turn_taken c.walker.inside.0 other _ _ (c.swap_remove-taken.ensures.updates.0 other))
