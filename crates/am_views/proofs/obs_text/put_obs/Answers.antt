use Rattle.am_script.proofs.Pieces.{puts_two}
use Rattle.am_views.proofs.obs_text.put_obs.Goals as goal

pub returns-in-Reattached : goal.returns-in-Reattached
returns-in-Reattached g c =
    rw (c.in-Reattached.is, ← c.fs-in-Reattached.view_is, ← c.attach-in-Reattached.view_is)
    (rw (c.from-in-Reattached.ensures, c.from-in-Reattached-2.ensures) at (puts_two _ _ _ _ _ _ _ _ c.put_number-in-Reattached.ensures c.put_number-in-Reattached-2.ensures))
