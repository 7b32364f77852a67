use Rattle.am_views.proofs.FourPieces.{puts_four}
use Rattle.am_draw.proofs.titles.put_names.Goals as goal

pub returns : goal.returns
returns g c =
    rw (c.first_token-token.ensures.first, c.first_system-system.ensures.first, c.first_failing-failing.ensures.first, c.as_slice.ensures.value) at
    (puts_four _ _ _ _ _ _ _ _ _ _ _ _ _ _ c.put_first_names.ensures c.put_first_names-2.ensures c.put_first_names-3.ensures c.put_failing_names.ensures)
