use Rattle.am_script.proofs.Pieces.{puts_two}
use Rattle.am_draw.proofs.stretch.put_catatonic_bars.Goals as goal

pub returns : goal.returns
returns g c =
    puts_two _ _ _ _ _ _ _ _
    c.put_token_bars.ensures c.put_system_bars.ensures
