use Rattle.am_script.proofs.Pieces.{puts_three}
use Rattle.am_draw.proofs.failing_bars.put_all_bars.Goals as goal

pub returns : goal.returns
returns g c =
    puts_three _ _ _ _ _ _ _ _ _ _ _
    c.put_token_bars.ensures c.put_walker_bars.ensures c.put_right_bars.ensures
