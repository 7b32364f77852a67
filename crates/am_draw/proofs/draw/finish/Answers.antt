use Rattle.am_draw.proofs.Draws.{finishes}
use Rattle.am_draw.proofs.draw.finish.Goals as goal

pub returns-clause-finishes : goal.returns-clause-finishes
returns-clause-finishes g c =
    finishes _ _ _ _ _ _ _ _ c.put_tail_behind.ensures c.close.ensures.closes
