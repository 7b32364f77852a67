use Rattle.am_script.proofs.Closing.{closes_whole, closes_short}
use Rattle.am_script.proofs.turn.close.Goals as goal

pub returns-in-None-clause-closes : goal.returns-in-None-clause-closes
returns-in-None-clause-closes g c = closes_whole _ _ _ _ _ c.flush.ensures.settles c.in-None.is c.flush.ensures.empty

pub returns-in-Some-clause-closes : goal.returns-in-Some-clause-closes
returns-in-Some-clause-closes g c = closes_short _ _ _ _ _ _ c.flush.ensures.settles c.in-Some.is
