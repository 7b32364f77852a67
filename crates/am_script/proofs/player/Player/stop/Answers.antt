use Rattle.am_script.proofs.Closing.{closes_whole, closes_short}
use Rattle.am_script.proofs.player.Player.stop.Goals as goal

pub returns-in-None : goal.returns-in-None
returns-in-None g c = closes_whole _ _ _ _ _ c.flush.ensures.settles c.in-None.is c.flush.ensures.empty

pub returns-in-Some : goal.returns-in-Some
returns-in-Some g c = closes_short _ _ _ _ _ _ c.flush.ensures.settles c.in-Some.is
