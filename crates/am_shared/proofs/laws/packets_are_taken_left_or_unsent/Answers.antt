use Rattle.am_shared.proofs.PacketLemmas.{packets_once}
use Rattle.am_shared.proofs.laws.packets_are_taken_left_or_unsent.Goals as goal

pub returns : goal.returns
returns c = packets_once
