use Rattle.am_progress.proofs.Packets.{packets_taken}
use Rattle.am_progress.proofs.laws.queued_packets_can_be_delivered.Goals as goal

pub returns : goal.returns
returns c = packets_taken
