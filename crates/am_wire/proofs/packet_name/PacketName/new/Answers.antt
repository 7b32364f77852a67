use Rattle.am_wire.proofs.StoredLemmas.{stored_put}
use Rattle.am_wire.proofs.packet_name.PacketName.new.Goals as goal

pub invariant_of-result : goal.invariant_of-result
invariant_of-result c = stored_put c.args.bytes.now c.copy_from_slice.new.self c.copy_from_slice.ensures.after c.requires
