use Rattle.std.proofs.Common.{List, sym, subst}
use Rattle.am_state.specs.{QueuedRow}
use Rattle.am_kernel.specs.{RiseByToken}
use Rattle.am_kernel.proofs.packet_queue.PacketQueue.copy.Goals as goal

pub invariant_of-result : goal.invariant_of-result
invariant_of-result c =
    subst (λ (rows : List QueuedRow). RiseByToken rows) (sym c.in_ok-copy.ensures.rows) c.self.invariant
