use Rattle.std.proofs.Common.{◌==◌, not, List, sym, subst}
use Rattle.am_group.proofs.LookupLemmas.{RiseBy-filter}
use Rattle.am_state.specs.{QueuedRow}
use Rattle.am_kernel.specs.{RiseByToken}
use Rattle.am_kernel.proofs.packet_queue.PacketQueue.take.Goals as goal

pub invariant_of-self : goal.invariant_of-self
invariant_of-self c =
    subst (λ (rows : List QueuedRow). RiseByToken rows) (sym c.take_row.ensures)
    (RiseBy-filter (λ (row : QueuedRow). row.token) (λ row. not (row.token == c.args.token)) 0 c.self.inside.rows.rows c.self.invariant)
