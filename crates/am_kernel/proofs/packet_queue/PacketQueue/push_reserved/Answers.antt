use Rattle.std.proofs.Common.{◌<◌, List, sym, subst, arith}
use Rattle.std.specs.List.{All}
use Rattle.am_ordered.specs.RowTable.{RowTable}
use Rattle.am_state.specs.{QueuedRow}
use Rattle.am_kernel.specs.{RiseByToken}
use Rattle.am_kernel.proofs.RisingLemmas.{rises_on}
use Rattle.am_kernel.proofs.packet_queue.PacketQueue.push_reserved.Goals as goal

pub invariant_of-self : goal.invariant_of-self
invariant_of-self c =
    let row = c.args.row in
    subst (λ (rows : List QueuedRow). RiseByToken rows) (sym c.push_reserved.ensures.rows)
    (rises_on (λ (r : QueuedRow). r.token) 0 c.self.inside.rows.rows row c.self.invariant (omega arith)
    (subst (λ (t : RowTable QueuedRow). All (λ (r : QueuedRow). r.token < row.token) t.rows) (sym c.self.view_is) c.requires.above))
