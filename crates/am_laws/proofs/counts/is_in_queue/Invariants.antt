use Rattle.std.proofs.Common.{◌≡◌, length}
use Rattle.am_laws.specs.{queues_as, unqueues, since, is_in_queue}
use Rattle.am_laws.proofs.counts.is_in_queue.Given as goal

abbrev pub invariant-loop-o : goal.invariant-loop-o
invariant-loop-o l = since (queues_as l.token l.attach l.packet) (unqueues l.token l.packet.dev) l.queued l.rest ≡ is_in_queue l.token l.attach l.packet l.fn.seen

abbrev pub decreases-loop-o : goal.decreases-loop-o
decreases-loop-o l = length l.rest
