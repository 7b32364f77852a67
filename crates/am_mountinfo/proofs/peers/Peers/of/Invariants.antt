use Rattle.std.proofs.Common.{take}
use Rattle.am_mountinfo.specs.{ArePeers}
use Rattle.am_mountinfo.proofs.peers.Peers.of.Given as goal

abbrev pub invariant-loop-row : goal.invariant-loop-row
invariant-loop-row l = ArePeers l.peers l.world.kernel.table.groups (take l.row-index l.world.kernel.table.rows)
