-- What is looked up of mounts while they are printed. For the code alone: own
-- choice.
use Rattle.am_kernel.specs.{KernelState}
use Rattle.am_mountinfo.specs.declared.tables.Tables.{Tables}
use Rattle.am_mountinfo.specs.Attachments.{AreAttachments}
use Rattle.am_mountinfo.specs.Paths.{ArePaths}
use Rattle.am_mountinfo.specs.Peers.{ArePeers}
use Rattle.am_mountinfo.specs.Residents.{AreResidents}

-- the paths, the peer groups and the namespaces of the mounts of this kernel, and the attachments of its file systems
pub record AreTables (tables : Tables) (k : KernelState) : Type 0 where
  pub paths : ArePaths tables.paths k.table.rows
  pub peers : ArePeers tables.peers k.table.groups k.table.rows
  pub residents : AreResidents tables.residents k.table.rows
  pub attachments : AreAttachments tables.attachments k.attached
