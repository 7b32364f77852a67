-- What is gathered of a world before it is printed. For the code alone: own choice
-- (docs/DECISIONS.md, "A world is gathered before it is printed").
use Rattle.std.specs.Prelude.{ℕ, List, ◌++◌}
use Rattle.am_daemon.specs.{DaemonState}
use Rattle.am_kernel.specs.{KernelState}
use Rattle.am_mountinfo.specs.declared.world_text.Part.{Part}
use Rattle.am_mountinfo.specs.declared.world_text.Part.TheVariants as parts
use Rattle.am_mountinfo.specs.Mountinfo.{mountinfo, namespaces_text}
use Rattle.am_mountinfo.specs.Notes.{kernel_notes, daemon_notes}
use Rattle.am_mountinfo.specs.Opens.{opens_text}

-- what is printed of it
abbrev pub part_text : KernelState → DaemonState → Part → List ℕ
part_text k d (parts.One ns) = mountinfo k ns
part_text k d (parts.All order opens) =
    namespaces_text k order.items ++
    (opens_text k.waits opens.items ++ (kernel_notes k ++ daemon_notes d))
