use Rattle.std.proofs.Common.{◌≡◌, take}
use Rattle.std.specs.List.{flat_map}
use Rattle.am_mountinfo.specs.{fs_notes, opens_text}
use Rattle.am_mountinfo.proofs.notes.opens.Given as goal

abbrev pub invariant-loop-row : goal.invariant-loop-row
invariant-loop-row l =
    opens_text l.world.kernel.waits l.opens.items
    ≡ flat_map (λ row. fs_notes l.world.kernel.waits row.fs) (take l.row-index l.world.kernel.attached)
