-- What a world stands for, and what it keeps.
use Rattle.am_machine.specs.{IsReached}
use Rattle.am_world.specs.Capacity.{WorldTable}
use Rattle.am_world.specs.Machine.{behind, table_of, whole_state}
use Rattle.am_world.specs.declared.world.World.TheInside.{Inside}

-- the world that these fields hold
abbrev pub view_of : Inside → WorldTable
view_of w = table_of w.handed.items w.machine

-- it came by a run from its opening, along paths, since a path is names
pub record IsSound (w : Inside) : Type 0 where
  pub reached : IsReached (behind w.handed.items (whole_state w.machine))
