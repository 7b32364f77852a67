-- Where a walk is after the names that it took (autofs.rst, "Mount Traps").
use Rattle.std.specs.Prelude.{ℕ, suc, zero, ◌+◌, List, [], ◌∷◌, ◌++◌, length, reverse, Option, Some, None, Result, Ok, Err, if◌then◌else◌}
use Rattle.am_names.specs.declared.errno.Errno.{Errno}
use Rattle.am_names.specs.declared.errno.Errno.TheVariants.{ENOENT}
use Rattle.am_names.specs.declared.trigger.Trigger.{Trigger}
use Rattle.am_names.specs.{Position}
use Rattle.am_mount.specs.{root_of}
use Rattle.am_walk.specs.declared.stop.Next.{Next}
use Rattle.am_walk.specs.declared.stop.Next.TheVariants as nexts
use Rattle.am_walk.specs.declared.stop.Stop.{Stop}
use Rattle.am_walk.specs.declared.stop.Stop.TheVariants as stops
use Rattle.am_walk.specs.Scene.{Scene, autofs_at, has_names}
use Rattle.am_walk.specs.Meet.{next_at}

-- after some names the walk stands at a place of a mount, or it has stopped; with the triggers that
-- it passed, in order
pub data Visit : Type 0 where
  Stands : ℕ → List (List ℕ) → List Trigger → Visit
  Stops : Stop → List Trigger → Visit

-- what comes of what the walk met: it rests, stops, or enters what is mounted there
abbrev pub followed : Next → ℕ → List (List ℕ) → List Trigger → (ℕ → List Trigger → Visit) → Visit
followed nexts.Rests mount place passed enter = Stands mount place passed
followed (nexts.Halts stop) mount place passed enter = Stops stop passed
followed (nexts.Enters below) mount place passed enter = enter below passed
followed (nexts.Passes below trigger) mount place passed enter = enter below (passed ++ trigger ∷ [])

-- Where the walk comes to rest at a place, or stops: as long as something is mounted where it
-- stands, the root of the top there. A mount's number is above that of the mount under it, so as
-- many steps as there are mounts are enough.
abbrev pub settled_within : ℕ → Scene → ℕ → List (List ℕ) → List Trigger → Visit
settled_within zero scene mount place passed = Stands mount place passed
settled_within (suc steps) scene mount place passed =
    followed (next_at scene mount place) mount place passed (λ m gs. settled_within steps scene m [] gs)

-- where the walk comes to rest at a place, or stops; the steps are always enough
abbrev pub settled : Scene → ℕ → List (List ℕ) → List Trigger → Visit
settled scene mount place passed = settled_within (length scene.mounts + 1) scene mount place passed

-- one name further: the name is added to the place where the walk stands
abbrev pub onward : Scene → List ℕ → Visit → Visit
onward scene name (Stops stop passed) = Stops stop passed
onward scene name (Stands mount place passed) =
    if has_names (autofs_at scene mount) place
    then settled scene mount (place ++ name ∷ []) passed
    else Stops (stops.Refuse ENOENT) passed

-- the walk from a root after these names, the last one first
abbrev pub after : Scene → ℕ → List (List ℕ) → Visit
after scene root [] = settled scene root [] []
after scene root (name ∷ earlier) = onward scene name (after scene root earlier)

-- the walk from the root of a namespace, if that is there
abbrev pub visit_from : Scene → List (List ℕ) → Option ℕ → Visit
visit_from scene names None = Stops (stops.Refuse ENOENT) []
visit_from scene names (Some root) = after scene root (reverse names)

-- the walk from the root of a namespace after these names
abbrev pub visit_of : Scene → ℕ → List (List ℕ) → Visit
visit_of scene ns names = visit_from scene names (root_of scene.mounts ns)

-- how a walk ended, and the triggers that it passed, in order
pub record Walked : Type 0 where
  pub stop : Stop
  pub passed : List Trigger

-- a walk that stands at the end of its path has arrived
abbrev pub ended : Visit → Walked
ended (Stands mount place passed) =
    record { stop = stops.Arrive (record { mount = mount; place = place }); passed = passed }
ended (Stops stop passed) = record { stop = stop; passed = passed }

-- the walk from the root of a namespace along these names
abbrev pub walk_of : Scene → ℕ → List (List ℕ) → Walked
walk_of scene ns names = ended (visit_of scene ns names)

-- with the traps off no walk waits, and none notifies
abbrev pub reached : Stop → Result Position Errno
reached (stops.Arrive at) = Ok at
reached (stops.Block token) = Err ENOENT
reached (stops.Missing trigger) = Err ENOENT
reached (stops.Refuse errno) = Err errno

-- the position after these names, or why there is none
abbrev pub position_of : Scene → ℕ → List (List ℕ) → Result Position Errno
position_of scene ns names = reached (walk_of scene ns names).stop

-- the error, if it is one
abbrev pub fault_of : {T : Type 0} → Result T Errno → Option Errno
fault_of (Ok value) = None
fault_of (Err errno) = Some errno
