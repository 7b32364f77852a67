-- What a walk meets at a place (autofs.rst, "Mount Traps").
use Rattle.std.specs.Prelude.{ℕ, ◌||◌, is_some, List, Option, Some, None, if◌then◌else◌}
use Rattle.am_names.specs.{errno_of, OpenToken}
use Rattle.am_names.specs.declared.fail_no.FailNo.{FailNo}
use Rattle.am_names.specs.declared.errno.Errno.TheVariants.{ENOENT, ELOOP}
use Rattle.am_names.specs.declared.trigger.Trigger.{Trigger}
use Rattle.am_names.specs.declared.row.TokenKind.TheVariants.{Missing, Expire}
use Rattle.am_mount.specs.{top_of}
use Rattle.am_trigger.specs.{Autofs, is_made, trigger_in, place_of}
use Rattle.am_wait.specs.{open_on}
use Rattle.am_walk.specs.declared.stop.Next.{Next}
use Rattle.am_walk.specs.declared.stop.Next.TheVariants as nexts
use Rattle.am_walk.specs.declared.stop.Stop.TheVariants as stops
use Rattle.am_walk.specs.Scene.{Scene, autofs_at}

-- where this token is open the walk waits on it
abbrev pub if_open : Option ℕ → Next → Next
if_open (Some token) others = nexts.Halts (stops.Block token)
if_open None others = others

-- what is mounted on the trigger is entered, and the trigger passed
abbrev pub if_mounted : Option ℕ → Trigger → Next → Next
if_mounted (Some mount) trigger others = nexts.Passes mount trigger
if_mounted None trigger others = others

-- what is mounted there is entered
abbrev pub if_entered : Option ℕ → Next → Next
if_entered (Some mount) others = nexts.Enters mount
if_entered None others = others

-- the directory itself, if it is made, or the direct root itself
abbrev pub at_directory : Scene → Autofs → Trigger → Next
at_directory scene row trigger =
    if row.direct || is_made scene.triggers trigger then nexts.Rests
    else nexts.Halts (stops.Refuse ENOENT)

-- what failed at a trigger and lasts fails the walk too
abbrev pub if_failing : Option FailNo → Next → Next
if_failing (Some error) others = nexts.Halts (stops.Refuse (errno_of error))
if_failing None others = others

-- At a trigger the first of these holds: it is expiring, and the walk waits; a mount is pending,
-- and the walk waits; something is mounted on it here, and the walk passes it; the file system is
-- catatonic (autofs.rst, "Catatonic mode"); own choice (docs/DECISIONS.md, "Something mounted at
-- the daemon's mount alone is ELOOP"); own choice (docs/DECISIONS.md, "A failure has a number, and
-- may last"); else the daemon is notified.
abbrev pub at_trap : List OpenToken → Scene → Autofs → Trigger → ℕ → List (List ℕ) → Next
at_trap tokens scene row trigger mount place =
    if_open (open_on tokens Expire trigger)
    (if_open (open_on tokens Missing trigger)
    (if_mounted (top_of scene.mounts mount place) trigger
    (if row.catatonic then at_directory scene row trigger
    else if is_some (top_of scene.mounts row.location (place_of trigger))
    then nexts.Halts (stops.Refuse ELOOP)
    else if_failing (scene.failing trigger) (nexts.Halts (stops.Missing trigger)))))

-- with the traps off nothing blocks; what is mounted is entered, and so is a directory that is
-- made: own choice (docs/DECISIONS.md, "An administrator's path is followed with the traps off")
abbrev pub at_trigger : Option (List OpenToken) → Scene → Autofs → Trigger → ℕ → List (List ℕ) → Next
at_trigger (Some tokens) scene row trigger mount place = at_trap tokens scene row trigger mount place
at_trigger None scene row trigger mount place =
    if_entered (top_of scene.mounts mount place) (at_directory scene row trigger)

-- a place that is no trigger: what is mounted there is entered
abbrev pub at_plain : Scene → ℕ → List (List ℕ) → Next
at_plain scene mount place = if_entered (top_of scene.mounts mount place) nexts.Rests

-- at a place of an autofs: a trigger, or any other place
abbrev pub at_autofs : Scene → Autofs → Option Trigger → ℕ → List (List ℕ) → Next
at_autofs scene row None mount place = at_plain scene mount place
at_autofs scene row (Some trigger) mount place = at_trigger scene.tokens scene row trigger mount place

-- at a place of a mount of an autofs, or of a plain file system
abbrev pub at_site : Scene → Option Autofs → ℕ → List (List ℕ) → Next
at_site scene None mount place = at_plain scene mount place
at_site scene (Some row) mount place = at_autofs scene row (trigger_in row place) mount place

-- what a walk meets at a place of a mount
abbrev pub next_at : Scene → ℕ → List (List ℕ) → Next
next_at scene mount place = at_site scene (autofs_at scene mount) mount place
