-- Attachments, walkers, and what paths and triggers lead to (autofs.rst, "Communicating with
-- autofs: detecting the daemon").
use Rattle.std.specs.Prelude.{ℕ, ◌==◌, nat_le, Bool, true, false, ◌&&◌, ◌||◌, not, is_some, is_none, List, [], ◌∷◌, Option, Some, None, find, Result, Ok, Err, if◌then◌else◌}
use Rattle.std.specs.List.{list_any}
use Rattle.std.specs.Option.{option_map}
use Rattle.am_names.specs.declared.errno.Errno.{Errno}
use Rattle.am_names.specs.declared.errno.Errno.TheVariants.{EINVAL, ENOSPC}
use Rattle.am_names.specs.declared.trigger.Trigger.{Trigger}
use Rattle.am_names.specs.{Position}
use Rattle.am_trigger.specs.{Autofs, autofs_of, failing}
use Rattle.am_wait.specs.{wait_of}
use Rattle.am_expire.specs.{mount_of_walker}
use Rattle.am_walk.specs.Scene.{Scene}
use Rattle.am_walk.specs.{with_traps, without_traps, autofs_at, position_of}
use Rattle.am_kernel.specs.declared.row.Attached.{Attached}
use Rattle.am_kernel.specs.State.{KernelState, greatest_u32}

-- ---- attachments

-- the autofs is there and isn't catatonic
abbrev pub is_live_row : Option Autofs → Bool
is_live_row None = false
is_live_row (Some row) = not row.catatonic

-- a daemon is attached to the autofs: it isn't catatonic (autofs.rst, "Catatonic mode")
abbrev pub is_live : KernelState → ℕ → Bool
is_live k fs = is_live_row (autofs_of k.triggers fs)

-- the latest attachment of this file system
abbrev pub latest_attach : List Attached → ℕ → Option ℕ
latest_attach rows fs = option_map (λ row. row.attach) (find (λ row. row.fs == fs) rows)

-- the attachment of this file system, while a daemon is attached
abbrev pub attach_of : KernelState → ℕ → Option ℕ
attach_of k fs = if is_live k fs then latest_attach k.attached fs else None

-- the row is of this attachment, and a daemon is attached
abbrev pub is_attached_by : KernelState → ℕ → Attached → Bool
is_attached_by k attach row = row.attach == attach && is_live k row.fs

-- the file system of which this is the current attachment
abbrev pub fs_of_attach : KernelState → ℕ → Option ℕ
fs_of_attach k attach =
    option_map (λ row. row.fs) (find (λ row. is_attached_by k attach row) k.attached)

-- this is the current attachment of this file system
abbrev pub is_current : KernelState → ℕ → ℕ → Bool
is_current k fs attach = list_any (λ row. row.fs == fs && is_attached_by k attach row) k.attached

-- ---- walkers

-- the walker isn't idle: it waits, or it is inside a mount
abbrev pub is_busy : KernelState → ℕ → Bool
is_busy k walker = is_some (wait_of k.waits.waits walker) || is_some (mount_of_walker k.uses walker)

-- ---- paths

-- what a walker meets at a moment
abbrev pub scene_of : KernelState → ℕ → Scene
scene_of k moment =
    with_traps k.table k.triggers k.waits (failing moment k.negative k.failures)

-- what an administrator meets
abbrev pub open_scene : KernelState → Scene
open_scene k = without_traps k.table k.triggers

-- where an administrator's path leads: own choice (docs/DECISIONS.md, "An administrator's path is
-- followed with the traps off")
abbrev pub position_at : KernelState → ℕ → List (List ℕ) → Result Position Errno
position_at k ns names = position_of (open_scene k) ns names

-- the mount is one of an autofs
abbrev pub is_on_autofs : KernelState → ℕ → Bool
is_on_autofs k mount = is_some (autofs_at (open_scene k) mount)

-- the place is the mount's root
abbrev pub is_root : List (List ℕ) → Bool
is_root [] = true
is_root (name ∷ names) = false

-- ---- triggers

-- the trigger is the root of this autofs, if that is direct, and else a name in it
abbrev pub is_trigger_of : Option Autofs → Trigger → Bool
is_trigger_of None trigger = false
is_trigger_of (Some row) trigger = if row.direct then is_none trigger.name else is_some trigger.name

-- it is one of an autofs: a name of an indirect one, or the root of a direct one
abbrev pub is_trigger : KernelState → Trigger → Bool
is_trigger k trigger = is_trigger_of (autofs_of k.triggers trigger.fs) trigger

-- ---- tests

-- the position, if there is one, and then its tests
abbrev pub tested : Result Position Errno → (Position → Option Errno) → Option Errno
tested (Err e) tests = Some e
tested (Ok at) tests = tests at

-- the first error of two tests
abbrev pub or_else : Option Errno → Option Errno → Option Errno
or_else (Some e) others = Some e
or_else None others = others

-- what a change at a position leaves
abbrev pub from_position : Result Position Errno → KernelState → (Position → KernelState)
    → KernelState
from_position (Err e) k change = k
from_position (Ok at) k change = change at

-- the numbers of file systems are exhausted
abbrev pub fs_refusal : KernelState → Option Errno
fs_refusal k = if nat_le greatest_u32 k.last_fs then Some ENOSPC else None

-- the numbers of attachments are exhausted
abbrev pub attach_refusal : KernelState → Option Errno
attach_refusal k = if nat_le greatest_u32 k.last_attach then Some ENOSPC else None

-- the position is a mount's root
abbrev pub root_refusal : Position → Option Errno
root_refusal at = if is_root at.place then None else Some EINVAL
