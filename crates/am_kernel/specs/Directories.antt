-- The directories of an indirect autofs, which its daemon makes and removes (autofs.rst,
-- "Content").
use Rattle.std.specs.Prelude.{ℕ, ◌==◌, Bool, false, ◌&&◌, not, is_some, List, Option, Some, None, if◌then◌else◌}
use Rattle.std.specs.List.{list_any}
use Rattle.am_names.specs.declared.errno.Errno.{Errno}
use Rattle.am_names.specs.declared.errno.Errno.TheVariants.{EPERM, EINVAL, EBUSY}
use Rattle.am_names.specs.declared.trigger.Trigger.{Trigger}
use Rattle.am_names.specs.{MountRow}
use Rattle.am_mount.specs.{top_of}
use Rattle.am_trigger.specs.{Autofs, place_of}
use Rattle.am_trigger.specs.Rows as triggers
use Rattle.am_kernel.specs.State.{KernelState}
use Rattle.am_kernel.specs.Lookups.{is_current, or_else}

-- the autofs is there and indirect, and the trigger has a name
abbrev pub names_directory : Option Autofs → Trigger → Bool
names_directory None trigger = false
names_directory (Some row) trigger = not row.direct && is_some trigger.name

-- the trigger is a name in an indirect autofs
abbrev pub is_indirect : KernelState → Trigger → Bool
is_indirect k trigger = names_directory (triggers.autofs_of k.triggers trigger.fs) trigger

-- the attachment is current, and the autofs is indirect
abbrev pub directory_refusal : KernelState → ℕ → Trigger → Option Errno
directory_refusal k attach trigger =
    if not (is_current k trigger.fs attach) then Some EPERM
    else if not (is_indirect k trigger) then Some EINVAL
    else None

-- and the directory is not made
abbrev pub mkdir_refusal : KernelState → ℕ → Trigger → Option Errno
mkdir_refusal k attach trigger =
    or_else (directory_refusal k attach trigger) (triggers.mkdir_refusal trigger k.triggers)

-- the daemon has made the directory
abbrev pub with_directory : Trigger → KernelState → KernelState
with_directory trigger k = record k { triggers = triggers.with_directory trigger k.triggers }

-- something is mounted at this place of one of these mounts
abbrev pub is_any_mounted_on : List MountRow → List (List ℕ) → List ℕ → Bool
is_any_mounted_on rows place mounts = list_any (λ m. is_some (top_of rows m place)) mounts

-- the row is a mount of the trigger's file system, and something is mounted on the trigger there
abbrev pub is_mounted_on : KernelState → Trigger → MountRow → Bool
is_mounted_on k trigger row =
    row.fs == trigger.fs && is_some (top_of k.table.rows row.mount (place_of trigger))

-- something is mounted on the trigger, at some mount of its file system
abbrev pub is_mountpoint : KernelState → Trigger → Bool
is_mountpoint k trigger = list_any (is_mounted_on k trigger) k.table.rows

-- and the directory is made, and nothing is mounted on it: own choice (docs/DECISIONS.md, "A
-- directory stays while something is mounted on it")
abbrev pub rmdir_refusal : KernelState → ℕ → Trigger → Option Errno
rmdir_refusal k attach trigger =
    or_else (directory_refusal k attach trigger)
    (or_else (triggers.rmdir_refusal trigger k.triggers)
    (if is_mountpoint k trigger then Some EBUSY else None))

-- the daemon has removed the directory
abbrev pub without_directory : Trigger → KernelState → KernelState
without_directory trigger k =
    record k { triggers = triggers.without_directory trigger k.triggers }
