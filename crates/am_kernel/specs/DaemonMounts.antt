-- An autofs that is attached, and what its daemon mounts on its triggers (autofs.rst, "Mount
-- Traps"; sharedsubtree.rst, 5).
use Rattle.std.specs.Prelude.{ℕ, ◌+◌, ◌==◌, Bool, false, ◌&&◌, not, is_some, is_none, List, [], ◌∷◌, ◌++◌, Option, Some, None, Result, Ok, Err, if◌then◌else◌}
use Rattle.std.specs.List.{flat_map}
use Rattle.am_names.specs.declared.errno.Errno.{Errno}
use Rattle.am_names.specs.declared.errno.Errno.TheVariants.{ENOENT, EPERM, EBUSY}
use Rattle.am_names.specs.declared.trigger.Trigger.{Trigger}
use Rattle.am_names.specs.{MountRow, Position}
use Rattle.am_state.specs.{Obs}
use Rattle.am_state.specs.declared.obs.Obs.TheVariants as seen
use Rattle.am_names.specs.declared.membership.Membership.TheVariants.{Private}
use Rattle.am_group.specs.{is_just}
use Rattle.am_mount.specs.{mount_row, top_of}
use Rattle.am_propagate.specs.MountTable.{MountTable}
use Rattle.am_propagate.specs.Added as added
use Rattle.am_propagate.specs.{umount_refusal, unmounted, removed}
use Rattle.am_trigger.specs.{Autofs, autofs_of, is_made, with_autofs, trigger_in, place_of}
use Rattle.am_expire.specs.{is_used}
use Rattle.am_kernel.specs.declared.row.Attached.{Attached}
use Rattle.am_kernel.specs.State.{KernelState}
use Rattle.am_kernel.specs.Lookups.{is_current, is_on_autofs, position_at, tested, or_else, from_position, fs_refusal, attach_refusal}

-- ---- a new file system

-- the tests of a mount of a new file system on a mount: its numbers are left
abbrev pub new_fs_refusal : KernelState → ℕ → Option Errno
new_fs_refusal k mount = or_else (fs_refusal k) (added.mount_refusal mount k.table)

-- the mounts that come with one on this mount
abbrev pub coming_in : MountTable → ℕ → List ℕ
coming_in t mount = added.new_mounts t (added.mounts_made mount t)

-- the same in the kernel's table
abbrev pub coming : KernelState → ℕ → List ℕ
coming k mount = coming_in k.table mount

-- a new file system is mounted there, and propagates
abbrev pub with_mount : Position → KernelState → KernelState
with_mount at k = record k {
  table = added.mounted at (k.last_fs + 1) Private k.table;
  last_fs = k.last_fs + 1;
}

-- ---- attaching an autofs at a path of namespace 0

-- the position isn't on an autofs, and the numbers are left
abbrev pub attach_tests : KernelState → Position → Option Errno
attach_tests k at =
    if is_on_autofs k at.mount then Some EPERM
    else or_else (attach_refusal k) (new_fs_refusal k at.mount)

-- the path leads somewhere, not to an autofs, and the numbers are left
abbrev pub autofs_refusal : KernelState → List (List ℕ) → Option Errno
autofs_refusal k names = tested (position_at k 0 names) (attach_tests k)

-- a file system's first attachment, with its timeout
abbrev pub attached_row : ℕ → ℕ → ℕ → Attached
attached_row fs attach timeout = record { fs = fs; attach = attach; timeout = timeout }

-- the mount is the daemon's, and the attachment is new
abbrev pub attached_at : Bool → ℕ → KernelState → Position → KernelState
attached_at direct timeout k at =
    let fs = k.last_fs + 1 in
    let attach = k.last_attach + 1 in
    record (with_mount at k) {
      triggers = with_autofs fs direct (k.table.last_mount + 1) k.triggers;
      attached = k.attached ++ attached_row fs attach timeout ∷ [];
      last_attach = attach;
    }

-- an autofs is attached where the path leads
abbrev pub with_attached : List (List ℕ) → Bool → ℕ → KernelState → KernelState
with_attached names direct timeout k =
    from_position (position_at k 0 names) k (attached_at direct timeout k)

-- this is seen of an autofs that is attached at the position
abbrev pub attaching_at : KernelState → Result Position Errno → List Obs
attaching_at k (Err e) = []
attaching_at k (Ok at) = seen.Mounted (coming k at.mount) ∷ []

-- this is seen of it
abbrev pub attaching : KernelState → List (List ℕ) → List Obs
attaching k names = attaching_at k (position_at k 0 names)

-- ---- mounting on a trigger, at the daemon's mount of its autofs

-- an indirect trigger is there once its directory is made, a direct one always
abbrev pub is_there_in : Option Autofs → KernelState → Trigger → Bool
is_there_in None k trigger = false
is_there_in (Some row) k trigger =
    if row.direct then is_none trigger.name else is_some trigger.name && is_made k.triggers trigger

-- the trigger is there in its autofs
abbrev pub is_there : KernelState → Trigger → Bool
is_there k trigger = is_there_in (autofs_of k.triggers trigger.fs) k trigger

-- the daemon's mount of the autofs; 0, which no mount is, where there is none
abbrev pub location_in : Option Autofs → ℕ
location_in None = 0
location_in (Some row) = row.location

-- the daemon's mount of the file system
abbrev pub location_of : KernelState → ℕ → ℕ
location_of k fs = location_in (autofs_of k.triggers fs)

-- what is mounted on the trigger at the daemon's mount
abbrev pub mounted_on : KernelState → Trigger → Option ℕ
mounted_on k trigger = top_of k.table.rows (location_of k trigger.fs) (place_of trigger)

-- the attachment is current, the trigger is there, nothing is mounted on it at the daemon's mount,
-- and the numbers are left
abbrev pub mount_on_refusal : KernelState → ℕ → Trigger → Option Errno
mount_on_refusal k attach trigger =
    if not (is_current k trigger.fs attach) then Some EPERM
    else if not (is_there k trigger) then Some ENOENT
    else if is_some (mounted_on k trigger) then Some EBUSY
    else new_fs_refusal k (location_of k trigger.fs)

-- the trigger's place in the daemon's mount of its autofs
abbrev pub trigger_position : KernelState → Trigger → Position
trigger_position k trigger =
    record { mount = location_of k trigger.fs; place = place_of trigger }

-- a new file system is mounted on the trigger, at the daemon's mount, and propagates
abbrev pub with_mount_on : Trigger → KernelState → KernelState
with_mount_on trigger k = with_mount (trigger_position k trigger) k

-- ---- unmounting from a trigger

-- something is mounted on the trigger, nothing is mounted on that, and nothing that goes is in use
abbrev pub umount_from_tests : Option ℕ → KernelState → Option Errno
umount_from_tests None k = Some ENOENT
umount_from_tests (Some mount) k = umount_refusal (is_used k.uses) mount k.table

-- the attachment is current, something is mounted on the trigger at the daemon's mount, nothing is
-- mounted on that, and nothing that goes is in use
abbrev pub umount_from_refusal : KernelState → ℕ → Trigger → Option Errno
umount_from_refusal k attach trigger =
    if not (is_current k trigger.fs attach) then Some EPERM
    else umount_from_tests (mounted_on k trigger) k

-- what an unmount of the mount removes, if there is one
abbrev pub gone_with : KernelState → Option ℕ → List ℕ
gone_with k None = []
gone_with k (Some mount) = unmounted k.table mount

-- what goes
abbrev pub gone_from : KernelState → Trigger → List ℕ
gone_from k trigger = gone_with k (mounted_on k trigger)

-- these mounts have gone
abbrev pub without_mounts : List ℕ → KernelState → KernelState
without_mounts gone k = record k { table = removed gone k.table }

-- ---- what is mounted on the triggers of a file system, at the daemon's mount

-- the row is the top at this mountpoint, which is in this mount
abbrev pub is_top_of : KernelState → ℕ → MountRow → Option Position → Bool
is_top_of k location row None = false
is_top_of k location row (Some at) =
    at.mount == location && is_just row.mount (top_of k.table.rows location at.place)

-- the row is the top at its place of this mount
abbrev pub is_top_at : KernelState → ℕ → MountRow → Bool
is_top_at k location row = is_top_of k location row row.mountpoint

-- the trigger of the autofs at this mountpoint
abbrev pub trigger_at : Autofs → Option Position → Option Trigger
trigger_at autofs None = None
trigger_at autofs (Some at) = trigger_in autofs at.place

-- the trigger on which the row is mounted, if it is the top there at the daemon's mount
abbrev pub trigger_under : KernelState → Autofs → MountRow → Option Trigger
trigger_under k autofs row =
    if is_top_at k autofs.location row then trigger_at autofs row.mountpoint else None

-- the same of a row that may be missing
abbrev pub trigger_under_row : KernelState → Autofs → Option MountRow → Option Trigger
trigger_under_row k autofs None = None
trigger_under_row k autofs (Some row) = trigger_under k autofs row

-- the trigger on which the mount is mounted, if it is the top there at the daemon's mount
abbrev pub trigger_under_mount : KernelState → Autofs → ℕ → Option Trigger
trigger_under_mount k autofs mount = trigger_under_row k autofs (mount_row k.table.rows mount)

-- the trigger with the mount on it, if there is one
abbrev pub standing_on : Option Trigger → ℕ → List (Trigger × ℕ)
standing_on None mount = []
standing_on (Some trigger) mount = (trigger, mount) ∷ []

-- the trigger on which the row is mounted, with its mount
abbrev pub standing_row : KernelState → Autofs → MountRow → List (Trigger × ℕ)
standing_row k autofs row = standing_on (trigger_under k autofs row) row.mount

-- the trigger on which the mount is mounted, with the mount
abbrev pub standing_mount : KernelState → Autofs → ℕ → List (Trigger × ℕ)
standing_mount k autofs mount = standing_on (trigger_under_mount k autofs mount) mount

-- the triggers of the autofs on which something is mounted, with their mounts
abbrev pub standing_of : KernelState → Autofs → List (Trigger × ℕ)
standing_of k autofs = flat_map (standing_row k autofs) k.table.rows

-- the same of an autofs that may be missing
abbrev pub standing_in : KernelState → Option Autofs → List (Trigger × ℕ)
standing_in k None = []
standing_in k (Some autofs) = standing_of k autofs

-- each trigger on which something is mounted there, with that mount, in rising order of mounts
abbrev pub standing : KernelState → ℕ → List (Trigger × ℕ)
standing k fs = standing_in k (autofs_of k.triggers fs)
