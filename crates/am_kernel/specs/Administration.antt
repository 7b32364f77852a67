-- What an administrator mounts, binds, unmounts and changes (sharedsubtree.rst, 5). own choice
-- (docs/DECISIONS.md, "An administrator's path is followed with the traps off")
use Rattle.std.specs.Prelude.{ℕ, Bool, true, false, ◌||◌, is_none, List, [], ◌∷◌, Option, Some, None, Result, Ok, Err, if◌then◌else◌}
use Rattle.std.specs.List.{list_any}
use Rattle.am_names.specs.declared.errno.Errno.{Errno}
use Rattle.am_names.specs.declared.errno.Errno.TheVariants.{EPERM, EBUSY, EINVAL}
use Rattle.am_names.specs.{Position}
use Rattle.am_state.specs.{Obs}
use Rattle.am_state.specs.declared.obs.Obs.TheVariants as seen
use Rattle.am_group.specs.{Change, MountState, kind_of, change_refusal}
use Rattle.am_group.specs.declared.mount_state.MountState.TheVariants.{Shared, Slave, SharedSlave, Private, Unbindable}
use Rattle.am_propagate.specs.{mountpoint_of, with_change, umount_refusal, unmounted}
use Rattle.am_propagate.specs.Added as added
use Rattle.am_expire.specs.{is_used}
use Rattle.am_kernel.specs.State.{KernelState}
use Rattle.am_kernel.specs.Lookups.{is_on_autofs, position_at, tested, or_else, from_position, root_refusal}
use Rattle.am_kernel.specs.DaemonMounts.{new_fs_refusal, coming, with_mount, without_mounts}

-- ---- a mount of a new plain file system

-- the mount isn't one of an autofs, and the numbers are left
abbrev pub mount_tests : KernelState → Position → Option Errno
mount_tests k at = if is_on_autofs k at.mount then Some EPERM else new_fs_refusal k at.mount

-- the path leads somewhere, not to an autofs, and the numbers are left
abbrev pub mount_refusal : KernelState → ℕ → List (List ℕ) → Option Errno
mount_refusal k ns names = tested (position_at k ns names) (mount_tests k)

-- a new plain file system is mounted where the path leads
abbrev pub with_plain : ℕ → List (List ℕ) → KernelState → KernelState
with_plain ns names k = from_position (position_at k ns names) k (λ at. with_mount at k)

-- this is seen of a mount or bind at the position
abbrev pub mounting_at : KernelState → Result Position Errno → List Obs
mounting_at k (Err e) = []
mounting_at k (Ok at) = seen.Mounted (coming k at.mount) ∷ []

-- this is seen of a mount or bind at the path
abbrev pub mounting : KernelState → ℕ → List (List ℕ) → List Obs
mounting k ns names = mounting_at k (position_at k ns names)

-- ---- a bind

-- the mount is unbindable
abbrev pub is_unbindable : Option MountState → Bool
is_unbindable (Some Unbindable) = true
is_unbindable (Some Shared) = false
is_unbindable (Some Slave) = false
is_unbindable (Some SharedSlave) = false
is_unbindable (Some Private) = false
is_unbindable None = false

-- the source can't be bound (sharedsubtree.rst, 5b)
abbrev pub source_refusal : KernelState → ℕ → Option Errno
source_refusal k mount =
    if is_unbindable (kind_of k.table.groups mount) then Some EINVAL else None

-- the source is a mount's root and can be bound, the target isn't one of an autofs, and the numbers
-- are left
abbrev pub bind_tests : KernelState → Position → Position → Option Errno
bind_tests k from to =
    or_else (root_refusal from)
    (or_else (source_refusal k from.mount)
    (if is_on_autofs k to.mount then Some EPERM
    else added.bind_refusal from.mount to.mount k.table))

-- both paths lead somewhere, the source's to a mount's root that can be bound, the target's not to
-- an autofs, and the numbers are left
abbrev pub bind_refusal : KernelState → ℕ → List (List ℕ) → List (List ℕ) → Option Errno
bind_refusal k ns from to =
    tested (position_at k ns from) (λ source. tested (position_at k ns to) (bind_tests k source))

-- the source's mount is bound at the target, and propagates
abbrev pub bound_at : KernelState → Position → Position → KernelState
bound_at k from to = record k { table = added.bound from.mount to k.table }

-- no file system is new
abbrev pub with_bind : ℕ → List (List ℕ) → List (List ℕ) → KernelState → KernelState
with_bind ns from to k =
    from_position (position_at k ns from) k
    (λ source. from_position (position_at k ns to) k (bound_at k source))

-- ---- an unmount

-- what the mount is mounted on is a mount of an autofs
abbrev pub is_parent_on_autofs : KernelState → Option Position → Bool
is_parent_on_autofs k None = false
is_parent_on_autofs k (Some at) = is_on_autofs k at.mount

-- one of the mounts is one of an autofs
abbrev pub is_any_on_autofs : KernelState → List ℕ → Bool
is_any_on_autofs k mounts = list_any (is_on_autofs k) mounts

-- the mount is one of an autofs or is mounted on one, or one of an autofs would go with it
abbrev pub is_daemons : KernelState → ℕ → Bool
is_daemons k mount =
    is_on_autofs k mount || is_parent_on_autofs k (mountpoint_of k.table mount) ||
    is_any_on_autofs k (unmounted k.table mount)

-- it isn't a namespace's root, and no autofs is concerned
abbrev pub site_refusal : KernelState → ℕ → Option Errno
site_refusal k mount =
    if is_none (mountpoint_of k.table mount) then Some EBUSY
    else if is_daemons k mount then Some EPERM
    else None

-- the position is a mount's root, not a namespace's; no autofs is concerned; nothing is mounted on
-- the mount, and nothing that goes is in use
abbrev pub umount_tests : KernelState → Position → Option Errno
umount_tests k at =
    or_else (root_refusal at)
    (or_else (site_refusal k at.mount) (umount_refusal (is_used k.uses) at.mount k.table))

-- the path leads to a mount's root, not to a namespace's; no autofs is concerned; nothing is
-- mounted on the mount, and nothing that goes is in use
abbrev pub plain_umount_refusal : KernelState → ℕ → List (List ℕ) → Option Errno
plain_umount_refusal k ns names = tested (position_at k ns names) (umount_tests k)

-- what an unmount at the position removes
abbrev pub gone_at : KernelState → Result Position Errno → List ℕ
gone_at k (Err e) = []
gone_at k (Ok at) = unmounted k.table at.mount

-- what goes
abbrev pub plain_gone : KernelState → ℕ → List (List ℕ) → List ℕ
plain_gone k ns names = gone_at k (position_at k ns names)

-- what the unmount removes has gone
abbrev pub without_plain : ℕ → List (List ℕ) → KernelState → KernelState
without_plain ns names k = without_mounts (plain_gone k ns names) k

-- ---- a mount's state

-- the position is a mount's root, and the mount's state can be changed so
abbrev pub change_tests : Change → KernelState → Position → Option Errno
change_tests change k at = or_else (root_refusal at) (change_refusal change at.mount k.table.groups)

-- and a peer group's number is left, if it takes one
abbrev pub plain_change_refusal : Change → KernelState → ℕ → List (List ℕ) → Option Errno
plain_change_refusal change k ns names = tested (position_at k ns names) (change_tests change k)

-- the mount at the position has the other state
abbrev pub changed_at : Change → KernelState → Position → KernelState
changed_at change k at = record k { table = with_change change at.mount k.table }

-- the mount to which the path leads has the other state
abbrev pub with_changed : Change → ℕ → List (List ℕ) → KernelState → KernelState
with_changed change ns names k =
    from_position (position_at k ns names) k (changed_at change k)

-- the position is the root of a mount that has a state
abbrev pub kind_tests : KernelState → Position → Option Errno
kind_tests k at =
    or_else (root_refusal at)
    (if is_none (kind_of k.table.groups at.mount) then Some EINVAL else None)

-- the path leads to the root of a mount that has a state
abbrev pub kind_refusal : KernelState → ℕ → List (List ℕ) → Option Errno
kind_refusal k ns names = tested (position_at k ns names) (kind_tests k)

-- the state of the mount at the position
abbrev pub kind_in : KernelState → Result Position Errno → Option MountState
kind_in k (Err e) = None
kind_in k (Ok at) = kind_of k.table.groups at.mount

-- the state of the mount to which the path leads
abbrev pub kind_at : KernelState → ℕ → List (List ℕ) → Option MountState
kind_at k ns names = kind_in k (position_at k ns names)
