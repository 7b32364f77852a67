-- What the administrator does: autofs are attached, mounts come and go, and namespaces
-- (sharedsubtree.rst, 5a, 5b, 5e, 5f and 5g; mount_namespaces(7), "Restrictions on mount namespaces").
use Rattle.std.specs.Prelude.{ℕ, ◌+◌, List, [], ◌∷◌, length, Option, Some, None, if◌then◌else◌}
use Rattle.am_names.specs.declared.errno.Errno.{Errno}
use Rattle.am_names.specs.declared.errno.Errno.TheVariants.{ENOENT, EEXIST}
use Rattle.am_state.specs.declared.obs.Obs.TheVariants as seen
use Rattle.am_group.specs.{Change, MountState}
use Rattle.am_propagate.specs.{CopyForm, new_mounts, copy_refusal, drop_refusal, mounts_in}
use Rattle.am_expire.specs.{is_used}
use Rattle.am_kernel.specs.{mount_refusal, with_plain, mounting, bind_refusal, with_bind, plain_umount_refusal, plain_gone, without_plain, plain_change_refusal, with_changed, kind_refusal, kind_at, autofs_refusal, with_attached, attaching, with_namespace, without_namespace}
use Rattle.am_daemon.specs.{Point, point_of, line_timeout, is_attached, with_attachment}
use Rattle.am_machine.specs.declared.answer.Answer.TheVariants as answers
use Rattle.am_machine.specs.State.{State}
use Rattle.am_machine.specs.EventOutcome.{EventOutcome, refused, unless, with_kernel, told}

-- ---- attach: an autofs is mounted at a point of the master, and the daemon attaches to it

-- not attached yet, and then the kernel's tests
abbrev pub attach_refusal : State → List (List ℕ) → Option Errno
attach_refusal s path =
    if is_attached s.daemon path then Some EEXIST else autofs_refusal s.kernel path

-- the autofs is mounted with a new attachment, which the daemon holds
abbrev pub attaches : State → List (List ℕ) → Point → EventOutcome
attaches s path point =
    let fs = s.kernel.last_fs + 1 in
    let attach = s.kernel.last_attach + 1 in
    record {
      answer = answers.Attached fs attach (s.kernel.table.last_mount + 1);
      seen = attaching s.kernel path;
      state = record s {
        kernel = with_attached path point.direct (line_timeout s.daemon point.entry) s.kernel;
        daemon = with_attachment fs attach path s.daemon;
      };
    }

-- a line of the master serves the path
abbrev pub attached_as : Option Point → State → List (List ℕ) → EventOutcome
attached_as None s path = refused s ENOENT
attached_as (Some point) s path = unless (attach_refusal s path) s (attaches s path point)

-- a daemon attaches at the point of the master that serves the path
abbrev pub attach_outcome : State → List (List ℕ) → EventOutcome
attach_outcome s path = attached_as (point_of s.daemon path) s path

-- ---- mounts

-- a plain file system is mounted at the path
abbrev pub mount_outcome : State → ℕ → List (List ℕ) → EventOutcome
mount_outcome s ns path =
    unless (mount_refusal s.kernel ns path) s
    (with_kernel (answers.Mount (s.kernel.table.last_mount + 1)) (mounting s.kernel ns path)
    (with_plain ns path s.kernel) s)

-- what is mounted at the one path is bound to the other
abbrev pub bind_outcome : State → ℕ → List (List ℕ) → List (List ℕ) → EventOutcome
bind_outcome s ns from to =
    unless (bind_refusal s.kernel ns from to) s
    (with_kernel (answers.Mount (s.kernel.table.last_mount + 1)) (mounting s.kernel ns to)
    (with_bind ns from to s.kernel) s)

-- the top mount at the path is unmounted (sharedsubtree.rst, 5f)
abbrev pub umount_outcome : State → ℕ → List (List ℕ) → EventOutcome
umount_outcome s ns path =
    let gone = plain_gone s.kernel ns path in
    unless (plain_umount_refusal s.kernel ns path) s
    (with_kernel (answers.Gone gone) (seen.Unmounted gone ∷ []) (without_plain ns path s.kernel) s)

-- the state of the mount at the path changes (sharedsubtree.rst, 5a)
abbrev pub change_outcome : State → ℕ → List (List ℕ) → Change → EventOutcome
change_outcome s ns path change =
    unless (plain_change_refusal change s.kernel ns path) s
    (with_kernel answers.Done [] (with_changed change ns path s.kernel) s)

-- the state of a mount is told, where there is one
abbrev pub kind_told : Option MountState → State → EventOutcome
kind_told None s = told answers.Done s
kind_told (Some kind) s = told (answers.Kind kind) s

-- the state of the mount at the path is told
abbrev pub kind_outcome : State → ℕ → List (List ℕ) → EventOutcome
kind_outcome s ns path = unless (kind_refusal s.kernel ns path) s (kind_told (kind_at s.kernel ns path) s)

-- ---- namespaces

-- the namespace is copied
abbrev pub copy_outcome : State → ℕ → CopyForm → EventOutcome
copy_outcome s ns form =
    let made = new_mounts s.kernel.table (length (mounts_in s.kernel.table ns)) in
    unless (copy_refusal ns s.kernel.table) s
    (with_kernel (answers.Namespace (s.kernel.table.last_ns + 1)) (seen.Mounted made ∷ [])
    (with_namespace form ns s.kernel) s)

-- the namespace is dropped, with all its mounts
abbrev pub drop_outcome : State → ℕ → EventOutcome
drop_outcome s ns =
    let gone = mounts_in s.kernel.table ns in
    unless (drop_refusal (is_used s.kernel.uses) ns s.kernel.table) s
    (with_kernel (answers.Gone gone) (seen.Unmounted gone ∷ []) (without_namespace ns s.kernel) s)
