-- A copy of a namespace (Linux: copy_mnt_ns; sharedsubtree.rst, 5g), in full or reduced
-- (mount_namespaces(7), "Restrictions on mount namespaces"; Linux: CL_SHARED_TO_SLAVE).
use Rattle.std.specs.Prelude.{◌==◌, ◌+◌, ℕ, Bool, not, nat_le, List, [], ◌++◌, map, filter, length, Option, Some, None, option_map, if◌then◌else◌}
use Rattle.am_names.specs.declared.errno.Errno.{Errno}
use Rattle.am_names.specs.declared.errno.Errno.TheVariants.{ENOENT, ENOSPC}
use Rattle.am_names.specs.{MountRow, MemberRow, Position, is_among}
use Rattle.am_group.specs.{slave_row, all_added}
use Rattle.am_mount.specs.{is_in}
use Rattle.am_propagate.specs.declared.subtree.namespace.CopyForm.{CopyForm}
use Rattle.am_propagate.specs.declared.subtree.namespace.CopyForm.TheVariants.{Full, Reduced}
use Rattle.am_propagate.specs.MountTable.{MountTable, lacks_mounts}
use Rattle.am_propagate.specs.Removed.{mounts_in, is_namespace}

-- how many of these mounts have no higher number
abbrev pub count_up_to : ℕ → List ℕ → ℕ
count_up_to m mounts = length (filter (λ x. nat_le x m) mounts)

-- the copy of a mount: the copies have the next numbers, in order of these mounts
abbrev pub copy_number : ℕ → List ℕ → ℕ → ℕ
copy_number last mounts m = last + count_up_to m mounts

-- the same place of the copy of the mount
abbrev pub position_in : (ℕ → ℕ) → Position → Position
position_in number position = record position { mount = number position.mount }

-- the copy of a row, in its new namespace: on the copy of its parent, else the same
abbrev pub row_in : (ℕ → ℕ) → ℕ → MountRow → MountRow
row_in number ns row = record row {
  mount = number row.mount;
  ns = ns;
  mountpoint = option_map (position_in number) row.mountpoint;
}

-- a full copy has the peer group or the master of its source; a reduced one is a slave of the peer
-- group that its source is in, and has the master of a source that is in none
abbrev pub in_form : CopyForm → MemberRow → MemberRow
in_form Full row = row
in_form Reduced row = slave_row row

-- the propagation of the copy of a mount
abbrev pub member_in : CopyForm → (ℕ → ℕ) → MemberRow → MemberRow
member_in form number row = record (in_form form row) { mount = number row.mount }

-- the numbers of namespaces are exhausted: they have 32 bits
abbrev pub lacks_namespace : MountTable → Bool
lacks_namespace t = t.last_ns == 4294967295

-- the tests of a copy: the namespace is there, numbers are left
abbrev pub copy_refusal : ℕ → MountTable → Option Errno
copy_refusal ns t =
    if not (is_namespace t ns) then Some ENOENT
    else if lacks_mounts (length (mounts_in t ns)) t then Some ENOSPC
    else if lacks_namespace t then Some ENOSPC
    else None

-- a new namespace with a copy of each mount of this one, in this form
abbrev pub with_copy : CopyForm → ℕ → MountTable → MountTable
with_copy form ns t =
    let mounts = mounts_in t ns in
    let number = copy_number t.last_mount mounts in
    let members = filter (λ row. is_among mounts row.mount) t.groups.members in
    record t {
      rows = t.rows ++ map (row_in number (t.last_ns + 1)) (filter (is_in ns) t.rows);
      groups = all_added (map (member_in form number) members) [] t.groups;
      last_mount = t.last_mount + length mounts;
      last_ns = t.last_ns + 1;
    }
