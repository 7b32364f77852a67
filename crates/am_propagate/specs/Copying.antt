-- How the copies of a namespace come, one row after another: own choice.
use Rattle.std.specs.Prelude.{◌≡◌, ◌<◌, ℕ, List, [], filter_map, option_map, Some}
use Rattle.std.specs.List.{Contains}
use Rattle.am_names.specs.{MountRow, MemberRow}
use Rattle.am_group.specs.{member_row}
use Rattle.am_mount.specs.{mount_row}
use Rattle.am_propagate.specs.declared.subtree.namespace.CopyForm.{CopyForm}
use Rattle.am_propagate.specs.Grown.{grown}
use Rattle.am_propagate.specs.MountTable.{MountTable}
use Rattle.am_propagate.specs.Namespaces.{copy_number, in_form, row_in, member_in}

-- the numbers of all mounts are below this one
abbrev pub AreBelow : ℕ → List MountRow → Type 0
AreBelow n rows = (m : ℕ) (row : MountRow) → mount_row rows m ≡ Some row → m < n

-- each of these mounts has a row
abbrev pub AreThere : List ℕ → List MountRow → Type 0
AreThere mounts rows = (m : ℕ) → Contains mounts m → (row : MountRow) × (mount_row rows m ≡ Some row)

-- the copies of the rows of these mounts, in this namespace, with the numbers behind the last one
abbrev pub rows_in : ℕ → List ℕ → ℕ → List MountRow → List MountRow
rows_in last mounts to rows = filter_map (λ m. option_map (row_in (copy_number last mounts) to) (mount_row rows m)) mounts

-- each of these mounts has its propagation
abbrev pub AreJoined : List ℕ → List MemberRow → Type 0
AreJoined mounts members = (m : ℕ) → Contains mounts m → (row : MemberRow) × (member_row members m ≡ Some row)

-- the propagation of a copy that has this number
abbrev pub member_as : CopyForm → ℕ → MemberRow → MemberRow
member_as form number row = record (in_form form row) { mount = number }

-- the propagation of the copies
abbrev pub members_in : CopyForm → ℕ → List ℕ → List MemberRow → List MemberRow
members_in form last mounts members = filter_map (λ m. option_map (member_in form (copy_number last mounts)) (member_row members m)) mounts

-- all mounts with these copies
abbrev pub with_copies : CopyForm → List ℕ → ℕ → MountTable → MountTable
with_copies form mounts to t =
    grown (rows_in t.last_mount mounts to t.rows) (members_in form t.last_mount mounts t.groups.members) [] to t
