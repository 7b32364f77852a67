-- Where mounts stand: the daemon's mount of each autofs, what is mounted on it, and the copies
-- (sharedsubtree.rst, 5a and 5b).
use Rattle.std.specs.Prelude.{◌≡◌, ◌<◌, ◌≤◌, ℕ, List, Some, None}
use Rattle.am_names.specs.{MountRow}
use Rattle.am_group.specs.{Receives}
use Rattle.am_mount.specs.{mount_row, IsOn}
use Rattle.am_propagate.specs.MountTable.{MountTable}
use Rattle.am_propagate.specs.{IsWhole}
use Rattle.am_trigger.specs.{Autofs, autofs_of}
use Rattle.am_kernel.specs.{KernelState}

-- The daemon's mount of an autofs: a mount of its file system in namespace 0, which isn't mounted on
-- an autofs.
pub record IsLocation (k : KernelState) (system : ℕ) (location : ℕ) : Type 0 where
  pub row : MountRow
  pub is_row : mount_row k.table.rows location ≡ Some row
  pub fs : row.fs ≡ system
  pub ns : row.ns ≡ 0
  pub outside : (p : ℕ) (parent : MountRow) → IsOn p row → mount_row k.table.rows p ≡ Some parent →
      autofs_of k.triggers parent.fs ≡ None

-- two mounts at one place of a mount are the same
abbrev pub HoldsOne : List MountRow → ℕ → Type 0
HoldsOne rows x = (m n : ℕ) (a b : MountRow) (place : List (List ℕ)) →
    mount_row rows m ≡ Some a → mount_row rows n ≡ Some b →
    a.mountpoint ≡ Some (record { mount = x; place = place }) →
    b.mountpoint ≡ Some (record { mount = x; place = place }) → m ≡ n

-- a mount with this origin is at this place of the parent
pub record HasCopy (rows : List MountRow) (parent : ℕ) (place : List (List ℕ)) (origin : ℕ) : Type 0 where
  pub number : ℕ
  pub row : MountRow
  pub is_row : mount_row rows number ≡ Some row
  pub at : row.mountpoint ≡ Some (record { mount = parent; place = place })
  pub from : row.origin ≡ origin

-- what is mounted on a mount has a copy at the same place of each older mount that receives from it
abbrev pub IsCopied : MountTable → ℕ → Type 0
IsCopied t x = (m y : ℕ) (row : MountRow) (place : List (List ℕ)) →
    mount_row t.rows m ≡ Some row → row.mountpoint ≡ Some (record { mount = x; place = place }) →
    Receives t.groups x y → y < m → HasCopy t.rows y place m

-- the mounts are whole, and each autofs has its daemon's mount, with copies of what is mounted
-- on it
pub record PlacesAgree (k : KernelState) : Type 0 where
  pub whole : IsWhole k.table
  -- new numbers of file systems are new
  pub given_fs : (m : ℕ) (row : MountRow) → mount_row k.table.rows m ≡ Some row → row.fs ≤ k.last_fs
  pub given_autofs : (fs : ℕ) (row : Autofs) → autofs_of k.triggers fs ≡ Some row → fs ≤ k.last_fs
  pub locations : (fs : ℕ) (row : Autofs) → autofs_of k.triggers fs ≡ Some row → IsLocation k fs row.location
  pub one : (fs : ℕ) (row : Autofs) → autofs_of k.triggers fs ≡ Some row → HoldsOne k.table.rows row.location
  pub copied : (fs : ℕ) (row : Autofs) → autofs_of k.triggers fs ≡ Some row → IsCopied k.table row.location
