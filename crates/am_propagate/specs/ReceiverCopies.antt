-- What comes with a mount or bind (sharedsubtree.rst, 5b and 5e): one copy on each mount that
-- receives it and no other, whatever numbers the copies have.
use Rattle.std.specs.Prelude.{◌≡◌, ◌≤◌, ◌<◌, ◌⊎◌, ℕ}
use Rattle.am_names.specs.{MountRow, Position}
use Rattle.am_group.specs.{Receives}
use Rattle.am_mount.specs.{HasRow, IsIn, IsAt, IsOn}
use Rattle.am_propagate.specs.MountTable.{MountTable}
use Rattle.am_propagate.specs.NewMounts.{IsNewMount, KeepsMounts}

-- it is mounted at the position, in the namespace of the mount there, with this file system and
-- origin
pub record IsMountedAt (old : MountTable) (at : Position) (fs origin : ℕ) (row : MountRow) : Type 0 where
  pub at_place : IsAt at.mount at.place row
  pub same_ns : HasRow (IsIn row.ns) old.rows at.mount
  pub has_fs : row.fs ≡ fs
  pub has_origin : row.origin ≡ origin

-- the mount comes, and is such a one
abbrev pub ComesAs : (MountRow → Type 0) → MountTable → MountTable → ℕ → Type 0
ComesAs P old new m = IsNewMount old new m × HasRow P new.rows m

-- the mount itself comes at the position, and one copy of it on each mount that received from the
-- position's; the copies rise with the mounts on which they are
pub record ComesWithCopies (at : Position) (fs mount : ℕ) (old new : MountTable) : Type 0 where
  pub itself : ComesAs (IsMountedAt old at fs mount) old new mount
  -- just one copy on each mount that receives it
  pub each :
      (r : ℕ) → Receives old.groups at.mount r →
      (m : ℕ) × ComesAs (IsMountedAt old (record at { mount = r }) fs mount) old new m
  pub one :
      (r m n : ℕ) → Receives old.groups at.mount r →
      ComesAs (IsOn r) old new m → ComesAs (IsOn r) old new n → m ≡ n
  -- and no other mount comes
  pub no_other :
      (m : ℕ) → IsNewMount old new m →
      (m ≡ mount) ⊎ ((r : ℕ) × Receives old.groups at.mount r × ComesAs (IsOn r) old new m)
  pub rising :
      (r q m n : ℕ) → Receives old.groups at.mount r → Receives old.groups at.mount q → r < q →
      ComesAs (IsOn r) old new m → ComesAs (IsOn q) old new n → m < n
  -- the mount itself is the first that comes, and what was there stays
  pub first : (m : ℕ) → IsNewMount old new m → mount ≤ m
  pub stay : KeepsMounts old new

-- a bind mounts what the source has mounted
abbrev pub BindsWithCopies : ℕ → Position → ℕ → MountTable → MountTable → Type 0
BindsWithCopies source at mount old new =
    HasRow (λ row. ComesWithCopies at row.fs mount old new) old.rows source
