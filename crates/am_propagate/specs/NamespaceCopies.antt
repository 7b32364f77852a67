-- What a copy of a namespace is (sharedsubtree.rst, 5g; mount_namespaces(7), "Restrictions on mount
-- namespaces"), whatever numbers the copies have.
use Rattle.std.specs.Prelude.{◌≡◌, ◌<◌, ℕ, List, Option, Some, None}
use Rattle.am_names.specs.{MountRow, MemberRow}
use Rattle.am_group.specs.{member_row}
use Rattle.am_mount.specs.{mount_row, HasRow, IsIn, IsAt}
use Rattle.am_propagate.specs.declared.subtree.namespace.CopyForm.{CopyForm}
use Rattle.am_propagate.specs.declared.subtree.namespace.CopyForm.TheVariants.{Full, Reduced}
use Rattle.am_propagate.specs.MountTable.{MountTable}
use Rattle.am_propagate.specs.NewMounts.{IsNewMount, HasMember, IsSlave, KeepsMounts}

-- both are in the same peer group or in none, have the same master, and can or can't be bound
pub record IsAlike (source copy : MemberRow) : Type 0 where
  pub same_group : copy.group ≡ source.group
  pub same_master : copy.master ≡ source.master
  pub same_unbindable : copy.unbindable ≡ source.unbindable

-- the copy of a mount in a peer group is a slave of that group, and any other is like its source
abbrev pub IsReduced : Option ℕ → MemberRow → MemberRow → Type 0
IsReduced (Some group) source copy = IsSlave group copy
IsReduced None source copy = IsAlike source copy

-- the copy takes part in propagation as the form says
abbrev pub IsJoinedIn : CopyForm → MemberRow → MemberRow → Type 0
IsJoinedIn Full source copy = IsAlike source copy
IsJoinedIn Reduced source copy = IsReduced source.group source copy

-- the copy belongs to the new namespace, with its source's file system and origin; it is mounted on
-- the copy of its source's parent, at the same place, or nowhere as its source
pub record IsMountedAlike (copy_of : ℕ → ℕ) (to : ℕ) (source copy : MountRow) : Type 0 where
  pub in_new_ns : IsIn to copy
  pub same_fs : copy.fs ≡ source.fs
  pub same_origin : copy.origin ≡ source.origin
  pub on_copy : (p : ℕ) (place : List (List ℕ)) → IsAt p place source → IsAt (copy_of p) place copy
  pub root : source.mountpoint ≡ None → copy.mountpoint ≡ None

-- a bijection from the mounts of the namespace to the mounts that come, which rises with the
-- numbers; the namespace of these had no mounts
pub record AreCopies (form : CopyForm) (ns to : ℕ) (old new : MountTable) : Type 0 where
  pub copy_of : ℕ → ℕ
  -- each mount has a copy, which is new, mounted alike, and joined in this form
  pub each_is_new : (m : ℕ) → HasRow (IsIn ns) old.rows m → IsNewMount old new (copy_of m)
  pub mounted :
      (m : ℕ) (row : MountRow) → mount_row old.rows m ≡ Some row → IsIn ns row →
      HasRow (IsMountedAlike copy_of to row) new.rows (copy_of m)
  pub joined :
      (m : ℕ) (row : MemberRow) → HasRow (IsIn ns) old.rows m →
      member_row old.groups.members m ≡ Some row →
      HasMember (IsJoinedIn form row) new.groups.members (copy_of m)
  -- and no other mount comes
  pub no_other :
      (c : ℕ) → IsNewMount old new c → (m : ℕ) × HasRow (IsIn ns) old.rows m × (copy_of m ≡ c)
  pub rising :
      (a b : ℕ) → HasRow (IsIn ns) old.rows a → HasRow (IsIn ns) old.rows b → a < b →
      copy_of a < copy_of b
  pub new_ns : (m : ℕ) → HasRow (IsIn to) old.rows m → ⊥
  -- what was there stays, and no peer group is made
  pub stay : KeepsMounts old new
  pub same_groups : new.groups.groups ≡ old.groups.groups
