-- The peer groups of a new mount and of its copies (sharedsubtree.rst, 5b and 5e; own:
-- docs/DECISIONS.md, "Copies in groups"), whatever numbers they have.
use Rattle.std.specs.Prelude.{◌≡◌, ◌≢◌, ◌<◌, ◌⊎◌, ℕ, false, Option, Some, None, option_map}
use Rattle.am_names.specs.{MemberRow, Membership}
use Rattle.am_names.specs.PeerGroups.{PeerGroups}
use Rattle.am_group.specs.{group_of, master_of, master_of_group, Receives, IsGroup}
use Rattle.am_names.specs.declared.membership.Membership.TheVariants.{InGroup, SlaveOf, Private, Unbindable}
use Rattle.am_mount.specs.{IsOn}
use Rattle.am_propagate.specs.MountTable.{MountTable}
use Rattle.am_propagate.specs.NewMounts.{HasMember, IsInGroup, IsSlave}
use Rattle.am_propagate.specs.ReceiverCopies.{ComesAs}

-- a mount that receives from this one is in the peer group
abbrev pub IsReceiving : PeerGroups → ℕ → ℕ → Type 0
IsReceiving s b g = (r : ℕ) × Receives s b r × (group_of s r ≡ Some g)

-- the mount itself, or one that receives from it, is in the peer group
abbrev pub IsConcerned : PeerGroups → ℕ → ℕ → Type 0
IsConcerned s b g = (group_of s b ≡ Some g) ⊎ IsReceiving s b g

-- one that receives from it is, and the mount itself isn't
abbrev pub IsReceiversOnly : PeerGroups → ℕ → ℕ → Type 0
IsReceiversOnly s b g = IsReceiving s b g × (group_of s b ≢ Some g)

-- the peer group is there, and its number is above all that were given
abbrev pub IsFresh : PeerGroups → PeerGroups → ℕ → Type 0
IsFresh old new g = (old.last_group < g) × IsGroup new g

-- the peer group of a new mount on a shared one, by its source: a shared source's own; of a slave a
-- fresh one, whose master is the source's; of a private one a fresh one without a master; an
-- unbindable source is never bound
abbrev pub IsGroupBy : Membership → PeerGroups → PeerGroups → ℕ → Type 0
IsGroupBy (InGroup group) old new g = g ≡ group
IsGroupBy (SlaveOf master) old new g = IsFresh old new g × (master_of_group new g ≡ Some master)
IsGroupBy Private old new g = IsFresh old new g × (master_of_group new g ≡ None)
IsGroupBy Unbindable old new g = ⊥

-- the mount is in no peer group, and nobody's slave
pub record IsPrivate (row : MemberRow) : Type 0 where
  pub in_no_group : row.group ≡ None
  pub has_no_master : row.master ≡ None
  pub can_be_bound : row.unbindable ≡ false

-- a new mount on one that isn't shared is as its source is
abbrev pub IsAsSource : Membership → MemberRow → Type 0
IsAsSource (InGroup group) row = IsInGroup group row
IsAsSource (SlaveOf master) row = IsSlave master row
IsAsSource Private row = IsPrivate row
IsAsSource Unbindable row = ⊥

-- on a mount that isn't shared there are no copies, and no peer group is made
pub record ComesUnshared (by : Membership) (mount : ℕ) (old new : PeerGroups) : Type 0 where
  pub itself : HasMember (IsAsSource by) new.members mount
  pub same_groups : new.groups ≡ old.groups

-- on the shared mount b: for each peer group that is concerned one stands, for another another one,
-- and "is the master of" is kept
pub record ComesShared (by : Membership) (b own mount : ℕ) (old new : MountTable) : Type 0 where
  pub stand : ℕ → ℕ
  pub injective :
      (g h : ℕ) → IsConcerned old.groups b g → IsConcerned old.groups b h →
      stand g ≡ stand h → g ≡ h
  -- for the group of b that of the new mount stands, which its source decides
  pub itself : HasMember (IsInGroup (stand own)) new.groups.members mount
  pub by_source : IsGroupBy by old.groups new.groups (stand own)
  -- for each other one a fresh one, whose master is the one that stands for its master
  pub fresh : (g : ℕ) → IsReceiversOnly old.groups b g → IsFresh old.groups new.groups (stand g)
  pub masters :
      (g : ℕ) → IsReceiversOnly old.groups b g →
      master_of_group new.groups (stand g) ≡ option_map stand (master_of_group old.groups g)
  pub concerned :
      (g m : ℕ) → IsReceiversOnly old.groups b g → master_of_group old.groups g ≡ Some m →
      IsConcerned old.groups b m
  -- these rise with the groups for which they stand, behind that of the new mount
  pub rising :
      (g h : ℕ) → IsReceiversOnly old.groups b g → IsReceiversOnly old.groups b h → g < h →
      stand g < stand h
  pub behind : (g : ℕ) → IsReceiversOnly old.groups b g → stand own < stand g
  -- the copy on a member of a group is in the one that stands for it
  pub members :
      (r g m : ℕ) → Receives old.groups b r → group_of old.groups r ≡ Some g →
      ComesAs (IsOn r) old new m → HasMember (IsInGroup (stand g)) new.groups.members m
  -- the copy on a mount in no group is a slave of the one that stands for that one's master
  pub slaves :
      (r m : ℕ) → Receives old.groups b r → group_of old.groups r ≡ None →
      ComesAs (IsOn r) old new m →
      (g : ℕ) × (master_of old.groups r ≡ Some g) × IsConcerned old.groups b g ×
      HasMember (IsSlave (stand g)) new.groups.members m
  -- and no other group is made
  pub no_other :
      (h : ℕ) → IsGroup new.groups h →
      IsGroup old.groups h ⊎ ((g : ℕ) × IsConcerned old.groups b g × (h ≡ stand g))

-- where the mount b is in this peer group or in none
abbrev pub JoinsBy : Membership → ℕ → Option ℕ → ℕ → MountTable → MountTable → Type 0
JoinsBy membership b (Some own) mount old new = ComesShared membership b own mount old new
JoinsBy membership b None mount old new =
    ComesUnshared membership mount old.groups new.groups

-- the propagation of a mount with this source, and of its copies, where it comes on the mount b
abbrev pub Joins : Membership → ℕ → ℕ → MountTable → MountTable → Type 0
Joins membership b mount old new = JoinsBy membership b (group_of old.groups b) mount old new
