-- The rows by namespace, by watched file system, by parent and by place: own choice.
use Rattle.std.specs.Prelude.{◌≡◌, ◌≤◌, ℕ, Bool, ◌&&◌, List, [], Option, Some, None}
use Rattle.am_names.specs.{bucket, MountRow, Position, text_of}
use Rattle.am_mount.specs.declared.indexes.Indexes.{Indexes}
use Rattle.am_mount.specs.declared.indexes.Places.{Places}
use Rattle.am_mount.specs.declared.indexes.Mounted.{Mounted}
use Rattle.am_mount.specs.declared.watched.Watched.{Watched}
use Rattle.am_mount.specs.declared.families.Families.{Families}
use Rattle.am_mount.specs.Rows.{mounts_where, is_in, is_child, has_fs}
use Rattle.am_mount.specs.Buckets.{is_in_bucket}
use Rattle.am_mount.specs.Index.{AddsTo, HasRoom, IsIndex, ListsRise, SameLists, TakesFrom}
use Rattle.am_mount.specs.Families.{AddsUnder, HasRoomUnder, MayLeave, SameFamilies, TakesUnder, children_of, placed_at}
use Rattle.am_mount.specs.Watched.{AddsWatched, RisesIfAny, RoomIfWatched, SameWatched, TakesWatched, watched}

-- the mount is mounted on this one, at a place of this bucket
abbrev pub is_child_in : ℕ → ℕ → MountRow → Bool
is_child_in m b row = is_child m row && is_in_bucket b row

-- all have the same mounts
pub record HaveSameLists (old new : Indexes) : Type 0 where
  pub by_ns : SameLists old.by_ns new.by_ns
  pub by_fs : SameWatched old.by_fs new.by_fs
  pub families : SameFamilies old.families new.families

-- there is room for a mount that is mounted here, if it is mounted anywhere
abbrev pub RoomAt : Option Position → Option Mounted → Indexes → Type 0
RoomAt None None t = Unit {0}
RoomAt None (Some at) t = ⊥
RoomAt (Some position) None t = ⊥
RoomAt (Some position) (Some at) t =
    (at.bucket ≡ bucket (text_of position.place)) × HasRoomUnder t.families position.mount at.bucket at.spot

-- at these places there is room for the row
pub record HaveRoom (row : MountRow) (t : Indexes) (places : Places) : Type 0 where
  pub by_ns : HasRoom t.by_ns row.ns places.by_ns
  pub by_fs : RoomIfWatched t.by_fs row.fs places.by_fs
  pub mounted : RoomAt row.mountpoint places.mounted t

-- the mount is on the parent that it is mounted on, if it is mounted anywhere
abbrev pub AddsAt : Option Position → ℕ → Families → Families → Type 0
AddsAt None mount old new = SameFamilies old new
AddsAt (Some position) mount old new = AddsUnder position.mount (bucket (text_of position.place)) mount old new

-- the row is in all of them
pub record AreWith (row : MountRow) (old new : Indexes) : Type 0 where
  pub by_ns : AddsTo (λ n. is_in n row) row.mount old.by_ns new.by_ns
  pub by_fs : AddsWatched row.fs row.mount old.by_fs new.by_fs
  pub families : AddsAt row.mountpoint row.mount old.families new.families

-- what is known of a mount that is mounted here, if it is mounted anywhere, and may go
abbrev pub MayLeaveAt : Option Position → ℕ → Families → Type 0
MayLeaveAt None mount families = Unit {0}
MayLeaveAt (Some position) mount families =
    MayLeave position.mount (bucket (text_of position.place)) mount families

-- what is known of a row that may go
pub record MayTakeOut (row : MountRow) (t : Indexes) : Type 0 where
  pub by_ns : ListsRise t.by_ns
  pub by_fs : RisesIfAny (watched t.by_fs row.fs)
  pub families : MayLeaveAt row.mountpoint row.mount t.families

-- the mount is on its parent no more, if it is mounted anywhere
abbrev pub TakesAt : Option Position → ℕ → Families → Families → Type 0
TakesAt None mount old new = SameFamilies old new
TakesAt (Some position) mount old new = TakesUnder position.mount (bucket (text_of position.place)) mount old new

-- the row is in none of them
pub record AreWithout (row : MountRow) (old new : Indexes) : Type 0 where
  pub by_ns : TakesFrom (λ n. is_in n row) row.mount old.by_ns new.by_ns
  pub by_fs : TakesWatched row.fs row.mount old.by_fs new.by_fs
  pub families : TakesAt row.mountpoint row.mount old.families new.families

-- there is no list, or it is that of these mounts
abbrev pub IsIfAny : List ℕ → Option (List ℕ) → Type 0
IsIfAny mounts None = Unit {0}
IsIfAny mounts (Some list) = list ≡ mounts

-- each list of a watched file system is that of its mounts, and one that is to come has none
pub record AreWatched (rows : List MountRow) (w : Watched) : Type 0 where
  pub lists : (fs : ℕ) → IsIfAny (mounts_where (has_fs fs) rows) (watched w fs)
  pub none : (fs : ℕ) → w.next ≤ fs → mounts_where (has_fs fs) rows ≡ []

-- the rows by namespace, by watched file system, by parent and by place
pub record AreIndexed (rows : List MountRow) (t : Indexes) : Type 0 where
  pub by_ns : IsIndex is_in rows t.by_ns
  pub by_fs : AreWatched rows t.by_fs
  pub children : (m : ℕ) → children_of t.families m ≡ mounts_where (is_child m) rows
  pub placed : (m b : ℕ) → placed_at t.families m b ≡ mounts_where (is_child_in m b) rows
