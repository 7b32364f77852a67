-- The mounts of the file systems that are watched: own choice (docs/DECISIONS.md).
use Rattle.std.specs.Prelude.{◌≡◌, ◌≤◌, ◌<◌, ◌⊎◌, ℕ, nat_eq, List, [], ◌∷◌, ◌++◌, Option, Some, None, option_map, slice_get, if◌then◌else◌}
use Rattle.std.specs.List.Sorted.{IsStrictlyIncreasing}
use Rattle.indexmap.specs.IndexMap.{get, keys, values}
use Rattle.am_ordered.specs.RowTable.{RowTable}
use Rattle.am_mount.specs.declared.watched.Watched.{Watched}
use Rattle.am_mount.specs.Few.{but}

-- the mounts that are listed for the file system, if it is watched
abbrev pub watched : Watched → ℕ → Option (List ℕ)
watched w fs = option_map (λ mounts. mounts.rows) (get nat_eq w.lists fs)

-- both watch the same, and list the same
pub record SameWatched (old new : Watched) : Type 0 where
  pub lists : (fs : ℕ) → watched new fs ≡ watched old fs
  pub next : new.next ≡ old.next

-- the file system is watched as before, or from now on, and is none that was there
abbrev pub BeginsToWatch : Watched → Watched → ℕ → Type 0
BeginsToWatch old new fs = (watched new fs ≡ watched old fs) ⊎ ((watched new fs ≡ Some []) × (old.next ≤ fs))

-- what is watched stays so
pub record Watches (old new : Watched) : Type 0 where
  pub lists : (fs : ℕ) → BeginsToWatch old new fs
  pub next : new.next ≡ old.next

-- one more of the rows takes no memory
abbrev pub HasRowRoom : Option (RowTable ℕ) → Type 0
HasRowRoom None = ⊥
HasRowRoom (Some mounts) = 1 ≤ mounts.room

-- the file system isn't watched, or its list stands here, with room for one more mount
abbrev pub RoomIfWatched : Watched → ℕ → Option ℕ → Type 0
RoomIfWatched w fs None = watched w fs ≡ None
RoomIfWatched w fs (Some place) =
    (slice_get (keys w.lists) place ≡ Some fs) × HasRowRoom (slice_get (values w.lists) place)

-- the mount stands last in the list of the file system, if that is watched
pub record AddsWatched (fs mount : ℕ) (old new : Watched) : Type 0 where
  pub lists : (n : ℕ) → watched new n ≡
      option_map (λ mounts. if nat_eq fs n then mounts ++ mount ∷ [] else mounts) (watched old n)
  pub known : fs < new.next
  pub next : old.next ≤ new.next

-- there is no list, or it rises
abbrev pub RisesIfAny : Option (List ℕ) → Type 0
RisesIfAny None = Unit {0}
RisesIfAny (Some mounts) = IsStrictlyIncreasing mounts

-- the mount isn't in the list of the file system
pub record TakesWatched (fs mount : ℕ) (old new : Watched) : Type 0 where
  pub lists : (n : ℕ) → watched new n ≡
      option_map (λ mounts. if nat_eq fs n then but mount mounts else mounts) (watched old n)
  pub next : new.next ≡ old.next
