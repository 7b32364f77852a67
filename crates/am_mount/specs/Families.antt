-- The mounts on each parent, and at places of each bucket of it: own choice.
use Rattle.std.specs.Prelude.{◌≡◌, ℕ, nat_eq, ◌&&◌, List, [], ◌∷◌, ◌++◌, Option, Some, None, slice_get, if◌then◌else◌}
use Rattle.std.specs.List.{Contains}
use Rattle.std.specs.List.Sorted.{IsStrictlyIncreasing}
use Rattle.indexmap.specs.IndexMap.{get, keys, values}
use Rattle.am_mount.specs.declared.family.Family.{Family}
use Rattle.am_mount.specs.declared.families.Families.{Families}
use Rattle.am_mount.specs.declared.families.Spot.{Spot}
use Rattle.am_mount.specs.Few.{but}
use Rattle.am_mount.specs.Family.{children_in, placed_in, HasRoomFor}

-- the mounts of a family that was looked up, none where there is none
abbrev pub children_found : Option Family → List ℕ
children_found None = []
children_found (Some family) = children_in family

-- those at places of this bucket
abbrev pub placed_found : Option Family → ℕ → List ℕ
placed_found None b = []
placed_found (Some family) b = placed_in family b

-- the mounts on this parent
abbrev pub children_of : Families → ℕ → List ℕ
children_of families m = children_found (get nat_eq families.families m)

-- the mounts on this parent at places of this bucket
abbrev pub placed_at : Families → ℕ → ℕ → List ℕ
placed_at families m b = placed_found (get nat_eq families.families m) b

-- the parent whose family stands here
abbrev pub parent_at : Families → ℕ → Option ℕ
parent_at families place = slice_get (keys families.families) place

-- there is a family, and here one more mount at a place of this bucket takes no memory
abbrev pub RoomFor : Option Family → ℕ → ℕ → Type 0
RoomFor None b spot = ⊥
RoomFor (Some family) b spot = HasRoomFor family b spot

-- at this spot one more mount at a place of this bucket takes no memory
abbrev pub HasRoomAtSpot : Families → ℕ → Spot → Type 0
HasRoomAtSpot families b spot = RoomFor (slice_get (values families.families) spot.family) b spot.place

-- the spot is one of this parent, with room for a mount at a place of this bucket
abbrev pub HasRoomUnder : Families → ℕ → ℕ → Spot → Type 0
HasRoomUnder families m b spot = (parent_at families spot.family ≡ Some m) × HasRoomAtSpot families b spot

-- all parents have the same mounts
pub record SameFamilies (old new : Families) : Type 0 where
  pub children : (m : ℕ) → children_of new m ≡ children_of old m
  pub placed : (m b : ℕ) → placed_at new m b ≡ placed_at old m b

-- of this parent, and at places of this bucket, the mount stands last
pub record AddsUnder (m b mount : ℕ) (old new : Families) : Type 0 where
  pub children : (n : ℕ) → children_of new n ≡
      (if nat_eq m n then children_of old n ++ mount ∷ [] else children_of old n)
  pub placed : (n c : ℕ) → placed_at new n c ≡
      (if nat_eq m n && nat_eq b c then placed_at old n c ++ mount ∷ [] else placed_at old n c)

-- what is known of a mount on this parent that may go: at places of no other bucket it is
pub record MayLeave (m b mount : ℕ) (families : Families) : Type 0 where
  pub rising : IsStrictlyIncreasing (children_of families m)
  pub placed_rising : IsStrictlyIncreasing (placed_at families m b)
  pub nowhere_else : (c : ℕ) → Contains (placed_at families m c) mount → c ≡ b

-- the mount is on this parent no more
pub record TakesUnder (m b mount : ℕ) (old new : Families) : Type 0 where
  pub children : (n : ℕ) → children_of new n ≡
      (if nat_eq m n then but mount (children_of old n) else children_of old n)
  pub placed : (n c : ℕ) → placed_at new n c ≡
      (if nat_eq m n && nat_eq b c then but mount (placed_at old n c) else placed_at old n c)
