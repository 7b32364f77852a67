-- The mounts on one parent, and which of them are at places of a bucket: own choice.
use Rattle.std.specs.Prelude.{◌≡◌, ◌≤◌, ◌==◌, ℕ, nat_eq, List, [], ◌∷◌, ◌++◌, Option, Some, None, option_map, option_to_list, if◌then◌else◌}
use Rattle.std.specs.List.{Contains}
use Rattle.std.specs.List.Sorted.{IsStrictlyIncreasing}
use Rattle.am_mount.specs.declared.siblings.Child.{Child}
use Rattle.am_mount.specs.declared.family.Family.{Family}
use Rattle.am_mount.specs.declared.family.Family.TheVariants.{One, Siblings, Many}
use Rattle.am_mount.specs.Few.{but}
use Rattle.am_mount.specs.Index.{listed, HasRoom}
use Rattle.am_mount.specs.Siblings.{mounts_of, placed_of}

-- the mounts on the parent
abbrev pub children_in : Family → List ℕ
children_in (One child) = option_to_list (option_map (λ c. c.mount) child)
children_in (Siblings siblings) = mounts_of siblings.rows
children_in (Many several) = several.value.mounts.rows

-- the one mount, if it is at a place of this bucket
abbrev pub one_placed : Option Child → ℕ → List ℕ
one_placed None b = []
one_placed (Some child) b = if child.bucket == b then child.mount ∷ [] else []

-- the mounts on the parent at places of this bucket
abbrev pub placed_in : Family → ℕ → List ℕ
placed_in (One child) b = one_placed child b
placed_in (Siblings siblings) b = placed_of siblings.rows b
placed_in (Many several) b = listed several.value.places b

-- here one more mount at a place of this bucket takes no memory
abbrev pub HasRoomFor : Family → ℕ → ℕ → Type 0
HasRoomFor (One child) b spot = child ≡ None
HasRoomFor (Siblings siblings) b spot = 1 ≤ siblings.room
HasRoomFor (Many several) b spot = (1 ≤ several.value.mounts.room) × HasRoom several.value.places b spot

-- both have the same mounts
pub record SameChildren (old new : Family) : Type 0 where
  pub children : children_in new ≡ children_in old
  pub placed : (b : ℕ) → placed_in new b ≡ placed_in old b

-- the mount stands last, at a place of this bucket
pub record AddsChild (b m : ℕ) (old new : Family) : Type 0 where
  pub children : children_in new ≡ children_in old ++ m ∷ []
  pub placed : (c : ℕ) → placed_in new c ≡
      (if nat_eq b c then placed_in old c ++ m ∷ [] else placed_in old c)

-- what is known of a mount that may go, at a place of this bucket: it is at none of another
pub record MayGo (b m : ℕ) (family : Family) : Type 0 where
  pub rising : IsStrictlyIncreasing (children_in family)
  pub placed_rising : IsStrictlyIncreasing (placed_in family b)
  pub nowhere_else : (c : ℕ) → Contains (placed_in family c) m → c ≡ b

-- the mount, at a place of this bucket, is there no more
pub record TakesChild (b m : ℕ) (old new : Family) : Type 0 where
  pub children : children_in new ≡ but m (children_in old)
  pub placed : (c : ℕ) → placed_in new c ≡
      (if nat_eq b c then but m (placed_in old c) else placed_in old c)
