-- What the index of a table of lanes says, and how it changes: own choice.
use Rattle.std.specs.Prelude.{◌≡◌, ◌≤◌, ◌<◌, ℕ, ◌^◌, Bool, true, false, cond, ◌==◌, ◌&&◌, nat_le, nat_lt, List, length, Option, None, Some, if◌then◌else◌}
use Rattle.std.specs.Ordering.{nat_cmp, ordering_then}
use Rattle.std.specs.declared.cmp.Ordering.{Ordering}
use Rattle.std.specs.BTreeMap as tree
use Rattle.std.specs.BTreeSet as tree_set
use Rattle.std.specs.BTreeSet.{BTreeSet, contains}
use Rattle.am_lanes.specs.declared.holder.Look.{Look}
use Rattle.am_lanes.specs.declared.holder.Look.TheVariants.{Missing, Expire}
use Rattle.am_lanes.specs.declared.holder.Holder.{Holder}
use Rattle.am_lanes.specs.declared.index.Index.{Index}
use Rattle.am_lanes.specs.Bars.{is_of, is_free, is_in, has_ended, at}

-- the file system in which the token is open
abbrev pub fs_of : Look → Option ℕ
fs_of (Missing fs) = Some fs
fs_of (Expire fs) = Some fs
fs_of look = None

-- a token of this file system is open in the lane
abbrev pub is_open : ℕ → Option Holder → Bool
is_open fs None = false
is_open fs (Some holder) = is_in fs holder.look

-- pairs stand in the order of the first, and then of the second
abbrev pub pair_cmp : ℕ × ℕ → ℕ × ℕ → Ordering
pair_cmp x y = ordering_then (nat_cmp x.0 y.0) (nat_cmp x.1 y.1)

-- there is a lane, and it is this one
abbrev pub is_that : ℕ → Option ℕ → Bool
is_that lane None = false
is_that lane (Some own) = own == lane

-- the lane, unless it is before this one
abbrev pub from_on : ℕ → Option ℕ → Option ℕ
from_on from None = None
from_on from (Some lane) = if nat_le from lane then Some lane else None

-- no two lanes are of one number
abbrev pub IsOnce : List (Option Holder) → Type 0
IsOnce lanes =
    (number i j : ℕ) → is_of number (at lanes i) ≡ true → is_of number (at lanes j) ≡ true → i ≡ j

-- ---- what it says

-- the number's lane by the index
abbrev pub number_lane : Index → ℕ → Option ℕ
number_lane index number = tree.get nat_cmp index.by_number number

-- the index tells of each lane whose it is, whether it is free, and of which file system a token is
-- open in it
pub record IsIndexOf (lanes : List (Option Holder)) (index : Index) : Type 0 where
  pub numbers : (number lane : ℕ) → is_that lane (number_lane index number) ≡ is_of number (at lanes lane)
  pub free : (lane : ℕ) → contains nat_cmp index.free lane ≡ (nat_lt lane (length lanes) && is_free (at lanes lane))
  pub tokens : (fs lane : ℕ) → contains pair_cmp index.by_fs (fs, lane) ≡ is_open fs (at lanes lane)

-- it says nothing
pub record IsEmptyIndex (index : Index) : Type 0 where
  pub numbers : tree.IsEmpty index.by_number
  pub free : tree_set.IsEmpty index.free
  pub tokens : tree_set.IsEmpty index.by_fs

-- ---- how it changes

-- it says that this lane is free, and no more
pub record IsWithFree (lane : ℕ) (old new : Index) : Type 0 where
  pub numbers : (number : ℕ) → number_lane new number ≡ number_lane old number
  pub free : (l : ℕ) → contains nat_cmp new.free l ≡ cond (lane == l) true (contains nat_cmp old.free l)
  pub tokens : (fs l : ℕ) → contains pair_cmp new.by_fs (fs, l) ≡ contains pair_cmp old.by_fs (fs, l)

-- it says that the lane, which was held so, is this holder's
pub record IsChanged (lane : ℕ) (was : Option Holder) (holder : Holder) (old new : Index) : Type 0 where
  pub numbers : (number : ℕ) →
      number_lane new number
      ≡ cond (holder.number == number) (Some lane) (cond (is_of number was) None (number_lane old number))
  pub free : (l : ℕ) → contains nat_cmp new.free l ≡ cond (lane == l) (has_ended holder.look) (contains nat_cmp old.free l)
  pub tokens : (fs l : ℕ) →
      contains pair_cmp new.by_fs (fs, l)
      ≡ cond (lane == l && is_in fs holder.look) true
      (cond (lane == l && is_open fs was) false (contains pair_cmp old.by_fs (fs, l)))

-- ---- what is found in it

-- the least of the lanes, and none where there is none
abbrev pub IsLeast : BTreeSet ℕ → Option ℕ → Type 0
IsLeast lanes None = (lane : ℕ) → contains nat_cmp lanes lane ≡ false
IsLeast lanes (Some least) =
    (contains nat_cmp lanes least ≡ true)
    × ((lane : ℕ) → lane < least → contains nat_cmp lanes lane ≡ false)

-- the least of the file system's lanes from this one on, and none where there is none
abbrev pub IsLeastIn : ℕ → ℕ → BTreeSet (ℕ × ℕ) → Option ℕ → Type 0
IsLeastIn fs from pairs None =
    (lane : ℕ) → from ≤ lane → lane < 2 ^ 64 → contains pair_cmp pairs (fs, lane) ≡ false
IsLeastIn fs from pairs (Some least) =
    (from ≤ least)
    × (contains pair_cmp pairs (fs, least) ≡ true)
    × ((lane : ℕ) → from ≤ lane → lane < least → contains pair_cmp pairs (fs, lane) ≡ false)
