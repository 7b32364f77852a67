-- What is mounted last at a place of a mount.
use Rattle.std.proofs.Common.{◌≡◌, ◌≤◌, ℕ, List, Option, Some, None, refl, ap, subst, arith}
use Rattle.std.specs.Prelude.{IfSome}
use Rattle.am_names.specs.{MountRow}
use Rattle.am_mount.specs.{IsRising, top_of, HasRow, IsAt, IsTop, HasNoMountAt}
use Rattle.am_mount.proofs.RowLemmas.{IsTopOf, top_is, some_greatest}

-- where the same mounts are at a place, the same is the last
pub top_same : (old new : List MountRow) (x : ℕ) (place : List (List ℕ)) → IsRising old → IsRising new →
    ((m : ℕ) → HasRow (IsAt x place) old m → HasRow (IsAt x place) new m) →
    ((m : ℕ) → HasRow (IsAt x place) new m → HasRow (IsAt x place) old m) →
    top_of new x place ≡ top_of old x place
top_same old new x place rises rises_new stays was = by (top_of new x place) (top_of old x place) (top_is new rises_new x place) (top_is old rises x place)
  where
    by : (a b : Option ℕ) → IsTopOf new x place a → IsTopOf old x place b → a ≡ b
    by None None f h = refl
    by None (Some m) f h = absurd (f m (stays m h.is_there))
    by (Some m) None f h = absurd (h m (was m f.is_there))
    by (Some m) (Some n) f h =
        let up : m ≤ n = h.greatest m (was m f.is_there) in
        let down : n ≤ m = f.greatest n (stays n h.is_there) in
        let same : m ≡ n = omega arith in
        ap (λ (i : ℕ). Some i) same

-- the only mount at a place
pub only_top : (rows : List MountRow) (x : ℕ) (place : List (List ℕ)) (m : ℕ) → IsRising rows → HasRow (IsAt x place) rows m → ((n : ℕ) → HasRow (IsAt x place) rows n → n ≡ m) → top_of rows x place ≡ Some m
only_top rows x place m rises there only = by (top_of rows x place) (top_is rows rises x place)
  where
    by : (a : Option ℕ) → IsTopOf rows x place a → a ≡ Some m
    by None free = absurd (free m there)
    by (Some n) top = ap (λ (i : ℕ). Some i) (only n top.is_there)

-- a free place
pub no_top : (rows : List MountRow) (x : ℕ) (place : List (List ℕ)) → IsRising rows → HasNoMountAt rows x place → top_of rows x place ≡ None
no_top rows x place rises free = by (top_of rows x place) (top_is rows rises x place)
  where
    by : (a : Option ℕ) → IsTopOf rows x place a → a ≡ None
    by None f = refl
    by (Some n) top = absurd (free n top.is_there)

-- the last is there
pub top_there : (rows : List MountRow) (x : ℕ) (place : List (List ℕ)) (m : ℕ) → IsRising rows → top_of rows x place ≡ Some m → HasRow (IsAt x place) rows m
top_there rows x place m rises e =
    let top : IsTop rows x place m = subst (λ (o : Option ℕ). IfSome o (IsTop rows x place)) e (some_greatest rows x place (top_of rows x place) (top_is rows rises x place)) in
    top.is_there

-- and where there is no last, there is none
pub none_there : (rows : List MountRow) (x : ℕ) (place : List (List ℕ)) → IsRising rows → top_of rows x place ≡ None → HasNoMountAt rows x place
none_there rows x place rises e = subst (IsTopOf rows x place) e (top_is rows rises x place)
