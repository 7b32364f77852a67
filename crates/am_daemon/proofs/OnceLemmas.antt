-- No file system comes to be there twice.
use Rattle.std.proofs.Common.{◌≡◌, ℕ, ◌==◌, Bool, true, false, cond, not, List, [], ◌∷◌, ◌++◌, map, filter, refl, sym, subst}
use Rattle.std.specs.List.{AllByRecursion, IsDistinct}
use Rattle.am_state.specs.{HeldRow, KnownRow}
use Rattle.am_daemon.specs.{AreOnce, known_at, held_as}

pub none_once : AreOnce []
unfolding IsDistinct
none_once = tt

-- the rows of a file system go, and one of it comes
module _ {X : Type 0} (fs_of : X → ℕ) (new : X) where
  apart : (fs : ℕ) (rows : List X) → (fs == fs_of new) ≡ false → AllByRecursion (λ other. (fs == other) ≡ false) (map fs_of rows) → AllByRecursion (λ other. (fs == other) ≡ false) (map fs_of (filter (λ row. not (fs_of row == fs_of new)) rows ++ new ∷ []))
  apart fs [] differs h = (differs, tt)
  apart fs (row ∷ rows) differs h = by (fs_of row == fs_of new) (apart fs rows differs h.1)
    where
      by : (b : Bool) → AllByRecursion (λ other. (fs == other) ≡ false) (map fs_of (filter (λ r. not (fs_of r == fs_of new)) rows ++ new ∷ [])) →
          AllByRecursion (λ other. (fs == other) ≡ false) (map fs_of (cond (not b) (row ∷ filter (λ r. not (fs_of r == fs_of new)) rows) (filter (λ r. not (fs_of r == fs_of new)) rows) ++ new ∷ []))
      by true later = later
      by false later = (h.0, later)

  put_once : (rows : List X) → AreOnce (map fs_of rows) → AreOnce (map fs_of (filter (λ row. not (fs_of row == fs_of new)) rows ++ new ∷ []))
  unfolding IsDistinct
  put_once [] h = (tt, tt)
  put_once (row ∷ rows) h = by (fs_of row == fs_of new) refl (put_once rows h.1)
    where
      by : (b : Bool) → (fs_of row == fs_of new) ≡ b → AreOnce (map fs_of (filter (λ r. not (fs_of r == fs_of new)) rows ++ new ∷ [])) →
          AreOnce (map fs_of (cond (not b) (row ∷ filter (λ r. not (fs_of r == fs_of new)) rows) (filter (λ r. not (fs_of r == fs_of new)) rows) ++ new ∷ []))
      by true is later = later
      by false is later = (apart (fs_of row) rows is h.0, later)

pub known_once : (fs : ℕ) (path : List (List ℕ)) (old new : List KnownRow) → new ≡ known_at fs path old → AreOnce (map (λ row. row.fs) old) → AreOnce (map (λ row. row.fs) new)
known_once fs path old new is h =
    subst (λ (rows : List KnownRow). AreOnce (map (λ row. row.fs) rows)) (sym is) (put_once (λ (row : KnownRow). row.fs) (record { fs = fs; path = path }) old h)

pub held_once : (fs attach : ℕ) (old new : List HeldRow) → new ≡ held_as fs attach old → AreOnce (map (λ row. row.fs) old) → AreOnce (map (λ row. row.fs) new)
held_once fs attach old new is h =
    subst (λ (rows : List HeldRow). AreOnce (map (λ row. row.fs) rows)) (sym is) (put_once (λ (row : HeldRow). row.fs) (record { fs = fs; attach = attach }) old h)
