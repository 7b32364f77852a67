-- What the clones of lists hold.
use Rattle.std.proofs.Common.{◌≡◌, ℕ, Bool, true, false, cond, nat_eq, List, [], ◌∷◌, Some, refl, sym}
use Rattle.std.specs.Prelude.{Vec}
use Rattle.std.specs.List.{AllZip, each_same}
use Rattle.std.specs.Map.{lookup}
use Rattle.std.specs.Vec.{vec_len}
use Rattle.am_index.specs.Lists.{listed_in}

module _ {Z : Type 0} where
  -- an entry and its clone have the same number, and lists of the same
  abbrev pub IsListClone : ℕ × Vec ℕ Z → ℕ × Vec ℕ Z → Type 0
  IsListClone p q = (q.0 ≡ p.0) × (AllZip (λ x y. y ≡ x) p.1.items q.1.items × (vec_len q.1 ≡ vec_len p.1))

  -- each number has the same in both
  pub same_lists : (es fs : List (ℕ × Vec ℕ Z)) → AllZip IsListClone es fs → (n : ℕ) → listed_in (lookup (nat_eq n) fs) ≡ listed_in (lookup (nat_eq n) es)
  same_lists [] [] clones n = refl
  same_lists [] (f ∷ fs) clones n = absurd clones
  same_lists (e ∷ es) [] clones n = absurd clones
  same_lists (e ∷ es) (f ∷ fs) clones n = by (nat_eq n e.0) refl (same_lists es fs clones.1 n)
    where
      by : (b : Bool) → nat_eq n e.0 ≡ b → listed_in (lookup (nat_eq n) fs) ≡ listed_in (lookup (nat_eq n) es) → listed_in (cond (nat_eq n f.0) (Some f.1) (lookup (nat_eq n) fs)) ≡ listed_in (cond (nat_eq n e.0) (Some e.1) (lookup (nat_eq n) es))
      by true is rest = rw (clones.0.0, is) (each_same e.1.items f.1.items clones.0.1.0)
      by false is rest = rw (clones.0.0, is) rest
