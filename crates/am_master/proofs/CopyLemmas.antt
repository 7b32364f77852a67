-- What the clones of texts and places say.
use Rattle.std.proofs.Common.{◌≡◌, ℕ, List, [], ◌∷◌, map, refl}
use Rattle.std.specs.Prelude.{Vec}
use Rattle.std.specs.List.{AllZip, each_same}
use Rattle.std.specs.Vec.{vec_len}
use Rattle.am_master.specs.Places.{Placed}

module _ {Z : Type 0} where
  -- a text with its place and a clone of both are one point
  abbrev pub AreSame : Vec ℕ Z × ℕ → Vec ℕ Z × ℕ → Type 0
  AreSame p q = (AllZip (λ x y. y ≡ x) p.0.items q.0.items × (vec_len q.0 ≡ vec_len p.0)) × (q.1 ≡ p.1)

  abbrev placed : Vec ℕ Z × ℕ → Placed
  placed e = (e.0.items, e.1)

  pub same_points : (es fs : List (Vec ℕ Z × ℕ)) → AllZip AreSame es fs → map placed fs ≡ map placed es
  same_points [] [] clones = refl
  same_points [] (f ∷ fs) clones = absurd clones
  same_points (e ∷ es) [] clones = absurd clones
  same_points (e ∷ es) (f ∷ fs) clones =
      let text : f.0.items ≡ e.0.items = each_same e.0.items f.0.items clones.0.0.0 in
      rw (text, clones.0.1, same_points es fs clones.1) refl
