-- What the clones of keys and entries say.
use Rattle.std.proofs.Common.{◌≡◌, ℕ, List, [], ◌∷◌, refl, ap, ◌∙◌}
use Rattle.std.specs.Prelude.{Vec}
use Rattle.std.specs.List.{AllZip, each_same}
use Rattle.std.specs.Vec.{vec_len}
use Rattle.am_map.specs.EntryText.{EntryText, Row}
use Rattle.am_map.specs.Stored.{rows_by}

module _ {Z : Type 0} where
  -- a key with its entry and a clone of both are one row
  abbrev pub AreSame : Vec ℕ Z × EntryText → Vec ℕ Z × EntryText → Type 0
  AreSame p q = (AllZip (λ x y. y ≡ x) p.0.items q.0.items × (vec_len q.0 ≡ vec_len p.0)) × (q.1 ≡ p.1)

  pub same_rows : (es fs : List (Vec ℕ Z × EntryText)) → AllZip AreSame es fs → rows_by (λ (key : Vec ℕ Z). key.items) fs ≡ rows_by (λ (key : Vec ℕ Z). key.items) es
  same_rows [] [] clones = refl
  same_rows [] (f ∷ fs) clones = absurd clones
  same_rows (e ∷ es) [] clones = absurd clones
  same_rows (e ∷ es) (f ∷ fs) clones =
      let key : f.0.items ≡ e.0.items = each_same e.0.items f.0.items clones.0.0.0 in
      rw (key, clones.0.1, same_rows es fs clones.1) refl
