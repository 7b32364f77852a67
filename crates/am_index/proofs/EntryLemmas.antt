-- What a write at the place of a value changes, in a map by numbers.
use Rattle.std.proofs.Common.{◌≡◌, ◌+◌, ℕ, zero, suc, Bool, true, false, cond, not, nat_eq, List, [], ◌∷◌, length, get_or, slice_get, position, Option, Some, None, refl, sym, ap, subst, ◌∙◌, arith}
use Rattle.std.specs.Prelude.{◌==◌, if◌then◌else◌, IfSome}
use Rattle.std.specs.Map.{keys_of, values_of}
use Rattle.std.specs.List.{position_or_len}
use Rattle.std.proofs.lemmas.Bool.{eqb-true}
use Rattle.std.proofs.lemmas.Cmp.{nat_eq_equiv}
use Rattle.std.proofs.lemmas.List.Quantifiers.{position-Some}
use Rattle.std.specs.Option.{option_map}
use Rattle.std.proofs.lemmas.Option.{slice_get-get_or, slice_get-map}
use Rattle.std.proofs.lemmas.Map.Entries.{hash_map_get_place}
use Rattle.indexmap.specs.IndexMap.{IndexMap, get, keys, values, insert_entry, set_value_at, with_value_at, IsUnique, Updates}
use Rattle.indexmap.proofs.CallerLemmas.{keys-with_value_at, updates-with_value_at}

-- a number that is found stands where it is found
pub number_found :
    (numbers : List ℕ) (n i : ℕ) → position (λ k. nat_eq n k) numbers ≡ Some i →
    slice_get numbers i ≡ Some n
number_found numbers n i e =
    let found = position-Some (λ k. nat_eq n k) numbers i n e in
    slice_get-get_or numbers i n found.0 ∙
    ap Some (sym (eqb-true n (get_or numbers i n) found.1))

-- a list of no length has nothing
pub none_in : (xs : List ℕ) → (length xs == 0) ≡ true → xs ≡ []
none_in [] e = refl
none_in (x ∷ xs) e =
    let empty : length (x ∷ xs) ≡ 0 = eqb-true (length (x ∷ xs)) 0 e in
    absurd (omega arith)

module _ {V : Type 0} where
  -- a number and a list that stand at one place are one entry
  pub entry_of :
      (es : List (ℕ × V)) (i n : ℕ) (v : V) → slice_get (keys_of es) i ≡ Some n →
      slice_get (values_of es) i ≡ Some v → slice_get es i ≡ Some (n, v)
  entry_of [] i n v key value = absurd cc
  entry_of (e ∷ es) zero n v key value =
      let first : e.0 ≡ n = cc in
      let second : e.1 ≡ v = cc in
      ap (λ (k : ℕ). Some (k, e.1)) first ∙ ap (λ x. Some (n, x)) second
  entry_of (e ∷ es) (suc i) n v key value = entry_of es i n v key value

  -- what is written at a place stands there
  pub value_set :
      (es : List (ℕ × V)) (i : ℕ) (v w : V) → slice_get (values_of es) i ≡ Some v →
      slice_get (values_of (set_value_at es i w)) i ≡ Some w
  value_set [] i v w at = absurd cc
  value_set (e ∷ es) zero v w at = refl
  value_set (e ∷ es) (suc i) v w at = value_set es i v w at

  -- what is put in stands at the place that it was to have
  pub entry_put :
      (n : ℕ) (w : V) (es : List (ℕ × V)) →
      slice_get (insert_entry nat_eq es n w) (position_or_len (nat_eq n) (keys_of es)) ≡ Some (n, w)
  entry_put n w [] = refl
  entry_put n w (e ∷ es) = go (nat_eq n e.0) refl (entry_put n w es)
    where
      others : List (ℕ × V)
      others = insert_entry nat_eq es n w

      place : ℕ
      place = position_or_len (nat_eq n) (keys_of es)

      go :
          (b : Bool) → nat_eq n e.0 ≡ b → slice_get others place ≡ Some (n, w) →
          slice_get (cond b ((e.0, w) ∷ es) (e ∷ others)) (cond (not b) (1 + place) 0) ≡ Some (n, w)
      go true same ih = ap (λ (k : ℕ). Some (k, w)) (sym (eqb-true n e.0 same))
      go false other ih =
          let next : 1 + place ≡ suc place = omega arith in
          ap (slice_get (e ∷ others)) next ∙ ih

-- what is put in, at the place that it has
module _ {V : Type 0} (n : ℕ) (w : V) (es new : List (ℕ × V)) (place : ℕ)
    (entries : new ≡ insert_entry nat_eq es n w)
    (index : place ≡ position_or_len (nat_eq n) (keys_of es)) where
  put_there : slice_get new place ≡ Some (n, w)
  put_there =
      ap (λ (es : List (ℕ × V)). slice_get es place) entries ∙ ap (slice_get _) index ∙
      entry_put n w es

  -- its number stands there
  pub key_put : slice_get (keys_of new) place ≡ Some n
  key_put =
      slice_get-map (λ (e : ℕ × V). e.0) new place ∙
      ap (option_map (λ (e : ℕ × V). e.0)) put_there

  -- and its value
  pub value_put : slice_get (values_of new) place ≡ Some w
  value_put =
      slice_get-map (λ (e : ℕ × V). e.1) new place ∙
      ap (option_map (λ (e : ℕ × V). e.1)) put_there

-- what is seen of a value that was looked up
module _ {V X S : Type 0} (view : Option V → X) where
  -- in maps that are the same the same is seen
  pub same_views :
      {m o : IndexMap ℕ V S} → m ≡ o → (k : ℕ) → view (get nat_eq m k) ≡ view (get nat_eq o k)
  same_views same k = ap (λ (m : IndexMap ℕ V S). view (get nat_eq m k)) same

  -- the value of the number stands at the place
  module _ (m : IndexMap ℕ V S) (unique : IsUnique nat_eq m) (i n : ℕ) (v : V)
      (key : slice_get (keys m) i ≡ Some n) (value : slice_get (values m) i ≡ Some v) where
    here : slice_get m.entries i ≡ Some (n, v)
    here = entry_of m.entries i n v key value

    -- what is seen, as it is
    abbrev before : ℕ → X
    before k = view (get nat_eq m k)

    -- what is seen, once the value at the place is this
    abbrev after : V → ℕ → X
    after w k = view (get nat_eq (with_value_at m i w) k)

    -- the number has the value at the place
    pub stood : view (get nat_eq m n) ≡ view (Some v)
    stood = ap view (hash_map_get_place nat_eq_equiv m i n v unique here)

    -- what is done to the value at the place is done to that of the number
    pub changed :
        (f : X → X) (w : V) → view (Some w) ≡ f (view (Some v)) → (k : ℕ) →
        view (get nat_eq (with_value_at m i w) k) ≡
        (if nat_eq n k then f (view (get nat_eq m k)) else view (get nat_eq m k))
    changed f w e k =
        let written = updates-with_value_at m i w nat_eq_equiv unique n v here in
        ap view (written.0 k) ∙ go (nat_eq n k) refl
      where
        go :
            (b : Bool) → nat_eq n k ≡ b →
            view (cond b (Some w) (get nat_eq m k)) ≡ cond b (f (before k)) (before k)
        go true same =
            e ∙ ap f (sym (subst (λ (x : ℕ). before x ≡ view (Some v)) (eqb-true n k same) stood))
        go false other = refl

    -- a value of which the same is seen changes nothing
    pub kept :
        (w : V) → view (Some w) ≡ view (Some v) → (k : ℕ) →
        view (get nat_eq (with_value_at m i w) k) ≡ view (get nat_eq m k)
    kept w e k = changed (λ (x : X). x) w e k ∙ go (nat_eq n k)
      where
        go : (b : Bool) → cond b (before k) (before k) ≡ before k
        go true = refl
        go false = refl

    -- a value of which nothing is seen goes, and changes nothing
    pub tidied :
        (w : V) → view (Some w) ≡ view None →
        (gone : Option (ℕ × V)) (new : IndexMap ℕ V S) →
        gone ≡ slice_get (with_value_at m i w).entries i →
        IfSome gone (λ e. Updates nat_eq (with_value_at m i w) new e.0 None) → (k : ℕ) →
        view (get nat_eq new k) ≡ view (get nat_eq (with_value_at m i w) k)
    tidied w none gone new e updates k = ap view (less.0 k) ∙ go (nat_eq n k) refl
      where
        key_there : slice_get (keys (with_value_at m i w)) i ≡ Some n
        key_there = ap (λ (ks : List ℕ). slice_get ks i) (keys-with_value_at m i w) ∙ key

        there : gone ≡ Some (n, w)
        there =
            e ∙
            entry_of (with_value_at m i w).entries i n w key_there
            (value_set m.entries i v w value)

        IsLess : Option (ℕ × V) → Type 0
        IsLess o = IfSome o (λ p. Updates nat_eq (with_value_at m i w) new p.0 None)

        less : Updates nat_eq (with_value_at m i w) new n None
        less = subst IsLess there updates

        own : after w k ≡ cond (nat_eq n k) (view None) (before k)
        own = changed (λ (x : X). view None) w none k

        go :
            (b : Bool) → nat_eq n k ≡ b →
            view (cond b None (get nat_eq (with_value_at m i w) k)) ≡ after w k
        go true same = sym (own ∙ ap (λ (c : Bool). cond c (view None) (before k)) same)
        go false other = refl
