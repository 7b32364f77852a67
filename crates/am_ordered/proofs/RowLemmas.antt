-- Rows by their places. What stands at a place is f of it.
use Rattle.std.proofs.Common.{◌≡◌, ◌≢◌, ℕ, zero, suc, ◌<◌, ◌≤◌, ◌==◌, Bool, true, false, cond, List, [], ◌∷◌, ◌++◌, map, length, remove, slice_get, Option, Some, None, inl, inr, ◌⊎◌, refl, sym, ap, subst, ◌∙◌, arith}
use Rattle.std.specs.Cmp.{IsEquivalence}
use Rattle.std.specs.List.{filter_map, IsDistinct, AllByRecursion}
use Rattle.std.specs.Map.{keys_of, lookup}
use Rattle.std.specs.Option.{option_and_then}
use Rattle.std.proofs.lemmas.Bool.{true≢false, cases_eq}
use Rattle.std.proofs.lemmas.Option.{same_Some, none-some}
use Rattle.indexmap.specs.IndexMap.{insert_entry, shift_remove_entry}
use Rattle.am_ordered.specs.{times}
use Rattle.am_ordered.proofs.OrderLemmas.{there_first, there_later, there_at, times_this, times_other}

-- ---- rows of places

module _ {X : Type 0} where
  -- places that are renamed, where the same stands
  pub same_rows : (f g : ℕ → Option X) (h : ℕ → ℕ) (ps : List ℕ) → ((p : ℕ) → 0 < times p ps → g (h p) ≡ f p) → filter_map g (map h ps) ≡ filter_map f ps
  same_rows f g h [] same = refl
  same_rows f g h (p ∷ ps) same =
      rw (same p (there_first p ps), same_rows f g h ps (λ q there. same q (there_later q p ps there))) refl

  -- the same places, where the same stands
  pub kept_rows : (f g : ℕ → Option X) (ps : List ℕ) → ((p : ℕ) → 0 < times p ps → g p ≡ f p) → filter_map g ps ≡ filter_map f ps
  kept_rows f g [] same = refl
  kept_rows f g (p ∷ ps) same =
      rw (same p (there_first p ps), kept_rows f g ps (λ q there. same q (there_later q p ps there))) refl

  -- something stands at each place
  abbrev pub AllStand : (ℕ → Option X) → List ℕ → Type 0
  AllStand f ps = (p : ℕ) → 0 < times p ps → (x : X) × (f p ≡ Some x)

  later_stand : (f : ℕ → Option X) (p : ℕ) (ps : List ℕ) → AllStand f (p ∷ ps) → AllStand f ps
  later_stand f p ps stand q there = stand q (there_later q p ps there)

  first_stands : (f : ℕ → Option X) (p : ℕ) (ps : List ℕ) → AllStand f (p ∷ ps) → (x : X) × (f p ≡ Some x)
  first_stands f p ps stand = stand p (there_first p ps)

  pub length_rows : (f : ℕ → Option X) (ps : List ℕ) → AllStand f ps → length (filter_map f ps) ≡ length ps
  length_rows f [] stand = refl
  length_rows f (p ∷ ps) stand =
      let first = first_stands f p ps stand in
      rw first.1 (ap suc (length_rows f ps (later_stand f p ps stand)))

  pub row_is : (f : ℕ → Option X) (ps : List ℕ) (i : ℕ) → AllStand f ps → slice_get (filter_map f ps) i ≡ option_and_then f (slice_get ps i)
  row_is f [] i stand = refl
  row_is f (p ∷ ps) zero stand = let first = first_stands f p ps stand in rw first.1 refl
  row_is f (p ∷ ps) (suc i) stand =
      let first = first_stands f p ps stand in
      rw first.1 (row_is f ps i (later_stand f p ps stand))

  pub rows_removed : (f : ℕ → Option X) (ps : List ℕ) (i : ℕ) → AllStand f ps → filter_map f (remove ps i) ≡ remove (filter_map f ps) i
  rows_removed f [] zero stand = refl
  rows_removed f [] (suc i) stand = refl
  rows_removed f (p ∷ ps) zero stand = let first = first_stands f p ps stand in rw first.1 refl
  rows_removed f (p ∷ ps) (suc i) stand =
      let first = first_stands f p ps stand in
      rw first.1 (ap (λ (rows : List X). first.0 ∷ rows) (rows_removed f ps i (later_stand f p ps stand)))

-- ---- rows with keys

module _ {K V : Type 0} where
  -- the row at this place passes the test, and no other does
  pub record OnlyAt (test : K → Bool) (f : ℕ → Option (K × V)) (p : ℕ) (row : K × V) : Type 0 where
    pub here : f p ≡ Some row
    pub passes : test row.0 ≡ true
    pub only : (q : ℕ) (other : K × V) → f q ≡ Some other → test other.0 ≡ true → q ≡ p

  pub lookup_rows : (test : K → Bool) (f : ℕ → Option (K × V)) (p : ℕ) (row : K × V) (ps : List ℕ) → OnlyAt test f p row → 0 < times p ps → lookup test (filter_map f ps) ≡ Some row.1
  lookup_rows test f p row [] at there = absurd (omega arith)
  lookup_rows test f p row (q ∷ ps) at there = by (cases_eq q p) (lookup_rows test f p row ps at)
    where
      further : (o : Option (K × V)) → f q ≡ o → q ≢ p → lookup test (filter_map f ps) ≡ Some row.1 → lookup test (filter_map f (q ∷ ps)) ≡ Some row.1
      further None e apart later = rw e later
      further (Some other) e apart later = rw e (test_by (test other.0) refl)
        where
          test_by : (b : Bool) → test other.0 ≡ b → cond (test other.0) (Some other.1) (lookup test (filter_map f ps)) ≡ Some row.1
          test_by true t = absurd (apart (at.only q other e t))
          test_by false t = rw t later

      by : (q ≡ p) ⊎ (q ≢ p) → (0 < times p ps → lookup test (filter_map f ps) ≡ Some row.1) → lookup test (filter_map f (q ∷ ps)) ≡ Some row.1
      by (inl e) later = rw (e, at.here, at.passes) refl
      by (inr apart) later = further (f q) refl apart (later (subst (λ (n : ℕ). 0 < n) (times_other p q ps apart) there))

  pub lookup_none : (test : K → Bool) (f : ℕ → Option (K × V)) (ps : List ℕ) → ((q : ℕ) (other : K × V) → f q ≡ Some other → test other.0 ≡ false) → lookup test (filter_map f ps) ≡ None
  lookup_none test f [] none = refl
  lookup_none test f (q ∷ ps) none = by (f q) refl (lookup_none test f ps none)
    where
      by : (o : Option (K × V)) → f q ≡ o → lookup test (filter_map f ps) ≡ None → lookup test (filter_map f (q ∷ ps)) ≡ None
      by None e later = rw e later
      by (Some other) e later = rw (e, none q other e) later

  -- the one that passes goes
  pub removed_row : (test : K → Bool) (f : ℕ → Option (K × V)) (p : ℕ) (row : K × V) (ps : List ℕ) (i : ℕ) → OnlyAt test f p row → slice_get ps i ≡ Some p → times p ps ≡ 1 → filter_map f (remove ps i) ≡ shift_remove_entry test (filter_map f ps)
  removed_row test f p row [] i at there once = absurd (none-some p there)
  removed_row test f p row (q ∷ ps) zero at there once =
      rw (same_Some q p there, at.here, at.passes) refl
  removed_row test f p row (q ∷ ps) (suc i) at there once = by (cases_eq q p) (removed_row test f p row ps i at there)
    where
      further : (o : Option (K × V)) → f q ≡ o → q ≢ p → filter_map f (remove ps i) ≡ shift_remove_entry test (filter_map f ps) → filter_map f (q ∷ remove ps i) ≡ shift_remove_entry test (filter_map f (q ∷ ps))
      further None e apart later = rw e later
      further (Some other) e apart later = rw e (test_by (test other.0) refl)
        where
          test_by : (b : Bool) → test other.0 ≡ b → other ∷ filter_map f (remove ps i) ≡ cond (test other.0) (filter_map f ps) (other ∷ shift_remove_entry test (filter_map f ps))
          test_by true t = absurd (apart (at.only q other e t))
          test_by false t = rw (t, later) refl

      by : (q ≡ p) ⊎ (q ≢ p) → (times p ps ≡ 1 → filter_map f (remove ps i) ≡ shift_remove_entry test (filter_map f ps)) → filter_map f (q ∷ remove ps i) ≡ shift_remove_entry test (filter_map f (q ∷ ps))
      by (inl e) later =
          let more : times p (q ∷ ps) ≡ suc (times p ps) = rw e (times_this p ps) in
          absurd (omega (arith, there_at ps i p there))
      by (inr apart) later = further (f q) refl apart (later (sym (times_other p q ps apart) ∙ once))

  -- the one that passes takes a value
  pub replaced_row : (eq : K → K → Bool) (key : K) (value : V) (f g : ℕ → Option (K × V)) (p : ℕ) (row : K × V) (ps : List ℕ) → OnlyAt (eq key) f p row → g p ≡ Some (row.0, value) → ((q : ℕ) → q ≢ p → g q ≡ f q) → times p ps ≡ 1 → filter_map g ps ≡ insert_entry eq (filter_map f ps) key value
  replaced_row eq key value f g p row [] at new same once = absurd (omega arith)
  replaced_row eq key value f g p row (q ∷ ps) at new same once = by (cases_eq q p) (replaced_row eq key value f g p row ps at new same)
    where
      further : (o : Option (K × V)) → f q ≡ o → q ≢ p → filter_map g ps ≡ insert_entry eq (filter_map f ps) key value → filter_map g (q ∷ ps) ≡ insert_entry eq (filter_map f (q ∷ ps)) key value
      further None e apart later = rw (same q apart, e) later
      further (Some other) e apart later = rw (same q apart, e) (test_by (eq key other.0) refl)
        where
          test_by : (b : Bool) → eq key other.0 ≡ b → other ∷ filter_map g ps ≡ cond (eq key other.0) ((other.0, value) ∷ filter_map f ps) (other ∷ insert_entry eq (filter_map f ps) key value)
          test_by true t = absurd (apart (at.only q other e t))
          test_by false t = rw (t, later) refl

      by : (q ≡ p) ⊎ (q ≢ p) → (times p ps ≡ 1 → filter_map g ps ≡ insert_entry eq (filter_map f ps) key value) → filter_map g (q ∷ ps) ≡ insert_entry eq (filter_map f (q ∷ ps)) key value
      by (inl e) later =
          let more : times p (q ∷ ps) ≡ suc (times p ps) = rw e (times_this p ps) in
          let none : times p ps ≡ 0 = omega arith in
          let rest : filter_map g ps ≡ filter_map f ps = kept_rows f g ps (λ r there. same r (λ (s : r ≡ p). absurd (omega (arith, subst (λ (x : ℕ). 0 < times x ps) s there)))) in
          rw (e, new, at.here, at.passes, rest) refl
      by (inr apart) later = further (f q) refl apart (later (sym (times_other p q ps apart) ∙ once))

  -- a key that isn't there goes last
  pub inserted_last : (eq : K → K → Bool) (key : K) (value : V) (rows : List (K × V)) → lookup (eq key) rows ≡ None → insert_entry eq rows key value ≡ rows ++ (key, value) ∷ []
  inserted_last eq key value [] none = refl
  inserted_last eq key value (row ∷ rows) none = by (eq key row.0) refl (inserted_last eq key value rows)
    where
      by : (b : Bool) → eq key row.0 ≡ b → (lookup (eq key) rows ≡ None → insert_entry eq rows key value ≡ rows ++ (key, value) ∷ []) → insert_entry eq (row ∷ rows) key value ≡ row ∷ (rows ++ (key, value) ∷ [])
      by true e later = absurd (none-some row.1 (sym (subst (λ (b : Bool). cond b (Some row.1) (lookup (eq key) rows) ≡ None) e none)))
      by false e later =
          rw (e, later (subst (λ (b : Bool). cond b (Some row.1) (lookup (eq key) rows) ≡ None) e none)) refl

  -- the key has this value now, and each other one as before
  pub inserted_lookup : (eq : K → K → Bool) → IsEquivalence eq → (key : K) (value : V) (q : K) (rows : List (K × V)) → lookup (eq q) (insert_entry eq rows key value) ≡ cond (eq key q) (Some value) (lookup (eq q) rows)
  inserted_lookup eq laws key value q [] = ap (λ (b : Bool). cond b (Some value) None) (laws.symm q key)
  inserted_lookup eq laws key value q (row ∷ rows) = by (inserted_lookup eq laws key value q rows) (eq key row.0) refl (eq key q) refl (eq q row.0) refl
    where
      by : lookup (eq q) (insert_entry eq rows key value) ≡ cond (eq key q) (Some value) (lookup (eq q) rows) →
          (a : Bool) → eq key row.0 ≡ a → (b : Bool) → eq key q ≡ b → (c : Bool) → eq q row.0 ≡ c →
          lookup (eq q) (insert_entry eq (row ∷ rows) key value) ≡ cond (eq key q) (Some value) (lookup (eq q) (row ∷ rows))
      by later true d true e true f = rw (d, e, f) refl
      by later true d true e false f = absurd (true≢false (sym d ∙ laws.congr key q row.0 e ∙ f))
      by later true d false e true f =
          absurd (true≢false (sym f ∙ laws.symm q row.0 ∙ sym (laws.congr key row.0 q d) ∙ e))
      by later true d false e false f = rw (d, e, f) refl
      by later false d true e true f = absurd (true≢false (sym f ∙ sym (laws.congr key q row.0 e) ∙ d))
      by later false d true e false f = rw (d, f) later
      by later false d false e true f = rw (d, e, f) refl
      by later false d false e false f = rw (d, f) later

  -- no two rows have one key
  abbrev pub AreApart : (K → K → Bool) → (ℕ → Option (K × V)) → Type 0
  AreApart eq f = (p q : ℕ) (x y : K × V) → f p ≡ Some x → f q ≡ Some y → p ≢ q → eq x.0 y.0 ≡ false

  apart_from : (eq : K → K → Bool) (f : ℕ → Option (K × V)) (p : ℕ) (x : K × V) (ps : List ℕ) → AreApart eq f → f p ≡ Some x → times p ps ≡ 0 → AllByRecursion (λ key. eq x.0 key ≡ false) (keys_of (filter_map f ps))
  apart_from eq f p x [] apart e none = tt
  apart_from eq f p x (q ∷ ps) apart e none = by (cases_eq q p) (apart_from eq f p x ps apart e)
    where
      further : (o : Option (K × V)) → f q ≡ o → q ≢ p → AllByRecursion (λ key. eq x.0 key ≡ false) (keys_of (filter_map f ps)) → AllByRecursion (λ key. eq x.0 key ≡ false) (keys_of (filter_map f (q ∷ ps)))
      further None k differs later = rw k later
      further (Some y) k differs later = rw k (apart p q x y e k (λ (s : p ≡ q). differs (sym s)), later)

      by : (q ≡ p) ⊎ (q ≢ p) → (times p ps ≡ 0 → AllByRecursion (λ key. eq x.0 key ≡ false) (keys_of (filter_map f ps))) → AllByRecursion (λ key. eq x.0 key ≡ false) (keys_of (filter_map f (q ∷ ps)))
      by (inl s) later =
          let more : times p (q ∷ ps) ≡ suc (times p ps) = rw s (times_this p ps) in
          absurd (omega arith)
      by (inr differs) later = further (f q) refl differs (later (sym (times_other p q ps differs) ∙ none))

  pub distinct_rows : (eq : K → K → Bool) (f : ℕ → Option (K × V)) (ps : List ℕ) → AreApart eq f → ((p : ℕ) → times p ps ≤ 1) → IsDistinct eq (keys_of (filter_map f ps))
  unfolding IsDistinct
  distinct_rows eq f [] apart few = tt
  distinct_rows eq f (p ∷ ps) apart few = by (f p) refl (distinct_rows eq f ps apart (λ q. fewer q (p == q) (few q)))
    where
      fewer : (q : ℕ) (b : Bool) → cond b (suc (times q ps)) (times q ps) ≤ 1 → times q ps ≤ 1
      fewer q true h = omega arith
      fewer q false h = h

      by : (o : Option (K × V)) → f p ≡ o → IsDistinct eq (keys_of (filter_map f ps)) → IsDistinct eq (keys_of (filter_map f (p ∷ ps)))
      by None e later = rw e later
      by (Some x) e later =
          let more : times p (p ∷ ps) ≡ suc (times p ps) = times_this p ps in
          rw e (apart_from eq f p x ps apart e (omega (arith, few p)), later)
