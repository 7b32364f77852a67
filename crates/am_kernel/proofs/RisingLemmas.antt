-- Rows that rise by their numbers: one is found by halves, and one is written or goes.
use Rattle.std.proofs.Common.{◌≡◌, ◌≢◌, ◌≤◌, ◌<◌, ◌+◌, ◌==◌, ◌&&◌, ◌||◌, ◌∷◌, ◌++◌, [], ℕ, zero, suc, Bool, true, false, cond, List, map, length, take, drop, get_or, Option, Some, None, Ok, Err, refl, sym, ap, subst, ◌∙◌, arith}
use Rattle.std.specs.Prelude.{find}
use Rattle.std.specs.List.{All, list_any, slice_set}
use Rattle.std.specs.List.Sorted.{IsBinarySearchResult}
use Rattle.std.specs.Ordering.{nat_cmp}
use Rattle.std.proofs.lemmas.Bool.{eqb-true, ne_eqb}
use Rattle.std.proofs.lemmas.List.Elements.{All-push, All-weaker, All-map, All-head, All-tail}
use Rattle.am_names.proofs.Basics.{or_false}
use Rattle.am_names.proofs.LeaveLemmas.{Rise, others, others_at, others_none}
use Rattle.am_names.specs.{RiseBy}
use Rattle.am_group.proofs.FindLemmas.{rows_rise, index_found, all_differ}

-- a row of a list that has one at this index
a_row : {R : Type 0} (i : ℕ) (rows : List R) → i < length rows → R
a_row i [] less = absurd (grind (arith, less))
a_row i (row ∷ rows) less = row

module _ {R : Type 0} (number : R → ℕ) where
  -- ---- one more row

  pub rises_on : (low : ℕ) (rows : List R) (row : R) → RiseBy number low rows → low ≤ number row → All (λ (other : R). number other < number row) rows → RiseBy number low (rows ++ row ∷ [])
  rises_on low [] row rises le all = (le, tt)
  rises_on low (other ∷ rows) row rises le all =
      let less : number other < number row = All-head (λ (r : R). number r < number row) other rows all in
      (rises.0, rises_on (number other + 1) rows row rises.1 (omega (arith, less)) (All-tail (λ (r : R). number r < number row) other rows all))

  -- ---- numbers that were given

  pub below_next : (last n : ℕ) (rows : List R) → n ≡ last + 1 → All (λ (row : R). number row ≤ last) rows → All (λ (row : R). number row < n) rows
  below_next last n rows is all = All-weaker (λ (row : R). number row ≤ last) (λ (row : R). number row < n) (λ row h. below (number row) h) rows all
    where
      below : (m : ℕ) → m ≤ last → m < n
      below m h = omega (arith, is)

  pub given_next : (last : ℕ) (rows : List R) (row : R) → number row ≡ last + 1 → All (λ (r : R). number r ≤ last) rows → All (λ (r : R). number r ≤ last + 1) (rows ++ row ∷ [])
  given_next last rows row is all =
      All-push (λ (r : R). number r ≤ last + 1) rows row
      (All-weaker (λ (r : R). number r ≤ last) (λ (r : R). number r ≤ last + 1) (λ r h. step (number r) h) rows all) (greatest (number row) is)
    where
      step : (n : ℕ) → n ≤ last → n ≤ last + 1
      step n h = omega arith

      greatest : (n : ℕ) → n ≡ last + 1 → n ≤ last + 1
      greatest n e = omega arith

  pub given_mapped : (last : ℕ) (f : R → R) → ((r : R) → number (f r) ≡ number r) → (rows : List R) → All (λ (r : R). number r ≤ last) rows → All (λ (r : R). number r ≤ last) (map f rows)
  given_mapped last f same rows all =
      All-map (λ (r : R). number r ≤ last) f rows (λ k d e. subst (λ (n : ℕ). n ≤ last) (sym (same _)) (all k d e))

  -- ---- one row goes

  module _ (rows : List R) (rises : RiseBy number 0 rows) (n : ℕ) where
    pub left_found :
        (i : ℕ) → i < length rows → IsBinarySearchResult (λ (row : R). nat_cmp (number row) n) rows (Ok i) →
        others number n rows ≡ take i rows ++ drop (suc i) rows
    left_found i less equal = let d : R = a_row i rows less in others_at number rows (rows_rise number 0 rows rises) i n d less (index_found number rows rises n i less equal d)

    pub left_absent :
        (i : ℕ) → IsBinarySearchResult (λ (row : R). nat_cmp (number row) n) rows (Err i) →
        others number n rows ≡ rows
    left_absent i parted = others_none number rows n (all_differ number rows rises n i parted)

  -- ---- one row is written

  -- what changes rows of this number alone
  module _ (n : ℕ) (f : R → R) (only : (r : R) → number r ≢ n → f r ≡ r) where
    unchanged : (rows : List R) → ((i : ℕ) (d : R) → i < length rows → number (get_or rows i d) ≢ n) → map f rows ≡ rows
    unchanged [] differ = refl
    unchanged (r ∷ rows) differ =
        ap (λ (x : R). x ∷ map f rows) (only r (differ 0 r (omega arith))) ∙
        ap (λ (xs : List R). r ∷ xs) (unchanged rows (λ i d within. differ (suc i) d (omega arith)))

    written_at : (rows : List R) → Rise number rows → (i : ℕ) (d y : R) → i < length rows → number (get_or rows i d) ≡ n → y ≡ f (get_or rows i d) → slice_set rows i y ≡ map f rows
    written_at [] rise i d y within e is = absurd (omega arith)
    written_at (r ∷ rows) rise zero d y within e is =
        let rest = unchanged rows (λ j k less same.
        let up : number r < number (get_or rows j k) = rise 0 (suc j) k (omega arith) (omega arith) in
        omega arith) in
        ap (λ (x : R). x ∷ rows) is ∙ ap (λ (xs : List R). f r ∷ xs) (sym rest)
    written_at (r ∷ rows) rise (suc i) d y within e is =
        let up : number r < number (get_or rows i d) = rise 0 (suc i) d (omega arith) (omega arith) in
        ap (λ (x : R). x ∷ slice_set rows i y) (sym (only r (λ same. omega arith))) ∙
        ap (λ (xs : List R). f r ∷ xs) (written_at rows (λ j k c less h. rise (suc j) (suc k) c (omega arith) (omega arith)) i d y (omega arith) e is)

    module _ (rows : List R) (rises : RiseBy number 0 rows) where
      pub written_found : (i : ℕ) (d y : R) → i < length rows → IsBinarySearchResult (λ (r : R). nat_cmp (number r) n) rows (Ok i) → y ≡ f (get_or rows i d) → slice_set rows i y ≡ map f rows
      written_found i d y less equal is = written_at rows (rows_rise number 0 rows rises) i d y less (index_found number rows rises n i less equal d) is

      pub written_absent : (i : ℕ) → IsBinarySearchResult (λ (r : R). nat_cmp (number r) n) rows (Err i) → rows ≡ map f rows
      written_absent i parted = sym (unchanged rows (all_differ number rows rises n i parted))

  -- ---- a test of one row

  -- the row is there, and passes
  abbrev pub passes : (R → Bool) → Option R → Bool
  passes test None = false
  passes test (Some row) = test row

  none_lower : (n : ℕ) (test : R → Bool) (low : ℕ) (rows : List R) → RiseBy number low rows → n < low → list_any (λ r. number r == n && test r) rows ≡ false
  none_lower n test low [] rises less = refl
  none_lower n test low (row ∷ rows) rises less =
      let first : low ≤ number row = rises.0 in
      rw (ne_eqb (number row) n (λ same. omega arith)) (none_lower n test (number row + 1) rows rises.1 (omega arith))

  -- one that has the number and passes is that which is found
  pub any_is_found : (n : ℕ) (test : R → Bool) (low : ℕ) (rows : List R) → RiseBy number low rows → list_any (λ r. number r == n && test r) rows ≡ passes test (find (λ r. number r == n) rows)
  any_is_found n test low [] rises = refl
  any_is_found n test low (row ∷ rows) rises = by_test (number row == n) refl (any_is_found n test (number row + 1) rows rises.1)
    where
      by_test : (b : Bool) → (number row == n) ≡ b → list_any (λ r. number r == n && test r) rows ≡ passes test (find (λ r. number r == n) rows) →
          ((b && test row) || list_any (λ r. number r == n && test r) rows) ≡ passes test (cond b (Some row) (find (λ r. number r == n) rows))
      by_test true e later =
          let same : number row ≡ n = eqb-true (number row) n e in
          ap (λ (c : Bool). test row || c) (none_lower n test (number row + 1) rows rises.1 (omega (arith, same))) ∙ or_false (test row)
      by_test false e later = later
