-- What a search by halves finds in rows that rise by their number.
use Rattle.std.proofs.Common.{◌≡◌, true, false, ltb, ◌≢◌, ◌≤◌, ◌<◌, ◌+◌, ℕ, zero, suc, List, [], ◌∷◌, length, get_or, Option, Some, None, Ok, Err, refl, sym, ap, ◌∙◌, arith}
use Rattle.std.specs.Prelude.{find, nat_le, ◌==◌}
use Rattle.std.specs.List.{position_or_len}
use Rattle.std.specs.List.Sorted.{IsBinarySearchResult, IsNonDecreasingBy, IsPartitionPoint}
use Rattle.std.specs.Ordering.{nat_cmp, ordering_index}
use Rattle.std.proofs.lemmas.Cmp.{ranked}
use Rattle.std.proofs.lemmas.List.Sums.{position_or_len_is}
use Rattle.std.proofs.lemmas.Bool.{eq-eqb, ne_eqb}
use Rattle.std.proofs.lemmas.Bool.Decides.{nat_tests}
use Rattle.am_names.specs.{RiseBy}

module _ {R : Type 0} (number : R → ℕ) where
  -- the number of the row at this index
  abbrev number_at : List R → ℕ → R → ℕ
  number_at rows i d = number (get_or rows i d)

  -- the row with this number
  abbrev row_of : List R → ℕ → Option R
  row_of rows n = find (λ row. number row == n) rows

  at_least :
      (low : ℕ) (rows : List R) → RiseBy number low rows →
      (i : ℕ) (d : R) → i < length rows → low ≤ number_at rows i d
  at_least low [] rises i d h = absurd (omega arith)
  at_least low (row ∷ rows) rises zero d h = rises.0
  at_least low (row ∷ rows) rises (suc i) d h =
      let first : low ≤ number row = rises.0 in
      let next = number row + 1 in
      let rest : next ≤ number_at rows i d = at_least next rows rises.1 i d (omega arith) in
      omega arith

  -- a greater index has a greater number
  pub rows_rise :
      (low : ℕ) (rows : List R) → RiseBy number low rows →
      (i j : ℕ) (d : R) → i < j → j < length rows → number_at rows i d < number_at rows j d
  rows_rise low [] rises i j d less h = absurd (omega arith)
  rows_rise low (row ∷ rows) rises i zero d less h = absurd (omega arith)
  rows_rise low (row ∷ rows) rises zero (suc j) d less h =
      let next = number row + 1 in
      let rest : next ≤ number_at rows j d = at_least next rows rises.1 j d (omega arith) in
      omega arith
  rows_rise low (row ∷ rows) rises (suc i) (suc j) d less h =
      rows_rise (number row + 1) rows rises.1 i j d (omega arith) (omega arith)

  -- their numbers don't fall
  pub numbers_ordered : (rows : List R) → RiseBy number 0 rows → IsNonDecreasingBy number rows
  numbers_ordered rows rises i j d le h =
      let up = rows_rise 0 rows rises i j d in
      grind (arith, up, λ (same : i ≡ j). ap (λ (k : ℕ). number_at rows k d) same)

  -- the row with the number is the one that is looked up
  pub found_at :
      (low : ℕ) (rows : List R) → RiseBy number low rows →
      (i n : ℕ) (d : R) → i < length rows → number_at rows i d ≡ n →
      row_of rows n ≡ Some (get_or rows i d)
  found_at low [] rises i n d h e = absurd (omega arith)
  found_at low (row ∷ rows) rises zero n d h e = rw (eq-eqb (number row) n e) refl
  found_at low (row ∷ rows) rises (suc i) n d h e =
      let next = number row + 1 in
      let rest : next ≤ number_at rows i d = at_least next rows rises.1 i d (omega arith) in
      rw (ne_eqb (number row) n (λ same. omega arith))
      (found_at next rows rises.1 i n d (omega arith) e)

  -- a row that stands somewhere is that of its number
  pub found_in_place :
      (rows : List R) → RiseBy number 0 rows →
      (i n : ℕ) (row : R) → i < length rows → row ≡ get_or rows i row → number row ≡ n →
      row_of rows n ≡ Some row
  found_in_place rows rises i n row h is at =
      found_at 0 rows rises i n row h (ap number (sym is) ∙ at) ∙ ap Some (sym is)

  none_at :
      (rows : List R) (n : ℕ) →
      ((i : ℕ) (d : R) → i < length rows → number_at rows i d ≢ n) → row_of rows n ≡ None
  none_at [] n others = refl
  none_at (row ∷ rows) n others =
      rw (ne_eqb (number row) n (others 0 row (omega arith)))
      (none_at rows n (λ i d h. others (suc i) d (omega arith)))

  module _ (rows : List R) (rises : RiseBy number 0 rows) (n : ℕ) where
    comparisons_rise : IsNonDecreasingBy (λ (row : R). ordering_index (nat_cmp (number row) n)) rows
    comparisons_rise i j d le h =
        let up = rows_rise 0 rows rises i j d in
        grind (arith, nat_tests, up, λ (same : i ≡ j). ap (λ (k : ℕ). number_at rows k d) same)

    pub index_found :
        (i : ℕ) → i < length rows →
        IsBinarySearchResult (λ (row : R). nat_cmp (number row) n) rows (Ok i) →
        (d : R) → number (get_or rows i d) ≡ n
    index_found i lt equal d = ranked _ n _ (sym (equal d))

    pub found :
        (i : ℕ) → i < length rows →
        IsBinarySearchResult (λ (row : R). nat_cmp (number row) n) rows (Ok i) →
        (d : R) → row_of rows n ≡ Some (get_or rows i d)
    found i lt equal d = found_at 0 rows rises i n d lt (index_found i lt equal d)

    -- where nothing is found, each number is another
    pub all_differ :
        (i : ℕ) → IsBinarySearchResult (λ (row : R). nat_cmp (number row) n) rows (Err i) →
        (j : ℕ) (d : R) → j < length rows → number (get_or rows j d) ≢ n
    all_differ i parted j d h same = grind (arith, before j d, after j d h)
      where
        before : (j : ℕ) (d : R) → j < i → number_at rows j d < n
        before j d lt = ranked _ n _ (sym ((parted comparisons_rise).0 j d (omega arith) lt))

        after : (j : ℕ) (d : R) → j < length rows → i ≤ j → n < number_at rows j d
        after j d h le = ranked _ n _ (sym ((parted comparisons_rise).1 j d le h))

    pub absent :
        (i : ℕ) → IsBinarySearchResult (λ (row : R). nat_cmp (number row) n) rows (Err i) →
        row_of rows n ≡ None
    absent i parted = none_at rows n (all_differ i parted)

  -- the place between the lower numbers and the others is that of the first that isn't lower
  pub point_is :
      (n i : ℕ) (rows : List R) → i ≤ length rows →
      IsPartitionPoint (λ (row : R). ltb (number row) n ≡ true) (λ row. ltb (number row) n ≡ false) rows i →
      i ≡ position_or_len (λ row. nat_le n (number row)) rows
  point_is n i [] le h = omega arith
  point_is n i (row ∷ rows) le h =
      sym
      (position_or_len_is (λ (r : R). nat_le n (number r)) (row ∷ rows) i row le
      (λ j less. grind (arith, nat_tests, h.0 j row (omega arith) less))
      (λ less. grind (arith, nat_tests, h.1 i row (omega arith) less)))
