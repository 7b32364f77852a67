-- What is left of rows where one goes that a search by halves looked for, or the last.
use Rattle.std.proofs.Common.{◌≡◌, ◌<◌, ◌+◌, ◌-◌, ◌++◌, ◌∷◌, [], ℕ, zero, suc, Bool, true, false, ◌&&◌, List, length, take, drop, get_or, Option, Some, None, Ok, Err, refl, sym, ap, ◌∙◌, arith}
use Rattle.std.specs.Prelude.{filter, not, option_map, ◌==◌}
use Rattle.std.specs.List.{slice_get}
use Rattle.std.specs.List.Sorted.{IsBinarySearchResult}
use Rattle.std.specs.Ordering.{nat_cmp}
use Rattle.std.proofs.lemmas.List.{append-nil, drop_all}
use Rattle.std.proofs.lemmas.Option.{same_Some, slice_get_within, get_or_from_slice_get}
use Rattle.am_names.proofs.LeaveLemmas.{others, others_at, others_none, passing_both, one_more_out}
use Rattle.am_names.specs.{RiseBy, is_among}
use Rattle.am_group.proofs.FindLemmas.{rows_rise, index_found, all_differ}

module _ {R : Type 0} (number : R → ℕ) where
  -- a row of a list that has one at this place
  a_row : (i : ℕ) (rows : List R) → i < length rows → R
  a_row i [] less = absurd (grind (arith, less))
  a_row i (row ∷ rows) less = row

  module _ (rows : List R) (rises : RiseBy number 0 rows) (m : ℕ) where
    -- where the search finds the row, it is left out
    pub left_found :
        (i : ℕ) → i < length rows →
        IsBinarySearchResult (λ (row : R). nat_cmp (number row) m) rows (Ok i) →
        others number m rows ≡ take i rows ++ drop (suc i) rows
    left_found i less equal =
        let d : R = a_row i rows less in
        others_at number rows (rows_rise number 0 rows rises) i m d less (index_found number rows rises m i less equal d)

    -- where it finds none, all are left
    pub left_absent :
        (i : ℕ) → IsBinarySearchResult (λ (row : R). nat_cmp (number row) m) rows (Err i) →
        others number m rows ≡ rows
    left_absent i parted = others_none number rows m (all_differ number rows rises m i parted)

  -- two tests may change places
  filters_swap : (p q : R → Bool) (rows : List R) → filter q (filter p rows) ≡ filter p (filter q rows)
  filters_swap p q rows =
      passing_both number p q (λ row. p row && q row) (λ row. refl) rows ∙
      sym (passing_both number q p (λ row. p row && q row) (λ row. either_way (p row) (q row)) rows)
    where
      either_way : (a b : Bool) → (a && b) ≡ (b && a)
      either_way true true = refl
      either_way true false = refl
      either_way false true = refl
      either_way false false = refl

  -- where the last of the numbers is that of the last row, the row is left out, and the number is done
  pub newest_out :
      (rows : List R) → RiseBy number 0 rows → (gone : List ℕ) (i x : ℕ) → i < length gone → x ≡ get_or gone i x →
      option_map number (slice_get rows (length rows - 1)) ≡ Some x →
      filter (λ row. not (is_among (take i gone) (number row))) (take (length rows - 1) rows) ≡
      filter (λ row. not (is_among (take (i + 1) gone) (number row))) rows
  newest_out rows rises gone i x within is newest = go (slice_get rows (length rows - 1)) refl newest
    where
      go :
          (o : Option R) → slice_get rows (length rows - 1) ≡ o → option_map number o ≡ Some x →
          filter (λ row. not (is_among (take i gone) (number row))) (take (length rows - 1) rows) ≡
          filter (λ row. not (is_among (take (i + 1) gone) (number row))) rows
      go None at last = absurd cc
      go (Some d) at last =
          let inside : length rows - 1 < length rows = slice_get_within rows (length rows - 1) d at in
          let here : number (get_or rows (length rows - 1) d) ≡ x =
          ap number (get_or_from_slice_get rows (length rows - 1) d d at) ∙ same_Some _ _ last in
          let left : others number x rows ≡ take (length rows - 1) rows =
          others_at number rows (rows_rise number 0 rows rises) (length rows - 1) x d inside here ∙
          ap (λ (xs : List R). take (length rows - 1) rows ++ xs) (drop_all (suc (length rows - 1)) rows (omega arith)) ∙
          append-nil (take (length rows - 1) rows) in
          ap (filter (λ row. not (is_among (take i gone) (number row)))) (sym left) ∙
          filters_swap (λ row. not (number row == x)) (λ row. not (is_among (take i gone) (number row))) rows ∙
          one_more_out number gone i x within is rows

  pub RiseBy-take : (low i : ℕ) (rows : List R) → RiseBy number low rows → RiseBy number low (take i rows)
  RiseBy-take low zero rows rises = tt
  RiseBy-take low (suc i) [] rises = tt
  RiseBy-take low (suc i) (row ∷ rows) rises = (rises.0, RiseBy-take (number row + 1) i rows rises.1)
