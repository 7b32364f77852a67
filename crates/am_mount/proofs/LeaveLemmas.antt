-- What is left of rows where one goes that a search by halves looked for.
use Rattle.std.proofs.Common.{◌≡◌, ◌<◌, ◌+◌, ◌-◌, ◌++◌, ◌∷◌, [], ℕ, suc, Bool, true, false, ◌&&◌, List, length, take, drop, get_or, Option, Some, None, Ok, Err, refl, sym, ap, ◌∙◌, arith}
use Rattle.std.specs.Prelude.{filter, not, option_map, ◌==◌}
use Rattle.std.specs.List.{slice_get}
use Rattle.std.specs.List.Sorted.{IsBinarySearchResult}
use Rattle.std.specs.Ordering.{nat_cmp}
use Rattle.std.proofs.lemmas.List.{append-nil, drop_all}
use Rattle.std.proofs.lemmas.Option.{slice_get_within, get_or_from_slice_get}
use Rattle.am_names.proofs.Basics.{some_injective}
use Rattle.am_names.proofs.LeaveLemmas.{others, others_at, others_none, passing_both, one_more_out}
use Rattle.am_names.specs.{MountRow, is_among}
use Rattle.am_mount.specs.{IsRising}
use Rattle.am_mount.proofs.FindLemmas.{rows_rise, index_found, all_differ}

-- a row of a list that has one at this place
a_row : (i : ℕ) (rows : List MountRow) → i < length rows → MountRow
a_row i [] less = absurd (grind (arith, less))
a_row i (row ∷ rows) less = row

module _ (rows : List MountRow) (rises : IsRising rows) (m : ℕ) where
  -- where the search finds the row, it is left out
  pub left_found :
      (i : ℕ) → i < length rows →
      IsBinarySearchResult (λ (row : MountRow). nat_cmp row.mount m) rows (Ok i) →
      others (λ (row : MountRow). row.mount) m rows ≡ take i rows ++ drop (suc i) rows
  left_found i less equal = let d : MountRow = a_row i rows less in others_at (λ (row : MountRow). row.mount) rows (rows_rise 0 rows rises) i m d less (index_found rows rises m i less equal d)

  -- where it finds none, all are left
  pub left_absent :
      (i : ℕ) → IsBinarySearchResult (λ (row : MountRow). nat_cmp row.mount m) rows (Err i) →
      others (λ (row : MountRow). row.mount) m rows ≡ rows
  left_absent i parted = others_none (λ (row : MountRow). row.mount) rows m (all_differ rows rises m i parted)

-- two tests may change places
filters_swap : (p q : MountRow → Bool) (rows : List MountRow) → filter q (filter p rows) ≡ filter p (filter q rows)
filters_swap p q rows =
    passing_both (λ (row : MountRow). row.mount) p q (λ row. p row && q row) (λ row. refl) rows ∙
    sym (passing_both (λ (row : MountRow). row.mount) q p (λ row. p row && q row) (λ row. either_way (p row) (q row)) rows)
  where
    either_way : (a b : Bool) → (a && b) ≡ (b && a)
    either_way true true = refl
    either_way true false = refl
    either_way false true = refl
    either_way false false = refl

-- where the last of the numbers is that of the last row, the row is left out, and the number is done
pub newest_out :
    (rows : List MountRow) → IsRising rows → (gone : List ℕ) (i x : ℕ) → i < length gone → x ≡ get_or gone i x →
    option_map (λ (row : MountRow). row.mount) (slice_get rows (length rows - 1)) ≡ Some x →
    filter (λ row. not (is_among (take i gone) row.mount)) (take (length rows - 1) rows) ≡
    filter (λ row. not (is_among (take (i + 1) gone) row.mount)) rows
newest_out rows rises gone i x within is newest = go (slice_get rows (length rows - 1)) refl newest
  where
    go :
        (o : Option MountRow) → slice_get rows (length rows - 1) ≡ o →
        option_map (λ (row : MountRow). row.mount) o ≡ Some x →
        filter (λ row. not (is_among (take i gone) row.mount)) (take (length rows - 1) rows) ≡
        filter (λ row. not (is_among (take (i + 1) gone) row.mount)) rows
    go None at last = absurd cc
    go (Some d) at last =
        let inside : length rows - 1 < length rows = slice_get_within rows (length rows - 1) d at in
        let number : (get_or rows (length rows - 1) d).mount ≡ x =
        ap (λ (row : MountRow). row.mount) (get_or_from_slice_get rows (length rows - 1) d d at) ∙ some_injective last in
        let left : others (λ (row : MountRow). row.mount) x rows ≡ take (length rows - 1) rows =
        others_at (λ (row : MountRow). row.mount) rows (rows_rise 0 rows rises) (length rows - 1) x d inside number ∙
        ap (λ (xs : List MountRow). take (length rows - 1) rows ++ xs) (drop_all (suc (length rows - 1)) rows (omega arith)) ∙
        append-nil (take (length rows - 1) rows) in
        ap (filter (λ row. not (is_among (take i gone) row.mount))) (sym left) ∙
        filters_swap (λ row. not (row.mount == x)) (λ row. not (is_among (take i gone) row.mount)) rows ∙
        one_more_out (λ (row : MountRow). row.mount) gone i x within is rows
