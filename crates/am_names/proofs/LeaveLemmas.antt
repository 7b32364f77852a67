-- Rows with numbers that rise, of which some are left out, one after another.
use Rattle.std.proofs.Common.{◌≡◌, ◌≢◌, ◌<◌, ◌+◌, ℕ, zero, suc, Bool, true, false, cond, ◌||◌, List, [], ◌∷◌, ◌++◌, length, take, drop, get_or, refl, sym, ap, ◌∙◌, arith, add-one}
use Rattle.std.specs.Prelude.{filter, not, ◌&&◌, ◌==◌}
use Rattle.std.specs.List.{list_any}
use Rattle.std.proofs.Math.Seq.{take-suc}
use Rattle.std.proofs.lemmas.Bool.{eq-eqb, ne_eqb}
use Rattle.am_names.proofs.Basics.{or_false, not_or, equal_either_way}

list_any-push : (test : ℕ → Bool) (xs : List ℕ) (x : ℕ) → list_any test (xs ++ x ∷ []) ≡ (list_any test xs || test x)
list_any-push test [] x = or_false (test x)
list_any-push test (y ∷ xs) x = go (test y) (list_any-push test xs x)
  where
    go : (b : Bool) → list_any test (xs ++ x ∷ []) ≡ (list_any test xs || test x) → (b || list_any test (xs ++ x ∷ [])) ≡ ((b || list_any test xs) || test x)
    go true ih = refl
    go false ih = ih

module _ {R : Type 0} (number : R → ℕ) where
  -- the rows without this number
  abbrev pub others : ℕ → List R → List R
  others m rows = filter (λ row. not (number row == m)) rows

  -- a row that stands before another has a lower number
  abbrev pub Rise : List R → Type 0
  Rise rows = (i j : ℕ) (d : R) → i < j → j < length rows → number (get_or rows i d) < number (get_or rows j d)

  later : (row : R) (rows : List R) → Rise (row ∷ rows) → Rise rows
  later row rows rise i j d less within = rise (suc i) (suc j) d (omega arith) (omega arith)

  -- where no row has the number, all rows are left
  pub others_none : (rows : List R) (m : ℕ) → ((i : ℕ) (d : R) → i < length rows → number (get_or rows i d) ≢ m) → others m rows ≡ rows
  others_none [] m differ = refl
  others_none (row ∷ rows) m differ =
      rw (ne_eqb (number row) m (differ 0 row (omega arith)))
      (ap (λ (xs : List R). row ∷ xs) (others_none rows m (λ i d within. differ (suc i) d (omega arith))))

  -- where the row at this index has it, that one is left out
  pub others_at : (rows : List R) → Rise rows → (i m : ℕ) (d : R) → i < length rows → number (get_or rows i d) ≡ m → others m rows ≡ take i rows ++ drop (suc i) rows
  others_at [] rise i m d within e = absurd (omega arith)
  others_at (row ∷ rows) rise zero m d within e =
      rw (eq-eqb (number row) m e)
      (others_none rows m (λ j k less same.
      let up : number row < number (get_or rows j k) = rise 0 (suc j) k (omega arith) (omega arith) in
      omega arith))
  others_at (row ∷ rows) rise (suc i) m d within e =
      let up : number row < number (get_or rows i d) = rise 0 (suc i) d (omega arith) (omega arith) in
      rw (ne_eqb (number row) m (λ same. omega arith))
      (ap (λ (xs : List R). row ∷ xs) (others_at rows (later row rows rise) i m d (omega arith) e))

  -- rows that pass two tests, one after the other
  pub passing_both : (p q both : R → Bool) → ((row : R) → both row ≡ (p row && q row)) → (rows : List R) → filter q (filter p rows) ≡ filter both rows
  passing_both p q both is [] = refl
  passing_both p q both is (row ∷ rows) = go (p row) (q row) (both row) (is row) refl refl (passing_both p q both is rows)
    where
      go : (a b c : Bool) → c ≡ (a && b) → p row ≡ a → q row ≡ b → filter q (filter p rows) ≡ filter both rows → filter q (cond a (row ∷ filter p rows) (filter p rows)) ≡ cond c (row ∷ filter both rows) (filter both rows)
      go true true c e f g ih = rw (e, g) (ap (λ (xs : List R). row ∷ xs) ih)
      go true false c e f g ih = rw (e, g) ih
      go false b c e f g ih = rw e ih

  abbrev pub left_out : List ℕ → List R → List R
  left_out gone rows = filter (λ row. not (list_any (λ x. x == number row) gone)) rows

  -- none of the numbers is left out
  pub none_out : (rows : List R) → rows ≡ left_out [] rows
  none_out [] = refl
  none_out (row ∷ rows) = ap (λ (xs : List R). row ∷ xs) (none_out rows)

  -- one more of the numbers is left out
  pub one_more_out : (gone : List ℕ) (i x : ℕ) → i < length gone → x ≡ get_or gone i x → (rows : List R) → others x (left_out (take i gone) rows) ≡ left_out (take (i + 1) gone) rows
  one_more_out gone i x within is rows = passing_both (λ row. not (list_any (λ y. y == number row) (take i gone))) (λ row. not (number row == x)) (λ row. not (list_any (λ y. y == number row) (take (i + 1) gone))) each rows
    where
      longer : take (i + 1) gone ≡ take i gone ++ x ∷ []
      longer = ap (λ (k : ℕ). take k gone) (add-one i) ∙ take-suc gone i x within ∙ ap (λ (y : ℕ). take i gone ++ y ∷ []) (sym is)

      each : (row : R) → not (list_any (λ y. y == number row) (take (i + 1) gone)) ≡ (not (list_any (λ y. y == number row) (take i gone)) && not (number row == x))
      each row =
          ap (λ (xs : List ℕ). not (list_any (λ y. y == number row) xs)) longer ∙
          ap not (list_any-push (λ y. y == number row) (take i gone) x) ∙
          not_or (list_any (λ y. y == number row) (take i gone)) (x == number row) ∙
          ap (λ (b : Bool). not (list_any (λ y. y == number row) (take i gone)) && not b) (equal_either_way x (number row))
