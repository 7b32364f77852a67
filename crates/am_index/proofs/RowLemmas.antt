-- The numbers of rows that pass a test: one row more, one less, and one that changes.
use Rattle.std.proofs.Common.{◌≡◌, ◌≤◌, ◌<◌, ◌+◌, ℕ, Bool, true, false, cond, not, ◌&&◌, List, [], ◌∷◌, ◌++◌, length, length-append, take, get_or, Option, Some, None, refl, sym, ap, ◌∙◌, arith}
use Rattle.std.specs.Prelude.{map, filter, find, nat_lt, ◌==◌}
use Rattle.std.proofs.lemmas.Bool.{eqb-true, eq-eqb, ne_eqb}
use Rattle.std.proofs.lemmas.Bool.Decides.{nat_tests}
use Rattle.std.proofs.lemmas.List.{take_more}
use Rattle.am_names.proofs.Basics.{and_false}
use Rattle.am_names.specs.{RiseBy}
use Rattle.am_index.specs.{but, front, moved, numbered, with}

and_true : (b : Bool) → (b && true) ≡ b
and_true true = refl
and_true false = refl

-- what stood last goes
pub front_of : (xs : List ℕ) (x : ℕ) → front (xs ++ x ∷ []) ≡ xs
front_of xs x =
    let long : length (xs ++ x ∷ []) ≡ length xs + 1 = length-append xs (x ∷ []) in
    ap (λ (n : ℕ). take n (xs ++ x ∷ [])) (omega arith) ∙ whole xs
  where
    whole : (ys : List ℕ) → take (length ys) (ys ++ x ∷ []) ≡ ys
    whole [] = refl
    whole (y ∷ ys) = ap (λ (zs : List ℕ). y ∷ zs) (whole ys)

module _ {R : Type 0} (number : R → ℕ) where
  -- the row with this number
  abbrev pub row_of : List R → ℕ → Option R
  row_of rows m = find (λ r. number r == m) rows

  pub numbered_cons :
      (t : R → Bool) (r : R) (rows : List R) →
      numbered number t (r ∷ rows) ≡ cond (t r) (number r ∷ numbered number t rows) (numbered number t rows)
  numbered_cons t r rows = go (t r)
    where
      go :
          (b : Bool) →
          map number (cond b (r ∷ filter t rows) (filter t rows)) ≡
          cond b (number r ∷ numbered number t rows) (numbered number t rows)
      go true = refl
      go false = refl

  -- rows behind others
  pub numbered_append :
      (t : R → Bool) (rows more : List R) →
      numbered number t (rows ++ more) ≡ numbered number t rows ++ numbered number t more
  numbered_append t [] more = refl
  numbered_append t (r ∷ rows) more =
      numbered_cons t r (rows ++ more) ∙
      go (t r) (numbered_append t rows more) ∙
      ap (λ (xs : List ℕ). xs ++ numbered number t more) (sym (numbered_cons t r rows))
    where
      go :
          (b : Bool) → numbered number t (rows ++ more) ≡ numbered number t rows ++ numbered number t more →
          cond b (number r ∷ numbered number t (rows ++ more)) (numbered number t (rows ++ more)) ≡
          cond b (number r ∷ numbered number t rows) (numbered number t rows) ++ numbered number t more
      go true ih = ap (λ (xs : List ℕ). number r ∷ xs) ih
      go false ih = ih

  -- one row more
  pub numbered_more :
      (t : R → Bool) (rows : List R) (row : R) →
      numbered number t (rows ++ row ∷ []) ≡
      cond (t row) (numbered number t rows ++ number row ∷ []) (numbered number t rows)
  numbered_more t rows row =
      numbered_append t rows (row ∷ []) ∙
      ap (λ (xs : List ℕ). numbered number t rows ++ xs) (numbered_cons t row []) ∙
      go (t row)
    where
      none : (xs : List ℕ) → xs ++ [] ≡ xs
      none [] = refl
      none (x ∷ xs) = ap (λ (ys : List ℕ). x ∷ ys) (none xs)

      go :
          (b : Bool) →
          numbered number t rows ++ cond b (number row ∷ []) [] ≡
          cond b (numbered number t rows ++ number row ∷ []) (numbered number t rows)
      go true = refl
      go false = none (numbered number t rows)

  -- one of some rows more, behind what was there
  pub added_more :
      (t : R → Bool) (rows : List R) (i : ℕ) (row : R) → i < length rows → row ≡ get_or rows i row →
      (before old new : List ℕ) → old ≡ before ++ numbered number t (take i rows) →
      new ≡ cond (t row) (old ++ number row ∷ []) old →
      new ≡ before ++ numbered number t (take (i + 1) rows)
  added_more t rows i row within is before old new was more =
      more ∙ ap (λ (xs : List ℕ). cond (t row) (xs ++ number row ∷ []) xs) was ∙
      go (t row) ∙
      ap (λ (xs : List ℕ). before ++ xs) (sym (numbered_more t (take i rows) row) ∙ ap (numbered number t) (sym longer))
    where
      here : List ℕ
      here = numbered number t (take i rows)

      longer : take (i + 1) rows ≡ take i rows ++ row ∷ []
      longer = take_more rows i row within ∙ ap (λ (r : R). take i rows ++ r ∷ []) (sym is)

      behind : (xs : List ℕ) → (xs ++ here) ++ number row ∷ [] ≡ xs ++ (here ++ number row ∷ [])
      behind [] = refl
      behind (x ∷ xs) = ap (λ (ys : List ℕ). x ∷ ys) (behind xs)

      go :
          (b : Bool) →
          cond b ((before ++ here) ++ number row ∷ []) (before ++ here) ≡
          before ++ cond b (here ++ number row ∷ []) here
      go true = behind before
      go false = refl

  -- and the last of them less
  pub added_less :
      (t : R → Bool) (rows : List R) (i : ℕ) (row : R) → i < length rows → row ≡ get_or rows i row →
      (before old new : List ℕ) → old ≡ before ++ numbered number t (take (i + 1) rows) →
      new ≡ cond (t row) (front old) old →
      new ≡ before ++ numbered number t (take i rows)
  added_less t rows i row within is before old new was less =
      less ∙ ap (λ (xs : List ℕ). cond (t row) (front xs) xs) (was ∙ parts) ∙ go (t row)
    where
      here : List ℕ
      here = numbered number t (take i rows)

      longer : take (i + 1) rows ≡ take i rows ++ row ∷ []
      longer = take_more rows i row within ∙ ap (λ (r : R). take i rows ++ r ∷ []) (sym is)

      parts :
          before ++ numbered number t (take (i + 1) rows) ≡ before ++ cond (t row) (here ++ number row ∷ []) here
      parts = ap (λ (xs : List R). before ++ numbered number t xs) longer ∙
          ap (λ (xs : List ℕ). before ++ xs) (numbered_more t (take i rows) row)

      behind : (xs : List ℕ) → xs ++ (here ++ number row ∷ []) ≡ (xs ++ here) ++ number row ∷ []
      behind [] = refl
      behind (x ∷ xs) = ap (λ (ys : List ℕ). x ∷ ys) (behind xs)

      go :
          (b : Bool) →
          cond b (front (before ++ cond b (here ++ number row ∷ []) here)) (before ++ cond b (here ++ number row ∷ []) here) ≡
          before ++ here
      go true = ap front (behind before) ∙ front_of (before ++ here) (number row)
      go false = refl

  -- what is found is not below the first number
  pub found_above : (low : ℕ) (rows : List R) → RiseBy number low rows → (m : ℕ) (row : R) → row_of rows m ≡ Some row → low ≤ m
  found_above low [] rises m row e = absurd cc
  found_above low (r ∷ rows) rises m row e = go (number r == m) refl e (found_above (number r + 1) rows rises.1 m row)
    where
      go : (b : Bool) → (number r == m) ≡ b → cond b (Some r) (row_of rows m) ≡ Some row → (row_of rows m ≡ Some row → number r + 1 ≤ m) → low ≤ m
      go true f e ih = let first : low ≤ number r = rises.0 in let same : number r ≡ m = eqb-true (number r) m f in omega arith
      go false f e ih = let first : low ≤ number r = rises.0 in let later : number r + 1 ≤ m = ih e in omega arith

  -- two tests that agree
  numbered_same :
      (t u : R → Bool) → ((r : R) → t r ≡ u r) → (rows : List R) →
      numbered number t rows ≡ numbered number u rows
  numbered_same t u same [] = refl
  numbered_same t u same (r ∷ rows) =
      numbered_cons t r rows ∙
      ap (λ (b : Bool). cond b (number r ∷ numbered number t rows) (numbered number t rows)) (same r) ∙
      ap (λ (xs : List ℕ). cond (u r) (number r ∷ xs) xs) (numbered_same t u same rows) ∙
      sym (numbered_cons u r rows)

  -- a test after another
  numbered_both :
      (k t : R → Bool) (rows : List R) →
      numbered number t (filter k rows) ≡ numbered number (λ r. k r && t r) rows
  numbered_both k t [] = refl
  numbered_both k t (r ∷ rows) = go (k r) (numbered_both k t rows) ∙ sym (numbered_cons (λ x. k x && t x) r rows)
    where
      both : List ℕ
      both = numbered number (λ x. k x && t x) rows

      go :
          (b : Bool) → numbered number t (filter k rows) ≡ both →
          numbered number t (cond b (r ∷ filter k rows) (filter k rows)) ≡ cond (b && t r) (number r ∷ both) both
      go true ih =
          numbered_cons t r (filter k rows) ∙ ap (λ (xs : List ℕ). cond (t r) (number r ∷ xs) xs) ih
      go false ih = ih

  -- no row has the number: nothing is taken out
  but_none :
      (x : ℕ) (t : R → Bool) (rows : List R) → row_of rows x ≡ None →
      but x (numbered number t rows) ≡ numbered number t rows
  but_none x t [] e = refl
  but_none x t (r ∷ rows) e = go (number r == x) refl e (but_none x t rows)
    where
      here : List ℕ
      here = numbered number t rows

      put :
          (number r == x) ≡ false → but x here ≡ here → (b : Bool) →
          but x (cond b (number r ∷ here) here) ≡ cond b (number r ∷ here) here
      put f ih true = rw f (ap (λ (xs : List ℕ). number r ∷ xs) ih)
      put f ih false = ih

      go :
          (b : Bool) → (number r == x) ≡ b → cond b (Some r) (row_of rows x) ≡ None →
          (row_of rows x ≡ None → but x here ≡ here) →
          but x (numbered number t (r ∷ rows)) ≡ numbered number t (r ∷ rows)
      go true f e ih = absurd cc
      go false f e ih = ap (but x) (numbered_cons t r rows) ∙ put f (ih e) (t r) ∙ sym (numbered_cons t r rows)

  -- above the last number of rows that rise there is no row
  pub above_none :
      (x low : ℕ) (rows : List R) → RiseBy number low rows → x < low → row_of rows x ≡ None
  above_none x low rows rises less = go (row_of rows x) refl
    where
      go : (o : Option R) → row_of rows x ≡ o → row_of rows x ≡ None
      go None e = e
      go (Some row) e =
          let le : low ≤ x = found_above low rows rises x row e in
          absurd (omega arith)

  -- one row less of those that are kept
  module _ (x : ℕ) (k l t : R → Bool) (less : (r : R) → l r ≡ (k r && not (x == number r))) where
    abbrev kt : R → Bool
    kt r = k r && t r

    abbrev lt : R → Bool
    lt r = l r && t r

    same_kept : (r : R) → (number r == x) ≡ false → l r ≡ k r
    same_kept r f =
        let other : (x == number r) ≡ false =
        ne_eqb x (number r) (λ e. let same : (number r == x) ≡ true = eq-eqb (number r) x (sym e) in absurd cc) in
        less r ∙ ap (λ (b : Bool). k r && not b) other ∙ and_true (k r)

    not_kept : (r : R) → (number r == x) ≡ true → l r ≡ false
    not_kept r f =
        let same : (x == number r) ≡ true = eq-eqb x (number r) (sym (eqb-true (number r) x f)) in
        less r ∙ ap (λ (b : Bool). k r && not b) same ∙ and_false (k r)

    none_less_both :
        (rows : List R) → row_of rows x ≡ None → numbered number lt rows ≡ numbered number kt rows
    none_less_both [] e = refl
    none_less_both (r ∷ rows) e = go (number r == x) refl e (none_less_both rows)
      where
        go :
            (b : Bool) → (number r == x) ≡ b → cond b (Some r) (row_of rows x) ≡ None →
            (row_of rows x ≡ None → numbered number lt rows ≡ numbered number kt rows) →
            numbered number lt (r ∷ rows) ≡ numbered number kt (r ∷ rows)
        go true f e ih = absurd cc
        go false f e ih =
            numbered_cons lt r rows ∙
            ap (λ (b : Bool). cond (b && t r) (number r ∷ numbered number lt rows) (numbered number lt rows)) (same_kept r f) ∙
            ap (λ (xs : List ℕ). cond (k r && t r) (number r ∷ xs) xs) (ih e) ∙
            sym (numbered_cons kt r rows)

    some_less_both :
        (low : ℕ) (rows : List R) → RiseBy number low rows → (row : R) → row_of rows x ≡ Some row →
        numbered number lt rows ≡ cond (t row) (but x (numbered number kt rows)) (numbered number kt rows)
    some_less_both low [] rises row e = absurd cc
    some_less_both low (r ∷ rows) rises row e =
        go (number r == x) refl e (some_less_both (number r + 1) rows rises.1 row)
      where
        here : List ℕ
        here = numbered number kt rows

        gone :
            (number r == x) ≡ true → but x here ≡ here → (b c : Bool) →
            cond b (but x (cond (c && b) (number r ∷ here) here)) (cond (c && b) (number r ∷ here) here) ≡ here
        gone f none true true = rw f none
        gone f none true false = none
        gone f none false true = refl
        gone f none false false = refl

        left :
            (number r == x) ≡ false → (b c : Bool) (xs : List ℕ) → xs ≡ cond c (but x here) here →
            cond b (number r ∷ xs) xs ≡
            cond c (but x (cond b (number r ∷ here) here)) (cond b (number r ∷ here) here)
        left f true true xs e = rw f (ap (λ (ys : List ℕ). number r ∷ ys) e)
        left f true false xs e = ap (λ (ys : List ℕ). number r ∷ ys) e
        left f false true xs e = e
        left f false false xs e = e

        go :
            (b : Bool) → (number r == x) ≡ b → cond b (Some r) (row_of rows x) ≡ Some row →
            (row_of rows x ≡ Some row → numbered number lt rows ≡ cond (t row) (but x here) here) →
            numbered number lt (r ∷ rows) ≡
            cond (t row) (but x (numbered number kt (r ∷ rows))) (numbered number kt (r ∷ rows))
        go true f e ih =
            let same : r ≡ row = cc in
            let its : number r ≡ x = eqb-true (number r) x f in
            let none : row_of rows x ≡ None = above_none x (number r + 1) rows rises.1 (omega arith) in
            numbered_cons lt r rows ∙
            ap (λ (b : Bool). cond (b && t r) (number r ∷ numbered number lt rows) (numbered number lt rows)) (not_kept r f) ∙
            none_less_both rows none ∙
            sym (gone f (but_none x kt rows none) (t r) (k r)) ∙
            ap (λ (xs : List ℕ). cond (t r) (but x xs) xs) (sym (numbered_cons kt r rows)) ∙
            ap (λ (y : R). cond (t y) (but x (numbered number kt (r ∷ rows))) (numbered number kt (r ∷ rows))) same
        go false f e ih =
            numbered_cons lt r rows ∙
            ap (λ (b : Bool). cond (b && t r) (number r ∷ numbered number lt rows) (numbered number lt rows)) (same_kept r f) ∙
            left f (k r && t r) (t row) (numbered number lt rows) (ih e) ∙
            ap (λ (xs : List ℕ). cond (t row) (but x xs) xs) (sym (numbered_cons kt r rows))

    pub none_less :
        (rows : List R) → row_of rows x ≡ None →
        numbered number t (filter l rows) ≡ numbered number t (filter k rows)
    none_less rows e = numbered_both l t rows ∙ none_less_both rows e ∙ sym (numbered_both k t rows)

    pub some_less :
        (rows : List R) → RiseBy number 0 rows → (row : R) → row_of rows x ≡ Some row →
        numbered number t (filter l rows) ≡
        cond (t row) (but x (numbered number t (filter k rows))) (numbered number t (filter k rows))
    some_less rows rises row e =
        numbered_both l t rows ∙
        some_less_both 0 rows rises row e ∙
        ap (λ (xs : List ℕ). cond (t row) (but x xs) xs) (sym (numbered_both k t rows))

  pub number_found : (rows : List R) (x : ℕ) (row : R) → row_of rows x ≡ Some row → number row ≡ x
  number_found [] x row e = absurd cc
  number_found (r ∷ rows) x row e = go (number r == x) refl e (number_found rows x row)
    where
      go :
          (b : Bool) → (number r == x) ≡ b → cond b (Some r) (row_of rows x) ≡ Some row →
          (row_of rows x ≡ Some row → number row ≡ x) → number row ≡ x
      go true f e ih =
          let same : r ≡ row = cc in
          ap (λ (y : R). number y) (sym same) ∙ eqb-true (number r) x f
      go false f e ih = ih e

  -- the numbers that a test keeps are those of the rows that it keeps
  kept_numbers :
      (p : ℕ → Bool) (t : R → Bool) (rows : List R) →
      numbered number t (filter (λ r. p (number r)) rows) ≡ filter p (numbered number t rows)
  kept_numbers p t [] = refl
  kept_numbers p t (r ∷ rows) =
      go (p (number r)) (t r) refl refl (kept_numbers p t rows) ∙
      ap (filter p) (sym (numbered_cons t r rows))
    where
      here : List ℕ
      here = numbered number t rows

      go :
          (a b : Bool) → p (number r) ≡ a → t r ≡ b →
          numbered number t (filter (λ x. p (number x)) rows) ≡ filter p here →
          numbered number t (cond a (r ∷ filter (λ x. p (number x)) rows) (filter (λ x. p (number x)) rows)) ≡
          filter p (cond (t r) (number r ∷ here) here)
      go true true e f ih = rw (f, e) (ap (λ (xs : List ℕ). number r ∷ xs) ih)
      go true false e f ih = rw f ih
      go false true e f ih = rw (f, e) ih
      go false false e f ih = rw f ih

  -- above a number none is lower
  none_lower :
      (m low : ℕ) (t : R → Bool) (rows : List R) → RiseBy number low rows → m < low →
      filter (λ x. nat_lt x m) (numbered number t rows) ≡ []
  none_lower m low t [] rises above = refl
  none_lower m low t (r ∷ rows) rises above =
      let first : low ≤ number r = rises.0 in
      let not_less : nat_lt (number r) m ≡ false = grind (arith, nat_tests) in
      ap (filter (λ x. nat_lt x m)) (numbered_cons t r rows) ∙
      go not_less (t r) (none_lower m (number r + 1) t rows rises.1 (omega arith))
    where
      here : List ℕ
      here = numbered number t rows

      go :
          nat_lt (number r) m ≡ false → (b : Bool) → filter (λ x. nat_lt x m) here ≡ [] →
          filter (λ x. nat_lt x m) (cond b (number r ∷ here) here) ≡ []
      go e true ih = rw e ih
      go e false ih = ih

  -- and all are higher
  all_higher :
      (m low : ℕ) (t : R → Bool) (rows : List R) → RiseBy number low rows → m < low →
      filter (λ x. nat_lt m x) (numbered number t rows) ≡ numbered number t rows
  all_higher m low t [] rises above = refl
  all_higher m low t (r ∷ rows) rises above =
      let first : low ≤ number r = rises.0 in
      let more : nat_lt m (number r) ≡ true = grind (arith, nat_tests) in
      ap (filter (λ x. nat_lt m x)) (numbered_cons t r rows) ∙
      go more (t r) (all_higher m (number r + 1) t rows rises.1 (omega arith)) ∙
      sym (numbered_cons t r rows)
    where
      here : List ℕ
      here = numbered number t rows

      go :
          nat_lt m (number r) ≡ true → (b : Bool) → filter (λ x. nat_lt m x) here ≡ here →
          filter (λ x. nat_lt m x) (cond b (number r ∷ here) here) ≡ cond b (number r ∷ here) here
      go e true ih = rw e (ap (λ (xs : List ℕ). number r ∷ xs) ih)
      go e false ih = ih

  -- where no row has the number, the numbers are those below it and those above it
  parted :
      (m low : ℕ) (t : R → Bool) (rows : List R) → RiseBy number low rows → row_of rows m ≡ None →
      filter (λ x. nat_lt x m) (numbered number t rows) ++ filter (λ x. nat_lt m x) (numbered number t rows) ≡
      numbered number t rows
  parted m low t [] rises none = refl
  parted m low t (r ∷ rows) rises none =
      ap (λ (xs : List ℕ). filter (λ x. nat_lt x m) xs ++ filter (λ x. nat_lt m x) xs) (numbered_cons t r rows) ∙
      by_test (number r == m) refl none (nat_lt (number r) m) refl (parted m (number r + 1) t rows rises.1) ∙
      sym (numbered_cons t r rows)
    where
      here : List ℕ
      here = numbered number t rows

      lower :
          nat_lt (number r) m ≡ true → nat_lt m (number r) ≡ false → (b : Bool) →
          filter (λ x. nat_lt x m) here ++ filter (λ x. nat_lt m x) here ≡ here →
          filter (λ x. nat_lt x m) (cond b (number r ∷ here) here) ++ filter (λ x. nat_lt m x) (cond b (number r ∷ here) here) ≡
          cond b (number r ∷ here) here
      lower e f true ih = rw (e, f) (ap (λ (xs : List ℕ). number r ∷ xs) ih)
      lower e f false ih = ih

      higher :
          nat_lt (number r) m ≡ false → nat_lt m (number r) ≡ true → (b : Bool) →
          filter (λ x. nat_lt x m) here ≡ [] → filter (λ x. nat_lt m x) here ≡ here →
          filter (λ x. nat_lt x m) (cond b (number r ∷ here) here) ++ filter (λ x. nat_lt m x) (cond b (number r ∷ here) here) ≡
          cond b (number r ∷ here) here
      higher e f true low high = rw (e, f, low, high) refl
      higher e f false low high = rw (low, high) refl

      by_test :
          (a : Bool) → (number r == m) ≡ a → cond a (Some r) (row_of rows m) ≡ None →
          (b : Bool) → nat_lt (number r) m ≡ b →
          (row_of rows m ≡ None → filter (λ x. nat_lt x m) here ++ filter (λ x. nat_lt m x) here ≡ here) →
          filter (λ x. nat_lt x m) (cond (t r) (number r ∷ here) here) ++ filter (λ x. nat_lt m x) (cond (t r) (number r ∷ here) here) ≡
          cond (t r) (number r ∷ here) here
      by_test true e none b f ih = absurd cc
      by_test false e none true f ih =
          let not_more : nat_lt m (number r) ≡ false = grind (arith, nat_tests) in
          lower f not_more (t r) (ih none)
      by_test false e none false f ih =
          let more : nat_lt m (number r) ≡ true = grind (arith, nat_tests) in
          let above : m < number r + 1 = grind (arith, nat_tests) in
          higher f more (t r) (none_lower m (number r + 1) t rows rises.1 above)
          (all_higher m (number r + 1) t rows rises.1 above)

  -- a row that comes between those with lower numbers and those with higher ones
  pub numbered_put :
      (t : R → Bool) (row : R) (low : ℕ) (rows : List R) → RiseBy number low rows → row_of rows (number row) ≡ None →
      numbered number t
      (filter (λ r. nat_lt (number r) (number row)) rows ++ row ∷ filter (λ r. nat_lt (number row) (number r)) rows) ≡
      moved false (t row) (number row) (numbered number t rows)
  numbered_put t row low rows rises none =
      numbered_append t (filter (λ r. nat_lt (number r) m) rows) (row ∷ filter (λ r. nat_lt m (number r)) rows) ∙
      ap (λ (xs : List ℕ). numbered number t (filter (λ r. nat_lt (number r) m) rows) ++ xs)
      (numbered_cons t row (filter (λ r. nat_lt m (number r)) rows)) ∙
      ap (λ (xs : List ℕ). xs ++ cond (t row) (m ∷ numbered number t (filter (λ r. nat_lt m (number r)) rows)) (numbered number t (filter (λ r. nat_lt m (number r)) rows)))
      (kept_numbers (λ x. nat_lt x m) t rows) ∙
      ap (λ (xs : List ℕ). filter (λ x. nat_lt x m) here ++ cond (t row) (m ∷ xs) xs) (kept_numbers (λ x. nat_lt m x) t rows) ∙
      go (t row)
    where
      m : ℕ
      m = number row

      here : List ℕ
      here = numbered number t rows

      go :
          (b : Bool) →
          filter (λ x. nat_lt x m) here ++ cond b (m ∷ filter (λ x. nat_lt m x) here) (filter (λ x. nat_lt m x) here) ≡
          moved false b m here
      go true = refl
      go false = parted m low t rows rises none

  -- where no row has the number, none changes
  none_changed :
      (new : R) (m : ℕ) (rows : List R) → row_of rows m ≡ None → map (λ r. cond (number r == m) new r) rows ≡ rows
  none_changed new m [] none = refl
  none_changed new m (r ∷ rows) none = go (number r == m) none (none_changed new m rows)
    where
      go :
          (b : Bool) → cond b (Some r) (row_of rows m) ≡ None →
          (row_of rows m ≡ None → map (λ x. cond (number x == m) new x) rows ≡ rows) →
          cond b new r ∷ map (λ x. cond (number x == m) new x) rows ≡ r ∷ rows
      go true none ih = absurd cc
      go false none ih = ap (λ (xs : List R). r ∷ xs) (ih none)

  -- a row that becomes another of the same number
  pub numbered_changed :
      (t : R → Bool) (new : R) (m : ℕ) → number new ≡ m → (low : ℕ) (rows : List R) → RiseBy number low rows →
      (row : R) → row_of rows m ≡ Some row →
      numbered number t (map (λ r. cond (number r == m) new r) rows) ≡
      moved (t row) (t new) m (numbered number t rows)
  numbered_changed t new m same low [] rises row found = absurd cc
  numbered_changed t new m same low (r ∷ rows) rises row found =
      go (number r == m) refl found (numbered_changed t new m same (number r + 1) rows rises.1 row) ∙
      ap (moved (t row) (t new) m) (sym (numbered_cons t r rows))
    where
      here : List ℕ
      here = numbered number t rows

      changed : List R
      changed = map (λ x. cond (number x == m) new x) rows

      at_first :
          (m == m) ≡ true → but m here ≡ here → with m here ≡ m ∷ here → (a b : Bool) →
          cond b (m ∷ here) here ≡ moved a b m (cond a (m ∷ here) here)
      at_first self none front true true = refl
      at_first self none front true false = rw self (sym none)
      at_first self none front false true = sym front
      at_first self none front false false = refl

      later :
          (number r == m) ≡ false → nat_lt (number r) m ≡ true → nat_lt m (number r) ≡ false → (c a b : Bool) →
          cond c (number r ∷ moved a b m here) (moved a b m here) ≡ moved a b m (cond c (number r ∷ here) here)
      later e f g false a b = refl
      later e f g true true true = refl
      later e f g true false false = refl
      later e f g true true false = rw e refl
      later e f g true false true = rw (f, g) refl

      go :
          (b : Bool) → (number r == m) ≡ b → cond b (Some r) (row_of rows m) ≡ Some row →
          (row_of rows m ≡ Some row → numbered number t changed ≡ moved (t row) (t new) m here) →
          numbered number t (cond b new r ∷ changed) ≡ moved (t row) (t new) m (cond (t r) (number r ∷ here) here)
      go true e found ih =
          let is : r ≡ row = cc in
          let its : number r ≡ m = eqb-true (number r) m e in
          let none : row_of rows m ≡ None = above_none m (number r + 1) rows rises.1 (omega arith) in
          numbered_cons t new changed ∙
          ap (λ (xs : List R). cond (t new) (number new ∷ numbered number t xs) (numbered number t xs)) (none_changed new m rows none) ∙
          ap (λ (n : ℕ). cond (t new) (n ∷ here) here) same ∙
          at_first (eq-eqb m m refl) (but_none m t rows none)
          (rw (none_lower m (number r + 1) t rows rises.1 (omega arith), all_higher m (number r + 1) t rows rises.1 (omega arith)) refl)
          (t row) (t new) ∙
          ap (λ (n : ℕ). moved (t row) (t new) m (cond (t row) (n ∷ here) here)) (sym its) ∙
          ap (λ (x : R). moved (t row) (t new) m (cond (t x) (number r ∷ here) here)) (sym is)
      go false e found ih =
          let above : number r + 1 ≤ m = found_above (number r + 1) rows rises.1 m row found in
          let less : nat_lt (number r) m ≡ true = grind (arith, nat_tests) in
          let not_more : nat_lt m (number r) ≡ false = grind (arith, nat_tests) in
          numbered_cons t r changed ∙
          ap (λ (xs : List ℕ). cond (t r) (number r ∷ xs) xs) (ih found) ∙
          later e less not_more (t r) (t row) (t new)
