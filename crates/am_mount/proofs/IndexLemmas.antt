-- Rows by a number that they share: one row more, one row less, and what is found of them.
use Rattle.std.proofs.Common.{◌≡◌, ◌≤◌, ◌<◌, ◌+◌, ◌-◌, length-append, ℕ, Bool, true, false, cond, not, ◌&&◌, ◌||◌, List, [], ◌∷◌, ◌++◌, length, take, drop, get_or, Option, Some, None, refl, sym, ap, subst, ◌∙◌, arith}
use Rattle.std.specs.Prelude.{map, filter, find, ◌==◌, option_map, is_none, Result, Ok, Err, IfOk, IfSome, Vec}
use Rattle.std.specs.List.{list_any, Contains}
use Rattle.std.specs.List.Sorted.{IsStrictlyIncreasing}
use Rattle.std.proofs.lemmas.Bool.{eqb-true, eq-eqb, ne_eqb}
use Rattle.std.proofs.lemmas.Bool.Decides.{nat_tests}
use Rattle.std.proofs.lemmas.List.{take_more, drop_more, take-take, length-take-le}
use Rattle.am_names.proofs.Basics.{and_false, and_of_both, right_of_and}
use Rattle.am_names.specs.{bucket, text_of, MountRow, Position, is_among}
use Rattle.am_mount.specs.declared.families.Families.{Families}
use Rattle.am_mount.specs.declared.watched.Watched.{Watched}
use Rattle.am_mount.specs.Indexed.{AddsAt, MayLeaveAt, TakesAt}
use Rattle.am_mount.specs.{RiseFrom, IsRising, mount_row, mounts_where, has_fs, is_in, is_position_on, is_child, is_child_in, is_at, last_of, top_of, root_of, is_position_in, is_in_bucket, passes, stands_at, stands_alone, listed, children_of, placed_at, watched, but, AreWith, AreWithout, HaveSameLists, AreIndexed, AreWatched, IsIfAny, RisesIfAny, SameWatched, MayTakeOut, Indexes}
use Rattle.am_mount.proofs.RowLemmas.{found_above, at_decides, last_of_append, where_every, where_rises}

and_true : (b : Bool) → (b && true) ≡ b
and_true true = refl
and_true false = refl

where_cons :
    (t : MountRow → Bool) (r : MountRow) (rows : List MountRow) →
    mounts_where t (r ∷ rows) ≡ cond (t r) (r.mount ∷ mounts_where t rows) (mounts_where t rows)
where_cons t r rows = go (t r)
  where
    go :
        (b : Bool) →
        map (λ (x : MountRow). x.mount) (cond b (r ∷ filter t rows) (filter t rows)) ≡
        cond b (r.mount ∷ mounts_where t rows) (mounts_where t rows)
    go true = refl
    go false = refl

-- two tests that agree
where_same :
    (t u : MountRow → Bool) → ((r : MountRow) → t r ≡ u r) → (rows : List MountRow) →
    mounts_where t rows ≡ mounts_where u rows
where_same t u same [] = refl
where_same t u same (r ∷ rows) =
    where_cons t r rows ∙
    ap (λ (b : Bool). cond b (r.mount ∷ mounts_where t rows) (mounts_where t rows)) (same r) ∙
    ap (λ (xs : List ℕ). cond (u r) (r.mount ∷ xs) xs) (where_same t u same rows) ∙
    sym (where_cons u r rows)

-- a test after another
where_both :
    (k t : MountRow → Bool) (rows : List MountRow) →
    mounts_where t (filter k rows) ≡ mounts_where (λ r. k r && t r) rows
where_both k t [] = refl
where_both k t (r ∷ rows) = go (k r) (where_both k t rows) ∙ sym (where_cons (λ x. k x && t x) r rows)
  where
    both : List ℕ
    both = mounts_where (λ x. k x && t x) rows

    go :
        (b : Bool) → mounts_where t (filter k rows) ≡ both →
        mounts_where t (cond b (r ∷ filter k rows) (filter k rows)) ≡ cond (b && t r) (r.mount ∷ both) both
    go true ih =
        where_cons t r (filter k rows) ∙ ap (λ (xs : List ℕ). cond (t r) (r.mount ∷ xs) xs) ih
    go false ih = ih

-- one row more
where_snoc :
    (t : MountRow → Bool) (rows : List MountRow) (row : MountRow) →
    mounts_where t (rows ++ row ∷ []) ≡
    cond (t row) (mounts_where t rows ++ row.mount ∷ []) (mounts_where t rows)
where_snoc t [] row = where_cons t row []
where_snoc t (r ∷ rows) row =
    where_cons t r (rows ++ row ∷ []) ∙
    go (t r) (t row) (mounts_where t (rows ++ row ∷ [])) (where_snoc t rows row) ∙
    ap (λ (xs : List ℕ). cond (t row) (xs ++ row.mount ∷ []) xs) (sym (where_cons t r rows))
  where
    here : List ℕ
    here = mounts_where t rows

    go :
        (b c : Bool) (xs : List ℕ) → xs ≡ cond c (here ++ row.mount ∷ []) here →
        cond b (r.mount ∷ xs) xs ≡
        cond c (cond b (r.mount ∷ here) here ++ row.mount ∷ []) (cond b (r.mount ∷ here) here)
    go true true xs e = ap (λ (ys : List ℕ). r.mount ∷ ys) e
    go true false xs e = ap (λ (ys : List ℕ). r.mount ∷ ys) e
    go false true xs e = e
    go false false xs e = e

-- no row has the number: nothing is taken out
but_none :
    (x : ℕ) (t : MountRow → Bool) (rows : List MountRow) → mount_row rows x ≡ None →
    but x (mounts_where t rows) ≡ mounts_where t rows
but_none x t [] e = refl
but_none x t (r ∷ rows) e = go (r.mount == x) refl e (but_none x t rows)
  where
    here : List ℕ
    here = mounts_where t rows

    put :
        (r.mount == x) ≡ false → but x here ≡ here → (b : Bool) →
        but x (cond b (r.mount ∷ here) here) ≡ cond b (r.mount ∷ here) here
    put f ih true = rw f (ap (λ (xs : List ℕ). r.mount ∷ xs) ih)
    put f ih false = ih

    go :
        (b : Bool) → (r.mount == x) ≡ b → cond b (Some r) (mount_row rows x) ≡ None →
        (mount_row rows x ≡ None → but x here ≡ here) →
        but x (mounts_where t (r ∷ rows)) ≡ mounts_where t (r ∷ rows)
    go true f e ih = absurd cc
    go false f e ih = ap (but x) (where_cons t r rows) ∙ put f (ih e) (t r) ∙ sym (where_cons t r rows)

-- above the last number of rows that rise there is no row
above_none :
    (x low : ℕ) (rows : List MountRow) → RiseFrom low rows → x < low → mount_row rows x ≡ None
above_none x low rows rises less = go (mount_row rows x) refl
  where
    go : (o : Option MountRow) → mount_row rows x ≡ o → mount_row rows x ≡ None
    go None e = e
    go (Some row) e =
        let le : low ≤ x = found_above low rows rises x row e in
        absurd (omega arith)

-- one row less of those that are kept
module _ (x : ℕ) (k l t : MountRow → Bool) (less : (r : MountRow) → l r ≡ (k r && not (x == r.mount))) where
  abbrev kt : MountRow → Bool
  kt r = k r && t r

  abbrev lt : MountRow → Bool
  lt r = l r && t r

  same_kept : (r : MountRow) → (r.mount == x) ≡ false → l r ≡ k r
  same_kept r f =
      let other : (x == r.mount) ≡ false =
      ne_eqb x r.mount (λ e. let same : (r.mount == x) ≡ true = eq-eqb r.mount x (sym e) in absurd cc) in
      less r ∙ ap (λ (b : Bool). k r && not b) other ∙ and_true (k r)

  not_kept : (r : MountRow) → (r.mount == x) ≡ true → l r ≡ false
  not_kept r f =
      let same : (x == r.mount) ≡ true = eq-eqb x r.mount (sym (eqb-true r.mount x f)) in
      less r ∙ ap (λ (b : Bool). k r && not b) same ∙ and_false (k r)

  none_less_both :
      (rows : List MountRow) → mount_row rows x ≡ None → mounts_where lt rows ≡ mounts_where kt rows
  none_less_both [] e = refl
  none_less_both (r ∷ rows) e = go (r.mount == x) refl e (none_less_both rows)
    where
      go :
          (b : Bool) → (r.mount == x) ≡ b → cond b (Some r) (mount_row rows x) ≡ None →
          (mount_row rows x ≡ None → mounts_where lt rows ≡ mounts_where kt rows) →
          mounts_where lt (r ∷ rows) ≡ mounts_where kt (r ∷ rows)
      go true f e ih = absurd cc
      go false f e ih =
          where_cons lt r rows ∙
          ap (λ (b : Bool). cond (b && t r) (r.mount ∷ mounts_where lt rows) (mounts_where lt rows)) (same_kept r f) ∙
          ap (λ (xs : List ℕ). cond (k r && t r) (r.mount ∷ xs) xs) (ih e) ∙
          sym (where_cons kt r rows)

  some_less_both :
      (low : ℕ) (rows : List MountRow) → RiseFrom low rows → (row : MountRow) → mount_row rows x ≡ Some row →
      mounts_where lt rows ≡ cond (t row) (but x (mounts_where kt rows)) (mounts_where kt rows)
  some_less_both low [] rises row e = absurd cc
  some_less_both low (r ∷ rows) rises row e =
      go (r.mount == x) refl e (some_less_both (r.mount + 1) rows rises.1 row)
    where
      here : List ℕ
      here = mounts_where kt rows

      gone :
          (r.mount == x) ≡ true → but x here ≡ here → (b c : Bool) →
          cond b (but x (cond (c && b) (r.mount ∷ here) here)) (cond (c && b) (r.mount ∷ here) here) ≡ here
      gone f none true true = rw f none
      gone f none true false = none
      gone f none false true = refl
      gone f none false false = refl

      left :
          (r.mount == x) ≡ false → (b c : Bool) (xs : List ℕ) → xs ≡ cond c (but x here) here →
          cond b (r.mount ∷ xs) xs ≡
          cond c (but x (cond b (r.mount ∷ here) here)) (cond b (r.mount ∷ here) here)
      left f true true xs e = rw f (ap (λ (ys : List ℕ). r.mount ∷ ys) e)
      left f true false xs e = ap (λ (ys : List ℕ). r.mount ∷ ys) e
      left f false true xs e = e
      left f false false xs e = e

      go :
          (b : Bool) → (r.mount == x) ≡ b → cond b (Some r) (mount_row rows x) ≡ Some row →
          (mount_row rows x ≡ Some row → mounts_where lt rows ≡ cond (t row) (but x here) here) →
          mounts_where lt (r ∷ rows) ≡
          cond (t row) (but x (mounts_where kt (r ∷ rows))) (mounts_where kt (r ∷ rows))
      go true f e ih =
          let same : r ≡ row = cc in
          let number : r.mount ≡ x = eqb-true r.mount x f in
          let none : mount_row rows x ≡ None = above_none x (r.mount + 1) rows rises.1 (omega arith) in
          where_cons lt r rows ∙
          ap (λ (b : Bool). cond (b && t r) (r.mount ∷ mounts_where lt rows) (mounts_where lt rows)) (not_kept r f) ∙
          none_less_both rows none ∙
          sym (gone f (but_none x kt rows none) (t r) (k r)) ∙
          ap (λ (xs : List ℕ). cond (t r) (but x xs) xs) (sym (where_cons kt r rows)) ∙
          ap (λ (y : MountRow). cond (t y) (but x (mounts_where kt (r ∷ rows))) (mounts_where kt (r ∷ rows))) same
      go false f e ih =
          where_cons lt r rows ∙
          ap (λ (b : Bool). cond (b && t r) (r.mount ∷ mounts_where lt rows) (mounts_where lt rows)) (same_kept r f) ∙
          left f (k r && t r) (t row) (mounts_where lt rows) (ih e) ∙
          ap (λ (xs : List ℕ). cond (t row) (but x xs) xs) (sym (where_cons kt r rows))

  none_less :
      (rows : List MountRow) → mount_row rows x ≡ None →
      mounts_where t (filter l rows) ≡ mounts_where t (filter k rows)
  none_less rows e = where_both l t rows ∙ none_less_both rows e ∙ sym (where_both k t rows)

  some_less :
      (rows : List MountRow) → IsRising rows → (row : MountRow) → mount_row rows x ≡ Some row →
      mounts_where t (filter l rows) ≡
      cond (t row) (but x (mounts_where t (filter k rows))) (mounts_where t (filter k rows))
  some_less rows rises row e =
      where_both l t rows ∙
      some_less_both 0 rows rises row e ∙
      ap (λ (xs : List ℕ). cond (t row) (but x xs) xs) (sym (where_both k t rows))

number_found : (rows : List MountRow) (x : ℕ) (row : MountRow) → mount_row rows x ≡ Some row → row.mount ≡ x
number_found [] x row e = absurd cc
number_found (r ∷ rows) x row e = go (r.mount == x) refl e (number_found rows x row)
  where
    go :
        (b : Bool) → (r.mount == x) ≡ b → cond b (Some r) (mount_row rows x) ≡ Some row →
        (mount_row rows x ≡ Some row → row.mount ≡ x) → row.mount ≡ x
    go true f e ih =
        let same : r ≡ row = cc in
        ap (λ (y : MountRow). y.mount) (sym same) ∙ eqb-true r.mount x f
    go false f e ih = ih e

-- ---- the indexes

-- the mounts on a parent, one more
with_children :
    (o : Option Position) (m : ℕ) (old new : Families) → AddsAt o m old new → (n : ℕ) →
    children_of new n ≡ cond (is_position_on n o) (children_of old n ++ m ∷ []) (children_of old n)
with_children None m old new more n = more.children n
with_children (Some p) m old new more n = more.children n

with_placed :
    (o : Option Position) (m : ℕ) (old new : Families) → AddsAt o m old new → (n c : ℕ) →
    placed_at new n c ≡
    cond (is_position_on n o && is_position_in c o) (placed_at old n c ++ m ∷ []) (placed_at old n c)
with_placed None m old new more n c = more.placed n c
with_placed (Some p) m old new more n c = more.placed n c

-- the mounts on a parent, one less
without_children :
    (o : Option Position) (m : ℕ) (old new : Families) → TakesAt o m old new → (n : ℕ) →
    children_of new n ≡ cond (is_position_on n o) (but m (children_of old n)) (children_of old n)
without_children None m old new w n = w.children n
without_children (Some p) m old new w n = w.children n

without_placed :
    (o : Option Position) (m : ℕ) (old new : Families) → TakesAt o m old new → (n c : ℕ) →
    placed_at new n c ≡
    cond (is_position_on n o && is_position_in c o) (but m (placed_at old n c)) (placed_at old n c)
without_placed None m old new w n c = w.placed n c
without_placed (Some p) m old new w n c = w.placed n c

-- a list that changes, if there is one
map_if_any :
    (f : List ℕ → List ℕ) (mounts : List ℕ) (o : Option (List ℕ)) → IsIfAny mounts o →
    IsIfAny (f mounts) (option_map f o)
map_if_any f mounts None is = tt
map_if_any f mounts (Some list) is = ap f is

-- a list that is told is that of the mounts
pub told_if_any :
    {A : Type 0} (now : A → List ℕ) (mounts : List ℕ) (w : Option (List ℕ)) → IsIfAny mounts w → (o : Option A) →
    IfSome o (λ x. w ≡ Some (now x)) → IfSome o (λ x. now x ≡ mounts)
told_if_any now mounts w is None told = tt
told_if_any now mounts w is (Some x) told = subst (IsIfAny mounts) told is

-- a list that rises, if there is one
rises_if_any :
    (mounts : List ℕ) (o : Option (List ℕ)) → IsStrictlyIncreasing mounts → IsIfAny mounts o → RisesIfAny o
rises_if_any mounts None rises is = tt
rises_if_any mounts (Some list) rises is = subst (λ (xs : List ℕ). IsStrictlyIncreasing xs) (sym is) rises

-- the lists of watched file systems change as the mounts do
watched_by :
    (f : ℕ → List ℕ → List ℕ) (old new : List MountRow) (w u : Watched) →
    ((n : ℕ) → watched u n ≡ option_map (f n) (watched w n)) →
    ((n : ℕ) → f n (mounts_where (has_fs n) old) ≡ mounts_where (has_fs n) new) →
    ((n : ℕ) → u.next ≤ n → mounts_where (has_fs n) new ≡ []) → AreWatched old w → AreWatched new u
watched_by f old new w u lists mounts none o = record {
  lists = λ n.
      subst (λ (xs : List ℕ). IsIfAny xs (watched u n)) (mounts n)
      (subst (λ (l : Option (List ℕ)). IsIfAny (f n (mounts_where (has_fs n) old)) l) (sym (lists n))
      (map_if_any (f n) (mounts_where (has_fs n) old) (watched w n) (o.lists n)));
  none = none;
}

-- the lists are the same
watched_same : (rows : List MountRow) (w u : Watched) → SameWatched w u → AreWatched rows w → AreWatched rows u
watched_same rows w u same o = record {
  lists = λ n. subst (λ (l : Option (List ℕ)). IsIfAny (mounts_where (has_fs n) rows) l) (sym (same.lists n)) (o.lists n);
  none = λ n le. o.none n (subst (λ (k : ℕ). k ≤ n) same.next le);
}

pub indexed_same :
    (rows : List MountRow) (old new : Indexes) → HaveSameLists old new → AreIndexed rows old → AreIndexed rows new
indexed_same rows old new same o = record {
  by_ns = λ n. same.by_ns n ∙ o.by_ns n;
  by_fs = watched_same rows old.by_fs new.by_fs same.by_fs o.by_fs;
  children = λ m. same.families.children m ∙ o.children m;
  placed = λ m b. same.families.placed m b ∙ o.placed m b;
}

pub indexed_more :
    (rows : List MountRow) (row : MountRow) (old new : Indexes) →
    AreWith row old new → AreIndexed rows old → AreIndexed (rows ++ row ∷ []) new
indexed_more rows row old new more o = record {
  by_ns = λ n. more.by_ns n ∙ next (is_in n) (listed old.by_ns n) (o.by_ns n);
  by_fs = watched_by (λ n mounts. cond (has_fs n row) (mounts ++ row.mount ∷ []) mounts) rows (rows ++ row ∷ [])
      old.by_fs new.by_fs more.by_fs.lists (λ n. next (has_fs n) (mounts_where (has_fs n) rows) refl) none o.by_fs;
  children = λ m.
      with_children row.mountpoint row.mount old.families new.families more.families m ∙
      next (is_child m) (children_of old.families m) (o.children m);
  placed = λ m b.
      with_placed row.mountpoint row.mount old.families new.families more.families m b ∙
      next (is_child_in m b) (placed_at old.families m b) (o.placed m b);
}
  where
    next :
        (t : MountRow → Bool) (xs : List ℕ) → xs ≡ mounts_where t rows →
        cond (t row) (xs ++ row.mount ∷ []) xs ≡ mounts_where t (rows ++ row ∷ [])
    next t xs e =
        ap (λ (ys : List ℕ). cond (t row) (ys ++ row.mount ∷ []) ys) e ∙ sym (where_snoc t rows row)

    none : (n : ℕ) → new.by_fs.next ≤ n → mounts_where (has_fs n) (rows ++ row ∷ []) ≡ []
    none n le =
        let before : old.by_fs.next ≤ new.by_fs.next = more.by_fs.next in
        let known : row.fs < new.by_fs.next = more.by_fs.known in
        where_snoc (has_fs n) rows row ∙
        rw (ne_eqb row.fs n (λ same. omega arith)) (o.by_fs.none n (omega arith))

module _ (x : ℕ) (k l : MountRow → Bool) (less : (r : MountRow) → l r ≡ (k r && not (x == r.mount))) (rows : List MountRow) where
  pub indexed_none :
      (t : Indexes) → mount_row rows x ≡ None → AreIndexed (filter k rows) t → AreIndexed (filter l rows) t
  indexed_none t e o = record {
    by_ns = λ n. o.by_ns n ∙ none (is_in n);
    by_fs = record {
      lists = λ n. subst (λ (xs : List ℕ). IsIfAny xs (watched t.by_fs n)) (none (has_fs n)) (o.by_fs.lists n);
      none = λ n le. sym (none (has_fs n)) ∙ o.by_fs.none n le;
    };
    children = λ m. o.children m ∙ none (is_child m);
    placed = λ m b. o.placed m b ∙ none (is_child_in m b);
  }
    where
      none : (t : MountRow → Bool) → mounts_where t (filter k rows) ≡ mounts_where t (filter l rows)
      none t = sym (none_less x k l t less rows e)

  pub indexed_less :
      (rises : IsRising rows) (row : MountRow) (old new : Indexes) → mount_row rows x ≡ Some row →
      AreWithout row old new → AreIndexed (filter k rows) old → AreIndexed (filter l rows) new
  indexed_less rises row old new e w o = record {
    by_ns = λ n. w.by_ns n ∙ next (is_in n) (listed old.by_ns n) (o.by_ns n);
    by_fs = watched_by (λ n mounts. cond (has_fs n row) (but row.mount mounts) mounts) (filter k rows) (filter l rows)
        old.by_fs new.by_fs w.by_fs.lists (λ n. next (has_fs n) (mounts_where (has_fs n) (filter k rows)) refl) none o.by_fs;
    children = λ m.
        without_children row.mountpoint row.mount old.families new.families w.families m ∙
        next (is_child m) (children_of old.families m) (o.children m);
    placed = λ m b.
        without_placed row.mountpoint row.mount old.families new.families w.families m b ∙
        next (is_child_in m b) (placed_at old.families m b) (o.placed m b);
  }
    where
      next :
          (t : MountRow → Bool) (xs : List ℕ) → xs ≡ mounts_where t (filter k rows) →
          cond (t row) (but row.mount xs) xs ≡ mounts_where t (filter l rows)
      next t xs f =
          ap (λ (ys : List ℕ). cond (t row) (but row.mount ys) ys) f ∙
          ap (λ (m : ℕ). cond (t row) (but m (mounts_where t (filter k rows))) (mounts_where t (filter k rows))) (number_found rows x row e) ∙
          sym (some_less x k l t less rows rises row e)

      none : (n : ℕ) → new.by_fs.next ≤ n → mounts_where (has_fs n) (filter l rows) ≡ []
      none n le =
          sym (next (has_fs n) (mounts_where (has_fs n) (filter k rows)) refl) ∙
          ap (λ (xs : List ℕ). cond (has_fs n row) (but row.mount xs) xs)
          (o.by_fs.none n (subst (λ (m : ℕ). m ≤ n) w.by_fs.next le)) ∙
          still (has_fs n row)
        where
          still : (b : Bool) → cond b (but row.mount []) [] ≡ []
          still true = refl
          still false = refl

-- the last row less
last_above : (low : ℕ) (rows : List MountRow) (row : MountRow) → RiseFrom low (rows ++ row ∷ []) → low ≤ row.mount
last_above low [] row rises = rises.0
last_above low (r ∷ rows) row rises =
    let first : low ≤ r.mount = rises.0 in
    let rest : r.mount + 1 ≤ row.mount = last_above (r.mount + 1) rows row rises.1 in
    omega arith

last_none : (low : ℕ) (rows : List MountRow) (row : MountRow) → RiseFrom low (rows ++ row ∷ []) → mount_row rows row.mount ≡ None
last_none low [] row rises = refl
last_none low (r ∷ rows) row rises =
    let rest : r.mount + 1 ≤ row.mount = last_above (r.mount + 1) rows row rises.1 in
    rw (ne_eqb r.mount row.mount (λ same. omega arith)) (last_none (r.mount + 1) rows row rises.1)

but_last : (m : ℕ) (xs : List ℕ) → but m (xs ++ m ∷ []) ≡ but m xs
but_last m [] = rw (eq-eqb m m refl) refl
but_last m (y ∷ xs) = go (y == m) (but_last m xs)
  where
    go :
        (b : Bool) → but m (xs ++ m ∷ []) ≡ but m xs →
        cond (not b) (y ∷ but m (xs ++ m ∷ [])) (but m (xs ++ m ∷ [])) ≡ cond (not b) (y ∷ but m xs) (but m xs)
    go true ih = ih
    go false ih = ap (λ (ys : List ℕ). y ∷ ys) ih

pub indexed_back :
    (rows : List MountRow) (row : MountRow) (old new : Indexes) → IsRising (rows ++ row ∷ []) →
    AreWithout row old new → AreIndexed (rows ++ row ∷ []) old → AreIndexed rows new
indexed_back rows row old new rises w o = record {
  by_ns = λ n. w.by_ns n ∙ next (is_in n) (listed old.by_ns n) (o.by_ns n);
  by_fs = watched_by (λ n mounts. cond (has_fs n row) (but row.mount mounts) mounts) (rows ++ row ∷ []) rows
      old.by_fs new.by_fs w.by_fs.lists (λ n. next (has_fs n) (mounts_where (has_fs n) (rows ++ row ∷ [])) refl) none o.by_fs;
  children = λ m.
      without_children row.mountpoint row.mount old.families new.families w.families m ∙
      next (is_child m) (children_of old.families m) (o.children m);
  placed = λ m b.
      without_placed row.mountpoint row.mount old.families new.families w.families m b ∙
      next (is_child_in m b) (placed_at old.families m b) (o.placed m b);
}
  where
    next :
        (t : MountRow → Bool) (xs : List ℕ) → xs ≡ mounts_where t (rows ++ row ∷ []) →
        cond (t row) (but row.mount xs) xs ≡ mounts_where t rows
    next t xs e = ap (λ (ys : List ℕ). cond (t row) (but row.mount ys) ys) (e ∙ where_snoc t rows row) ∙ go (t row)
      where
        here : List ℕ
        here = mounts_where t rows

        go :
            (b : Bool) →
            cond b (but row.mount (cond b (here ++ row.mount ∷ []) here)) (cond b (here ++ row.mount ∷ []) here) ≡ here
        go true = but_last row.mount here ∙ but_none row.mount t rows (last_none 0 rows row rises)
        go false = refl

    none : (n : ℕ) → new.by_fs.next ≤ n → mounts_where (has_fs n) rows ≡ []
    none n le =
        sym (next (has_fs n) (mounts_where (has_fs n) (rows ++ row ∷ [])) refl) ∙
        ap (λ (xs : List ℕ). cond (has_fs n row) (but row.mount xs) xs)
        (o.by_fs.none n (subst (λ (m : ℕ). m ≤ n) w.by_fs.next le)) ∙
        still (has_fs n row)
      where
        still : (b : Bool) → cond b (but row.mount []) [] ≡ []
        still true = refl
        still false = refl

-- the last row is found
pub last_found :
    (low : ℕ) (rows : List MountRow) (row : MountRow) → RiseFrom low (rows ++ row ∷ []) →
    mount_row (rows ++ row ∷ []) row.mount ≡ Some row
last_found low [] row rises = rw (eq-eqb row.mount row.mount refl) refl
last_found low (r ∷ rows) row rises =
    let rest : r.mount + 1 ≤ row.mount = last_above (r.mount + 1) rows row rises.1 in
    rw (ne_eqb r.mount row.mount (λ same. omega arith)) (last_found (r.mount + 1) rows row rises.1)

-- what is found of the rows that are kept is found of all
pub kept_found :
    (keeps : MountRow → Bool) (low : ℕ) (rows : List MountRow) → RiseFrom low rows → (m : ℕ) (row : MountRow) →
    mount_row (filter keeps rows) m ≡ Some row → mount_row rows m ≡ Some row
kept_found keeps low [] rises m row e = e
kept_found keeps low (r ∷ rows) rises m row e = go (keeps r) (r.mount == m) refl e (kept_found keeps (r.mount + 1) rows rises.1 m row)
  where
    go :
        (k b : Bool) → (r.mount == m) ≡ b → mount_row (cond k (r ∷ filter keeps rows) (filter keeps rows)) m ≡ Some row →
        (mount_row (filter keeps rows) m ≡ Some row → mount_row rows m ≡ Some row) → cond b (Some r) (mount_row rows m) ≡ Some row
    go true true f e ih = sym (ap (λ (c : Bool). cond c (Some r) (mount_row (filter keeps rows) m)) f) ∙ e
    go true false f e ih = ih (sym (ap (λ (c : Bool). cond c (Some r) (mount_row (filter keeps rows) m)) f) ∙ e)
    go false true f e ih =
        let later : r.mount + 1 ≤ m = found_above (r.mount + 1) rows rises.1 m row (ih e) in
        let same : r.mount ≡ m = eqb-true r.mount m f in
        absurd (omega arith)
    go false false f e ih = ih e

-- what is found of the rows that are kept is what is found of all
pub only_kept :
    (keeps : MountRow → Bool) (rows : List MountRow) → IsRising rows → (x : ℕ) (row : MountRow) →
    mount_row rows x ≡ Some row → (r : MountRow) → mount_row (filter keeps rows) row.mount ≡ Some r → r ≡ row
only_kept keeps rows rises x row found r e =
    let here : mount_row rows row.mount ≡ Some r = kept_found keeps 0 rows rises row.mount r e in
    let there : mount_row rows row.mount ≡ Some row = ap (mount_row rows) (number_found rows x row found) ∙ found in
    same (sym here ∙ there)
  where
    same : Some r ≡ Some row → r ≡ row
    same h = cc

-- what is found with the number of the last row is that
pub only_last :
    (rows : List MountRow) (row : MountRow) → IsRising (rows ++ row ∷ []) → (r : MountRow) →
    mount_row (rows ++ row ∷ []) row.mount ≡ Some r → r ≡ row
only_last rows row rises r e = same (sym e ∙ last_found 0 rows row rises)
  where
    same : Some r ≡ Some row → r ≡ row
    same h = cc

-- a row that stands alone with its number may go
module _ (part : List MountRow) (rises : IsRising part) (row : MountRow) (only : (r : MountRow) → mount_row part row.mount ≡ Some r → r ≡ row) where
  nowhere_else :
      (m c : ℕ) → Contains (mounts_where (is_child_in m c) part) row.mount → is_child_in m c row ≡ true
  nowhere_else m c has =
      let there = (where_every (is_child_in m c) (λ (r : MountRow). is_child_in m c r ≡ true) (λ r. (λ e. e, λ e. e)) part rises row.mount).0 has in
      subst (λ (r : MountRow). is_child_in m c r ≡ true) (only there.0 there.1) there.2

  may_leave :
      (o : Option Position) → row.mountpoint ≡ o → (families : Families) →
      ((m : ℕ) → children_of families m ≡ mounts_where (is_child m) part) →
      ((m b : ℕ) → placed_at families m b ≡ mounts_where (is_child_in m b) part) → MayLeaveAt o row.mount families
  may_leave None e families children placed = tt
  may_leave (Some p) e families children placed = record {
    rising = subst (λ (xs : List ℕ). IsStrictlyIncreasing xs) (sym (children p.mount)) (where_rises (is_child p.mount) part rises);
    placed_rising = subst (λ (xs : List ℕ). IsStrictlyIncreasing xs) (sym (placed p.mount b))
        (where_rises (is_child_in p.mount b) part rises);
    nowhere_else = λ c has.
        let is : is_child_in p.mount c row ≡ true =
        nowhere_else p.mount c (subst (λ (xs : List ℕ). Contains xs row.mount) (placed p.mount c) has) in
        let here : (b == c) ≡ true = sym (ap (is_position_in c) e) ∙ right_of_and (is_child p.mount row) (is_in_bucket c row) is in
        sym (eqb-true b c here);
  }
    where
      b : ℕ
      b = bucket (text_of p.place)

  pub may_take_out : (t : Indexes) → AreIndexed part t → MayTakeOut row t
  may_take_out t o = record {
    by_ns = λ n. subst (λ (xs : List ℕ). IsStrictlyIncreasing xs) (sym (o.by_ns n)) (where_rises (is_in n) part rises);
    by_fs = rises_if_any (mounts_where (has_fs row.fs) part) (watched t.by_fs row.fs) (where_rises (has_fs row.fs) part rises) (o.by_fs.lists row.fs);
    families = may_leave row.mountpoint refl t.families o.children o.placed;
  }

-- each of these rows is found among all
abbrev Stand : List MountRow → List MountRow → Type 0
Stand rows [] = Unit {0}
Stand rows (r ∷ part) = (mount_row rows r.mount ≡ Some r) × Stand rows part

stand_more :
    (low : ℕ) (r : MountRow) (rows part : List MountRow) → r.mount < low → RiseFrom low part →
    Stand rows part → Stand (r ∷ rows) part
stand_more low r rows [] less rises stand = tt
stand_more low r rows (p ∷ part) less rises stand =
    let le : low ≤ p.mount = rises.0 in
    (rw (ne_eqb r.mount p.mount (λ same. omega arith)) (stand.0), stand_more (p.mount + 1) r rows part (omega arith) rises.1 stand.1)

stand_all : (low : ℕ) (rows : List MountRow) → RiseFrom low rows → Stand rows rows
stand_all low [] rises = tt
stand_all low (r ∷ rows) rises =
    (rw (eq-eqb r.mount r.mount refl) refl, stand_more (r.mount + 1) r rows rows (omega arith) rises.1 (stand_all (r.mount + 1) rows rises.1))

module _ (rows : List MountRow) (p t : MountRow → Bool) where
  passing :
      (part : List MountRow) → Stand rows part →
      filter (λ m. passes p rows m) (mounts_where t part) ≡ mounts_where (λ r. t r && p r) part
  passing [] stand = refl
  passing (r ∷ part) stand =
      ap (filter (λ m. passes p rows m)) (where_cons t r part) ∙
      go (t r) (passing part stand.1) ∙
      sym (where_cons (λ x. t x && p x) r part)
    where
      both : List ℕ
      both = mounts_where (λ x. t x && p x) part

      rest : List ℕ
      rest = filter (λ m. passes p rows m) (mounts_where t part)

      put :
          (a b : Bool) → a ≡ b → rest ≡ both → cond a (r.mount ∷ rest) rest ≡ cond b (r.mount ∷ both) both
      put a b e ih =
          ap (λ (c : Bool). cond c (r.mount ∷ rest) rest) e ∙ ap (λ (xs : List ℕ). cond b (r.mount ∷ xs) xs) ih

      go :
          (b : Bool) → rest ≡ both →
          filter (λ m. passes p rows m) (cond b (r.mount ∷ mounts_where t part) (mounts_where t part)) ≡
          cond (b && p r) (r.mount ∷ both) both
      go true ih = put (passes p rows r.mount) (p r) (rw (stand.0) refl) ih
      go false ih = ih

  first_passing :
      (part : List MountRow) → Stand rows part →
      find (λ m. passes p rows m) (mounts_where t part) ≡
      option_map (λ row. row.mount) (find (λ r. t r && p r) part)
  first_passing [] stand = refl
  first_passing (r ∷ part) stand = ap (find (λ m. passes p rows m)) (where_cons t r part) ∙ go (t r) (first_passing part stand.1)
    where
      rest : Option ℕ
      rest = find (λ m. passes p rows m) (mounts_where t part)

      both : Option MountRow
      both = find (λ x. t x && p x) part

      put :
          (a b : Bool) → a ≡ b → rest ≡ option_map (λ row. row.mount) both →
          cond a (Some r.mount) rest ≡ option_map (λ row. row.mount) (cond b (Some r) both)
      put a true e ih = ap (λ (c : Bool). cond c (Some r.mount) rest) e
      put a false e ih = ap (λ (c : Bool). cond c (Some r.mount) rest) e ∙ ih

      go :
          (b : Bool) → rest ≡ option_map (λ row. row.mount) both →
          find (λ m. passes p rows m) (cond b (r.mount ∷ mounts_where t part) (mounts_where t part)) ≡
          option_map (λ row. row.mount) (cond (b && p r) (Some r) both)
      go true ih = put (passes p rows r.mount) (p r) (rw (stand.0) refl) ih
      go false ih = ih

-- a mount at a place is a child in the place's bucket
in_bucket :
    (m : ℕ) (place : List (List ℕ)) (r : MountRow) →
    (is_child_in m (bucket (text_of place)) r && is_at m place r) ≡ is_at m place r
in_bucket m place r = go (is_at m place r) refl
  where
    b : ℕ
    b = bucket (text_of place)

    go : (at : Bool) → is_at m place r ≡ at → (is_child_in m b r && is_at m place r) ≡ is_at m place r
    go true e =
        let there : r.mountpoint ≡ Some (record { mount = m; place = place }) = (at_decides m place r).0 e in
        let own : is_child_in m b r ≡ true =
        and_of_both (is_child m r) (is_in_bucket b r)
        (ap (is_position_on m) there ∙ eq-eqb m m refl)
        (ap (is_position_in b) there ∙ eq-eqb b b refl) in
        ap (λ (c : Bool). c && is_at m place r) own
    go false e = ap (λ (c : Bool). is_child_in m b r && c) e ∙ and_false (is_child_in m b r) ∙ sym e

-- the top is the last mount of the bucket that stands at the place
pub top_in_bucket :
    (rows : List MountRow) → IsRising rows → (m : ℕ) (place : List (List ℕ)) (mounts : List ℕ) →
    mounts ≡ mounts_where (is_child_in m (bucket (text_of place))) rows →
    last_of (filter (λ x. stands_at rows m place x) mounts) ≡ top_of rows m place
top_in_bucket rows rises m place mounts e =
    let t = is_child_in m (bucket (text_of place)) in
    ap (λ (xs : List ℕ). last_of (filter (λ x. stands_at rows m place x) xs)) e ∙
    ap last_of (passing rows (is_at m place) t rows (stand_all 0 rows rises)) ∙
    ap last_of (where_same (λ r. t r && is_at m place r) (is_at m place) (in_bucket m place) rows)

-- the root is the first mount of the namespace that is mounted nowhere
pub root_in_ns :
    (rows : List MountRow) → IsRising rows → (ns : ℕ) (mounts : List ℕ) → mounts ≡ mounts_where (is_in ns) rows →
    find (λ x. stands_alone rows x) mounts ≡ root_of rows ns
root_in_ns rows rises ns mounts e =
    ap (find (λ x. stands_alone rows x)) e ∙
    first_passing rows (λ row. is_none row.mountpoint) (is_in ns) rows (stand_all 0 rows rises)

-- a list is empty where no row passes
pub any_where :
    (t : MountRow → Bool) (rows : List MountRow) → not (length (mounts_where t rows) == 0) ≡ list_any t rows
any_where t [] = refl
any_where t (r ∷ rows) = ap (λ (xs : List ℕ). not (length xs == 0)) (where_cons t r rows) ∙ go (t r) (any_where t rows)
  where
    go :
        (b : Bool) → not (length (mounts_where t rows) == 0) ≡ list_any t rows →
        not (length (cond b (r.mount ∷ mounts_where t rows) (mounts_where t rows)) == 0) ≡ (b || list_any t rows)
    go true ih = grind (arith, nat_tests)
    go false ih = ih

pub filter_snoc :
    (f : ℕ → Bool) (xs : List ℕ) (x : ℕ) → filter f (xs ++ x ∷ []) ≡ filter f xs ++ cond (f x) (x ∷ []) []
filter_snoc f [] x = refl
filter_snoc f (y ∷ ys) x = go (f y) (filter_snoc f ys x)
  where
    go :
        (b : Bool) → filter f (ys ++ x ∷ []) ≡ filter f ys ++ cond (f x) (x ∷ []) [] →
        cond b (y ∷ filter f (ys ++ x ∷ [])) (filter f (ys ++ x ∷ [])) ≡
        cond b (y ∷ filter f ys) (filter f ys) ++ cond (f x) (x ∷ []) []
    go true ih = ap (λ (zs : List ℕ). y ∷ zs) ih
    go false ih = ih

-- the last that passes, one item more
pub last_passing :
    (f : ℕ → Bool) (xs : List ℕ) (i x : ℕ) → i < length xs → x ≡ get_or xs i x →
    last_of (filter f (take (i + 1) xs)) ≡ cond (f x) (Some x) (last_of (filter f (take i xs)))
last_passing f xs i x h is =
    ap (λ (ys : List ℕ). last_of (filter f ys)) (take_more xs i x h ∙ ap (λ (y : ℕ). take i xs ++ y ∷ []) (sym is)) ∙
    ap last_of (filter_snoc f (take i xs) x) ∙
    last_of_append (filter f (take i xs)) (f x) x

-- what holds of a list holds of its copy
pub ok_copy :
    {Z E : Type 0} (Q : List ℕ → Type 0) (xs : List ℕ) (r : Result (Vec ℕ Z) E) → Q xs →
    IfOk r (λ v. v.items ≡ xs) → IfOk r (λ v. Q v.items)
ok_copy Q xs (Ok v) q e = subst Q (sym e) q
ok_copy Q xs (Err e) q h = tt

-- one more of those that go, from the last on
pub gone_earlier :
    (gone : List ℕ) (left x : ℕ) → 0 < left → left ≤ length gone → x ≡ get_or gone (left - 1) x → (r : MountRow) →
    not (is_among (drop (left - 1) gone) r.mount) ≡ (not (is_among (drop left gone) r.mount) && not (x == r.mount))
gone_earlier gone left x some bound is r =
    let next : (left - 1) + 1 ≡ left = omega arith in
    ap (λ (ys : List ℕ). not (is_among ys r.mount))
    (drop_more gone (left - 1) x (omega arith) ∙ ap (λ (y : ℕ). y ∷ drop ((left - 1) + 1) gone) (sym is)) ∙
    ap (λ (n : ℕ). not ((x == r.mount) || is_among (drop n gone) r.mount)) next ∙
    go (x == r.mount) (is_among (drop left gone) r.mount)
  where
    go : (a b : Bool) → not (a || b) ≡ (not b && not a)
    go true true = refl
    go true false = refl
    go false true = refl
    go false false = refl

none_left : (gone : List ℕ) → drop (length gone) gone ≡ []
none_left [] = refl
none_left (x ∷ gone) = none_left gone

all_kept : (rows : List MountRow) → filter (λ r. true) rows ≡ rows
all_kept [] = refl
all_kept (r ∷ rows) = ap (λ (xs : List MountRow). r ∷ xs) (all_kept rows)

-- none goes yet
pub none_gone :
    (gone : List ℕ) (rows : List MountRow) →
    filter (λ r. not (is_among (drop (length gone) gone) r.mount)) rows ≡ rows
none_gone gone rows =
    ap (λ (ys : List ℕ). filter (λ r. not (is_among ys r.mount)) rows) (none_left gone) ∙ all_kept rows

-- one more is taken back
pub back_more :
    (xs ys : List MountRow) (i : ℕ) → ys ≡ take (length xs - i) xs →
    take (length ys - 1) ys ≡ take (length xs - (i + 1)) xs
back_more xs ys i e =
    let long : length ys ≡ length xs - i = ap length e ∙ length-take-le (length xs - i) xs (omega arith) in
    ap (λ (n : ℕ). take (n - 1) ys) long ∙
    ap (take (length xs - i - 1)) e ∙
    take-take (length xs - i - 1) (length xs - i) xs (omega arith) ∙
    ap (λ (n : ℕ). take n xs) (omega arith)

take_front : (xs more : List MountRow) → take (length xs) (xs ++ more) ≡ xs
take_front [] more = refl
take_front (x ∷ xs) more = ap (λ (ys : List MountRow). x ∷ ys) (take_front xs more)

-- what was added is taken back
pub back_all :
    (old more : List MountRow) (n : ℕ) → n ≡ length (old ++ more) - length old →
    take (length (old ++ more) - n) (old ++ more) ≡ old
back_all old more n e =
    let long : length (old ++ more) ≡ length old + length more = length-append old more in
    ap (λ (k : ℕ). take k (old ++ more)) (omega arith) ∙ take_front old more

-- rising rows rise as far as they go
pub rises_first :
    (low : ℕ) (rows : List MountRow) (row : MountRow) (more : List MountRow) →
    RiseFrom low (rows ++ row ∷ more) → RiseFrom low (rows ++ row ∷ [])
rises_first low [] row more rises = (rises.0, tt)
rises_first low (r ∷ rows) row more rises = (rises.0, rises_first (r.mount + 1) rows row more rises.1)
