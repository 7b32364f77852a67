-- Rows in rising order, and those of them that pass a test.
use Rattle.std.proofs.Common.{◌≡◌, ◌≤◌, ◌<◌, ◌+◌, ◌-◌, ◌↔◌, ℕ, zero, suc, Bool, true, false, cond, eqb, List, [], ◌∷◌, ◌++◌, length, take, drop, get_or, Decides, Option, Some, None, refl, sym, ap, subst, ⊎_elim, ◌∙◌, arith, add-one}
use Rattle.std.specs.Prelude.{map, filter, ◌==◌, option_map, IfSome, IfNone}
use Rattle.std.specs.List.{list_any, Contains, slice_get}
use Rattle.std.specs.List.Sorted.{IsStrictlyIncreasing}
use Rattle.std.specs.Cmp.Lexicographic.{pointwise, pointwise_decides, bytes_decides}
use Rattle.std.specs.Str.{bytes_eq}
use Rattle.std.proofs.lemmas.Bool.{eqb-true, eq-eqb, ne_eqb, or_cases, and_parts, and_from}
use Rattle.std.proofs.lemmas.List.{append-nil}
use Rattle.std.proofs.lemmas.Bool.Decides.{Decides-eqb}
use Rattle.std.proofs.lemmas.Map.Views.{Contains-from_any, list_any-from_Contains}
use Rattle.std.proofs.lemmas.Cmp.{nat_eq_equiv}
use Rattle.am_names.proofs.Basics.{or_left, or_right}
use Rattle.am_names.specs.{MountRow, Position}
use Rattle.am_mount.specs.{RiseFrom, IsRising, next_of, mount_row, mounts_where, is_in, is_position_on, is_child, is_position, is_at, last_from, last_of, top_of, HasRow, IsIn, IsAt, IsOn, IsTop, HasNoMountAt}

-- rising rows: fewer of them, and some at the end
pub RiseFrom-lower : (low high : ℕ) (rows : List MountRow) → low ≤ high → RiseFrom high rows → RiseFrom low rows
RiseFrom-lower low high [] le rises = tt
RiseFrom-lower low high (row ∷ rows) le rises = let first : high ≤ row.mount = rises.0 in (omega arith, rises.1)

pub RiseFrom-filter : (keeps : MountRow → Bool) (low : ℕ) (rows : List MountRow) → RiseFrom low rows → RiseFrom low (filter keeps rows)
RiseFrom-filter keeps low [] rises = tt
RiseFrom-filter keeps low (row ∷ rows) rises = go (keeps row) (RiseFrom-filter keeps (row.mount + 1) rows rises.1)
  where
    go : (b : Bool) → RiseFrom (row.mount + 1) (filter keeps rows) → RiseFrom low (cond b (row ∷ filter keeps rows) (filter keeps rows))
    go true ih = (rises.0, ih)
    go false ih = let first : low ≤ row.mount = rises.0 in RiseFrom-lower low (row.mount + 1) (filter keeps rows) (omega arith) ih

pub RiseFrom-take : (n low : ℕ) (rows : List MountRow) → RiseFrom low rows → RiseFrom low (take n rows)
RiseFrom-take zero low rows rises = tt
RiseFrom-take (suc n) low [] rises = tt
RiseFrom-take (suc n) low (row ∷ rows) rises = (rises.0, RiseFrom-take n (row.mount + 1) rows rises.1)

pub RiseFrom-drop : (n low : ℕ) (rows : List MountRow) → RiseFrom low rows → RiseFrom low (drop n rows)
RiseFrom-drop zero low rows rises = rises
RiseFrom-drop (suc n) low [] rises = tt
RiseFrom-drop (suc n) low (row ∷ rows) rises =
    let first : low ≤ row.mount = rises.0 in
    RiseFrom-lower low (row.mount + 1) (drop n rows) (omega arith)
    (RiseFrom-drop n (row.mount + 1) rows rises.1)

-- the first number that may follow rows
abbrev pub next_after : ℕ → List MountRow → ℕ
next_after low [] = low
next_after low (row ∷ rows) = next_after (row.mount + 1) rows

pub rises_behind : (low : ℕ) (rows more : List MountRow) → RiseFrom low rows → RiseFrom low (rows ++ more) ↔ RiseFrom (next_after low rows) more
rises_behind low [] more rises = (λ h. h, λ h. h)
rises_behind low (row ∷ rows) more rises =
    let rest = rises_behind (row.mount + 1) rows more rises.1 in
    (λ h. rest.0 h.1, λ h. (rises.0, rest.1 h))

-- what is found is not below the first number
pub found_above : (low : ℕ) (rows : List MountRow) → RiseFrom low rows → (m : ℕ) (row : MountRow) → mount_row rows m ≡ Some row → low ≤ m
found_above low [] rises m row e = absurd cc
found_above low (r ∷ rows) rises m row e = go (r.mount == m) refl e (found_above (r.mount + 1) rows rises.1 m row)
  where
    go : (b : Bool) → (r.mount == m) ≡ b → cond b (Some r) (mount_row rows m) ≡ Some row → (mount_row rows m ≡ Some row → r.mount + 1 ≤ m) → low ≤ m
    go true f e ih = let first : low ≤ r.mount = rises.0 in let same : r.mount ≡ m = eqb-true r.mount m f in omega arith
    go false f e ih = let first : low ≤ r.mount = rises.0 in let later : r.mount + 1 ≤ m = ih e in omega arith

abbrev pub has : ℕ → List ℕ → Bool
has c xs = list_any (λ x. eqb c x) xs

-- the mounts whose rows pass are those that have a row that is so
module _ (test : MountRow → Bool) (P : MountRow → Type 0) (decides : (row : MountRow) → Decides (test row) (P row)) where
  row_first : (row : MountRow) (rows : List MountRow) → P row → HasRow P (row ∷ rows) row.mount
  row_first row rows p = (row, rw (eq-eqb row.mount row.mount refl) refl, p)

  row_later : (low : ℕ) (r : MountRow) (rows : List MountRow) → RiseFrom low (r ∷ rows) → (m : ℕ) → HasRow P rows m → HasRow P (r ∷ rows) m
  row_later low r rows rises m h =
      let later : r.mount + 1 ≤ m = found_above (r.mount + 1) rows rises.1 m h.0 h.1 in
      (h.0, rw (ne_eqb r.mount m (λ same. omega arith)) (h.1), h.2)

  row_from_has : (low : ℕ) (rows : List MountRow) → RiseFrom low rows → (m : ℕ) → has m (mounts_where test rows) ≡ true → HasRow P rows m
  row_from_has low [] rises m h = absurd cc
  row_from_has low (r ∷ rows) rises m h = go (test r) refl h (row_from_has (r.mount + 1) rows rises.1 m)
    where
      go : (b : Bool) → test r ≡ b → has m (map (λ (x : MountRow). x.mount) (cond b (r ∷ filter test rows) (filter test rows))) ≡ true → (has m (mounts_where test rows) ≡ true → HasRow P rows m) → HasRow P (r ∷ rows) m
      go true e h ih = ⊎_elim
          (λ same. subst (λ (x : ℕ). HasRow P (r ∷ rows) x) (sym (eqb-true m r.mount same)) (row_first r rows ((decides r).0 e)))
          (λ later. row_later low r rows rises m (ih later))
          (or_cases (eqb m r.mount) (has m (mounts_where test rows)) h)
      go false e h ih = row_later low r rows rises m (ih h)

  has_from_row : (rows : List MountRow) (m : ℕ) (row : MountRow) → mount_row rows m ≡ Some row → P row → has m (mounts_where test rows) ≡ true
  has_from_row [] m row e p = absurd cc
  has_from_row (r ∷ rows) m row e p = go (r.mount == m) refl e (has_from_row rows m row)
    where
      put : (b : Bool) → has m (mounts_where test rows) ≡ true → has m (map (λ (x : MountRow). x.mount) (cond b (r ∷ filter test rows) (filter test rows))) ≡ true
      put true h = or_right (eqb m r.mount) _ h
      put false h = h

      go : (b : Bool) → (r.mount == m) ≡ b → cond b (Some r) (mount_row rows m) ≡ Some row → (mount_row rows m ≡ Some row → P row → has m (mounts_where test rows) ≡ true) → has m (mounts_where test (r ∷ rows)) ≡ true
      go true f e ih =
          let same : r ≡ row = cc in
          let passes : test r ≡ true = (decides r).1 (subst P (sym same) p) in
          rw passes (or_left (eqb m r.mount) _ (eq-eqb m r.mount (sym (eqb-true r.mount m f))))
      go false f e ih = put (test r) (ih e p)

  pub where_every : (rows : List MountRow) → IsRising rows → (m : ℕ) → Contains (mounts_where test rows) m ↔ HasRow P rows m
  where_every rows rises m = (
    λ h. row_from_has 0 rows rises m (list_any-from_Contains {eq = eqb} nat_eq_equiv m (mounts_where test rows) h),
    λ h. Contains-from_any {eq = eqb} eqb-true m (mounts_where test rows) (has_from_row rows m h.0 h.1 h.2),
  )

-- numbers in rising order, from this one on
abbrev pub RiseOn : ℕ → List ℕ → Type 0
RiseOn low [] = Unit {0}
RiseOn low (n ∷ others) = (low ≤ n) × RiseOn (n + 1) others

pub RiseOn-lower : (low high : ℕ) (xs : List ℕ) → low ≤ high → RiseOn high xs → RiseOn low xs
RiseOn-lower low high [] le rises = tt
RiseOn-lower low high (n ∷ xs) le rises = let first : high ≤ n = rises.0 in (omega arith, rises.1)

where_on : (test : MountRow → Bool) (low : ℕ) (rows : List MountRow) → RiseFrom low rows → RiseOn low (mounts_where test rows)
where_on test low [] rises = tt
where_on test low (r ∷ rows) rises = go (test r) (where_on test (r.mount + 1) rows rises.1)
  where
    go : (b : Bool) → RiseOn (r.mount + 1) (mounts_where test rows) → RiseOn low (map (λ (x : MountRow). x.mount) (cond b (r ∷ filter test rows) (filter test rows)))
    go true ih = (rises.0, ih)
    go false ih = let first : low ≤ r.mount = rises.0 in RiseOn-lower low (r.mount + 1) (mounts_where test rows) (omega arith) ih

strictly : (low : ℕ) (xs : List ℕ) → RiseOn low xs → IsStrictlyIncreasing xs
strictly low [] rises = λ k h. absurd (omega arith)
strictly low (n ∷ []) rises = λ k h. absurd (omega arith)
strictly low (n ∷ m ∷ xs) rises = go (strictly (n + 1) (m ∷ xs) rises.1)
  where
    go : IsStrictlyIncreasing (m ∷ xs) → IsStrictlyIncreasing (n ∷ m ∷ xs)
    go ih zero h = let lower : n + 1 ≤ m = rises.1.0 in omega arith
    go ih (suc k) h = rw (add-one) (rw (add-one) at (ih k (omega arith)))

pub where_rises : (test : MountRow → Bool) (rows : List MountRow) → IsRising rows → IsStrictlyIncreasing (mounts_where test rows)
where_rises test rows rises = strictly 0 (mounts_where test rows) (where_on test 0 rows rises)

-- of rising numbers the last is the greatest
last_has : (n : ℕ) (xs : List ℕ) → has (last_from n xs) (n ∷ xs) ≡ true
last_has n [] = or_left (eqb n n) _ (eq-eqb n n refl)
last_has n (m ∷ xs) = or_right (eqb (last_from m xs) n) _ (last_has m xs)

last_not_below : (n : ℕ) (xs : List ℕ) → RiseOn (n + 1) xs → n ≤ last_from n xs
last_not_below n [] rises = omega arith
last_not_below n (m ∷ xs) rises = let first : n + 1 ≤ m = rises.0 in let rest : m ≤ last_from m xs = last_not_below m xs rises.1 in omega arith

last_greatest : (n : ℕ) (xs : List ℕ) → RiseOn (n + 1) xs → (c : ℕ) → has c (n ∷ xs) ≡ true → c ≤ last_from n xs
last_greatest n [] rises c h = ⊎_elim (λ same. let e : c ≡ n = eqb-true c n same in omega arith) (λ none. absurd cc) (or_cases (eqb c n) false h)
last_greatest n (m ∷ xs) rises c h = ⊎_elim
    (λ same. let e : c ≡ n = eqb-true c n same in let first : n + 1 ≤ m = rises.0 in let rest : m ≤ last_from m xs = last_not_below m xs rises.1 in omega arith)
    (λ later. last_greatest m xs rises.1 c later)
    (or_cases (eqb c n) (has c (m ∷ xs)) h)

-- the test of a place is right
position_decides : (m : ℕ) (place : List (List ℕ)) (o : Option Position) → Decides (is_position m place o) (o ≡ Some (record { mount = m; place = place }))
position_decides m place None = (λ e. absurd cc, λ e. absurd cc)
position_decides m place (Some p) = (there, back)
  where
    make : ℕ → List (List ℕ) → Position
    make n names = record { mount = n; place = names }

    there : is_position m place (Some p) ≡ true → Some p ≡ Some (record { mount = m; place = place })
    there e =
        let both = and_parts (p.mount == m) (pointwise bytes_eq p.place place) e in
        ap (λ (n : ℕ). Some (make n p.place)) (eqb-true p.mount m both.0) ∙ ap (λ (names : List (List ℕ)). Some (make m names)) ((pointwise_decides bytes_decides p.place place).0 both.1)

    back : Some p ≡ Some (record { mount = m; place = place }) → is_position m place (Some p) ≡ true
    back e =
        let mount : p.mount ≡ m = cc in
        let same : p.place ≡ place = cc in
        and_from (p.mount == m) (pointwise bytes_eq p.place place) (eq-eqb p.mount m mount) ((pointwise_decides bytes_decides p.place place).1 same)

pub at_decides : (m : ℕ) (place : List (List ℕ)) (row : MountRow) → Decides (is_at m place row) (IsAt m place row)
at_decides m place row = position_decides m place row.mountpoint

on_decides : (m : ℕ) (o : Option Position) → Decides (is_position_on m o) ((place : List (List ℕ)) × (o ≡ Some (record { mount = m; place = place })))
on_decides m None = (λ e. absurd cc, λ h. let no : None ≡ Some (make m h.0) = h.1 in absurd cc)
  where
    make : ℕ → List (List ℕ) → Position
    make n names = record { mount = n; place = names }
on_decides m (Some p) = (λ e. (p.place, ap (λ (n : ℕ). Some (make n p.place)) (eqb-true p.mount m e)), λ h. eq-eqb p.mount m (mount h.0 h.1))
  where
    make : ℕ → List (List ℕ) → Position
    make n names = record { mount = n; place = names }

    mount : (place : List (List ℕ)) → Some p ≡ Some (record { mount = m; place = place }) → p.mount ≡ m
    mount place e = cc

pub child_every : (m : ℕ) (rows : List MountRow) → IsRising rows → (c : ℕ) → Contains (mounts_where (is_child m) rows) c ↔ HasRow (IsOn m) rows c
child_every m = where_every (is_child m) (IsOn m) (λ row. on_decides m row.mountpoint)

pub in_every : (ns : ℕ) (rows : List MountRow) → IsRising rows → (c : ℕ) → Contains (mounts_where (is_in ns) rows) c ↔ HasRow (IsIn ns) rows c
in_every ns = where_every (is_in ns) (IsIn ns) (λ row. Decides-eqb row.ns ns)

-- the last of those at a place is the top, and where there is none the place is free
abbrev pub IsTopOf : List MountRow → ℕ → List (List ℕ) → Option ℕ → Type 0
IsTopOf rows m place None = HasNoMountAt rows m place
IsTopOf rows m place (Some top) = IsTop rows m place top

pub top_is : (rows : List MountRow) → IsRising rows → (m : ℕ) (place : List (List ℕ)) → IsTopOf rows m place (top_of rows m place)
top_is rows rises m place = go (mounts_where (is_at m place) rows) refl (where_on (is_at m place) 0 rows rises)
  where
    found : (c : ℕ) → HasRow (IsAt m place) rows c → has c (mounts_where (is_at m place) rows) ≡ true
    found c h = has_from_row (is_at m place) (IsAt m place) (at_decides m place) rows c h.0 h.1 h.2

    go : (xs : List ℕ) → mounts_where (is_at m place) rows ≡ xs → RiseOn 0 xs → IsTopOf rows m place (last_of xs)
    go [] e on = λ c h. let none : has c [] ≡ true = rw e at (found c h) in absurd cc
    go (n ∷ xs) e on = record {
      is_there = row_from_has (is_at m place) (IsAt m place) (at_decides m place) 0 rows rises (last_from n xs) (rw e (last_has n xs));
      greatest = λ c h. last_greatest n xs on.1 c (rw e at (found c h));
    }

-- there is one top
pub top_unique : (rows : List MountRow) (m : ℕ) (place : List (List ℕ)) (a b : ℕ) → IsTop rows m place a → IsTop rows m place b → a ≡ b
top_unique rows m place a b top_a top_b =
    let up : a ≤ b = top_b.greatest a top_a.is_there in
    let down : b ≤ a = top_a.greatest b top_b.is_there in
    omega arith

-- one row more
last_more : (n x : ℕ) (xs : List ℕ) → last_from n (xs ++ x ∷ []) ≡ x
last_more n x [] = refl
last_more n x (m ∷ xs) = last_more m x xs

last_of_more : (x : ℕ) (xs : List ℕ) → last_of (xs ++ x ∷ []) ≡ Some x
last_of_more x [] = refl
last_of_more x (n ∷ xs) = ap Some (last_more n x xs)

where_more : (test : MountRow → Bool) (rows : List MountRow) (i : ℕ) (d : MountRow) → i < length rows → mounts_where test (take (i + 1) rows) ≡ mounts_where test (take i rows) ++ cond (test (get_or rows i d)) ((get_or rows i d).mount ∷ []) []
where_more test [] i d h = absurd (omega arith)
where_more test (r ∷ rows) zero d h = grind arith
where_more test (r ∷ rows) (suc i) d h = rw (add-one) (go (test r) (where_more test rows i d (omega arith)))
  where
    go : (b : Bool) → mounts_where test (take (i + 1) rows) ≡ mounts_where test (take i rows) ++ cond (test (get_or rows i d)) ((get_or rows i d).mount ∷ []) [] → map (λ (x : MountRow). x.mount) (cond b (r ∷ filter test (take (suc i) rows)) (filter test (take (suc i) rows))) ≡ map (λ (x : MountRow). x.mount) (cond b (r ∷ filter test (take i rows)) (filter test (take i rows))) ++ cond (test (get_or rows i d)) ((get_or rows i d).mount ∷ []) []
    go true ih = ap (λ (xs : List ℕ). r.mount ∷ xs) (rw (add-one) at ih)
    go false ih = rw (add-one) at ih

pub last_of_append : (xs : List ℕ) (b : Bool) (x : ℕ) → last_of (xs ++ cond b (x ∷ []) []) ≡ cond b (Some x) (last_of xs)
last_of_append xs true x = last_of_more x xs
last_of_append xs false x = ap last_of (append-nil xs)

pub top_more : (rows : List MountRow) (m : ℕ) (place : List (List ℕ)) (i : ℕ) (row : MountRow) → i < length rows → row ≡ get_or rows i row → top_of (take (i + 1) rows) m place ≡ cond (is_at m place row) (Some row.mount) (top_of (take i rows) m place)
top_more rows m place i row h is =
    ap last_of (where_more (is_at m place) rows i row h) ∙
    rw (← is) (last_of_append (mounts_where (is_at m place) (take i rows)) (is_at m place row) row.mount)

-- what the look-up of a place finds out
pub some_greatest : (rows : List MountRow) (m : ℕ) (place : List (List ℕ)) (o : Option ℕ) → IsTopOf rows m place o → IfSome o (IsTop rows m place)
some_greatest rows m place None h = tt
some_greatest rows m place (Some top) h = h

pub none_free : (rows : List MountRow) (m : ℕ) (place : List (List ℕ)) (o : Option ℕ) → IsTopOf rows m place o → IfNone o (HasNoMountAt rows m place)
none_free rows m place None h = h
none_free rows m place (Some top) h = tt

pub is_position_some : (m : ℕ) (place : List (List ℕ)) (o : Option Position) (p : Position) → o ≡ Some p → (p.mount == m) ≡ true → is_position m place o ≡ pointwise bytes_eq p.place place
is_position_some m place o p e f = rw (e, f) refl

-- the number that may follow is that after the last
pub next_is_after : (low : ℕ) (row : MountRow) (rows : List MountRow) → next_of (option_map (λ r. r.mount) (slice_get (row ∷ rows) (length rows))) ≡ next_after low (row ∷ rows)
next_is_after low row [] = refl
next_is_after low row (r ∷ rows) = next_is_after (row.mount + 1) r rows

pub next_of_last : (rows : List MountRow) → next_of (option_map (λ r. r.mount) (slice_get rows (length rows - 1))) ≡ next_after 0 rows
next_of_last [] = refl
next_of_last (row ∷ rows) =
    let e : length (row ∷ rows) - 1 ≡ length rows = omega arith in
    ap (λ (n : ℕ). next_of (option_map (λ r. r.mount) (slice_get (row ∷ rows) n))) e ∙ next_is_after 0 row rows
