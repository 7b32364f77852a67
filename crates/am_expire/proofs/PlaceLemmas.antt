-- The places of the last uses, in the order in which these expire.
use Rattle.std.proofs.Common.{◌≡◌, ◌≢◌, ◌<◌, ◌≤◌, ◌+◌, ◌-◌, ◌==◌, ℕ, zero, suc, Bool, true, false, cond, nat_lt, List, [], ◌∷◌, ◌++◌, length, map, set, take, drop, get_or, Option, Some, None, refl, sym, ap, subst, ◌∙◌, arith}
use Rattle.std.specs.Prelude.{Contains, find, slice_get, IsSome, OnSome, OnOk, OnErr, Result, Ok, Err}
use Rattle.std.specs.List.{count_by, insert, remove}
use Rattle.std.specs.List.Sorted.{IsSorted, IsPartitionedBy, IsPartitionPoint}
use Rattle.std.specs.Option.{option_map}
use Rattle.std.proofs.lemmas.Bool.{eqb-true, eq-eqb}
use Rattle.std.proofs.lemmas.Bool.Decides.{nat_tests}
use Rattle.std.proofs.lemmas.List.{get_or-map, length-map, length-set, length-append, get_or-set_same, get_or-set_other, get_or_append_left, get_or_push, get_or-take, get_or-drop, length-take-le, length-drop}
use Rattle.std.proofs.lemmas.List.Sums.{sum_by-insert}
use Rattle.std.proofs.lemmas.Option.{none-some, same_Some, slice_get-get_or, slice_get_within, get_or_from_slice_get}
use Rattle.am_names.specs.{same_trigger}
use Rattle.am_names.specs.declared.trigger.Trigger.{Trigger}
use Rattle.am_names.proofs.SameTriggers.{equal_by_same_trigger, same_trigger_itself}
use Rattle.am_ordered.specs.{times, IsOrderOf}
use Rattle.am_ordered.proofs.OrderLemmas.{there_first, there_later, there_at, below_count, times_removed, gone}
use Rattle.am_trigger.specs.{last_use_in, used_in, AreOnce}
use Rattle.am_expire.specs.{use_cmp, no_use, row_at, rows_at, passes, IsListed, IsOrder, IsTouched, rows_in, IsPart}
use Rattle.am_expire.specs.declared.order.Part.{Part}
use Rattle.am_expire.proofs.OrderLemmas.{IsRank, stands, sorted_insert}
use Rattle.am_expire.proofs.ShiftLemmas.{exchange_rises, exchange_counts}
use Rattle.am_expire.proofs.TouchLemmas.{in_same, order_of_used}

-- ---- tests of the rows, made at their places

place_within : (uses : List (Trigger × ℕ)) (places : List ℕ) → IsListed uses places → (k d : ℕ) → k < length places → get_or places k d < length uses
place_within uses places listed k d lt =
    below_count (length uses) places (get_or places k d) listed.once
    (there_at places k (get_or places k d) (slice_get-get_or places k d lt))

module _ (test : Trigger × ℕ → Bool) (uses : List (Trigger × ℕ)) (places : List ℕ) (listed : IsListed uses places) where
  test_at :
      (k d : ℕ) (e : Trigger × ℕ) → k < length places →
      passes test (slice_get uses (get_or places k d)) ≡ test (get_or (rows_at uses places) k e)
  test_at k d e lt =
      ap (passes test) (slice_get-get_or uses (get_or places k d) no_use (place_within uses places listed k d lt))
      ∙ ap test (sym (get_or-map (row_at uses) places k d e lt))

  -- what the rows are parted by, their places are
  pub places_parted : IsPartitionedBy test (rows_at uses places) → IsPartitionedBy (λ place. passes test (slice_get uses place)) places
  places_parted parted i j d le lt before =
      let long = length-map places (row_at uses) in
      test_at i d no_use (omega arith)
      ∙ parted i j no_use le (omega (arith, lt, long)) (sym (test_at j d no_use lt) ∙ before)

  -- where the places are parted, the rows are
  pub rows_parted :
      (at : ℕ) → at ≤ length places →
      IsPartitionPoint (λ place. passes test (slice_get uses place) ≡ true) (λ place. passes test (slice_get uses place) ≡ false) places at →
      IsPartitionPoint (λ x. test x ≡ true) (λ x. test x ≡ false) (rows_at uses places) at
  rows_parted at bound point = (
    λ k d low high. sym (test_at k 0 d (omega arith)) ∙ point.0 k 0 low high,
    λ k d low high.
        let long = length-map places (row_at uses) in
        let lt : k < length places = omega (arith, high, long) in
        sym (test_at k 0 d lt) ∙ point.1 k 0 low lt,
  )

-- ---- what calls promise that go well

pub some_where_mapped : {X Y : Type 0} (f : X → Y) (o : Option X) (y : Y) → option_map f o ≡ Some y → IsSome o
some_where_mapped f None y e = absurd (none-some y e)
some_where_mapped f (Some x) y e = refl

pub holds_where_some : {X P : Type 0} (o : Option X) → IsSome o → OnSome o P → P
holds_where_some None h p = absurd cc
holds_where_some (Some x) h p = p

pub holds_where_room : {T E P : Type 0} (r : Result T E) (len room : ℕ) → OnErr r (room ≤ len) → len < room → OnOk r P → P
holds_where_room (Ok x) len room full less p = p
holds_where_room (Err e) len room full less p = absurd (omega (arith, full, less))

-- ---- a part of the order

pub part_length : (part : Part) → IsPart part → length (rows_in part) ≡ part.end - part.start
part_length part is =
    let rows = rows_at part.triggers.now.rows.uses part.places.now.items in
    let long = length-map part.places.now.items (row_at part.triggers.now.rows.uses) in
    let left = length-drop part.start rows in
    length-take-le (part.end - part.start) (drop part.start rows) (omega (arith, is.within, is.up, long, left))

-- the last use at the place that stands at an index of the part
pub part_row :
    (part : Part) → IsPart part → (index d : ℕ) → index < length (rows_in part) →
    slice_get part.triggers.now.rows.uses (get_or part.places.now.items (part.start + index) d) ≡ Some (get_or (rows_in part) index no_use)
part_row part is index d lt =
    let uses = part.triggers.now.rows.uses in
    let places = part.places.now.items in
    let rows = rows_at uses places in
    let count = part_length part is in
    let less : index < part.end - part.start = omega (arith, lt, count) in
    let within : part.start + index < length places = omega (arith, less, is.within) in
    let p = get_or places (part.start + index) d in
    let row : get_or (rows_in part) index no_use ≡ get_or uses p no_use =
    get_or-take (part.end - part.start) (drop part.start rows) index no_use less
    ∙ get_or-drop part.start rows index no_use
    ∙ get_or-map (row_at uses) places (part.start + index) d no_use within in
    slice_get-get_or uses p no_use (place_within uses places is.listed (part.start + index) d within)
    ∙ ap (λ (x : Trigger × ℕ). Some x) (sym row)

-- ---- lists of which an item more or less is mapped

map_insert : {X Y : Type 0} (f : X → Y) (xs : List X) (at : ℕ) (x : X) → map f (insert xs at x) ≡ insert (map f xs) at (f x)
map_insert f [] zero x = refl
map_insert f [] (suc at) x = refl
map_insert f (y ∷ xs) zero x = refl
map_insert {X} {Y} f (y ∷ xs) (suc at) x = ap (λ (ys : List Y). f y ∷ ys) (map_insert f xs at x)

map_remove : {X Y : Type 0} (f : X → Y) (xs : List X) (at : ℕ) → map f (remove xs at) ≡ remove (map f xs) at
map_remove f [] zero = refl
map_remove f [] (suc at) = refl
map_remove f (y ∷ xs) zero = refl
map_remove {X} {Y} f (y ∷ xs) (suc at) = ap (λ (ys : List Y). f y ∷ ys) (map_remove f xs at)

-- two functions that agree on all that is listed
map_listed : {X : Type 0} (f g : ℕ → X) (xs : List ℕ) → ((q : ℕ) → 0 < times q xs → f q ≡ g q) → map f xs ≡ map g xs
map_listed f g [] agree = refl
map_listed {X} f g (x ∷ xs) agree =
    ap (λ (y : X). y ∷ map f xs) (agree x (there_first x xs))
    ∙ ap (λ (ys : List X). g x ∷ ys) (map_listed f g xs (λ q there. agree q (there_later q x xs there)))

times_insert : (q : ℕ) (xs : List ℕ) (at x : ℕ) → times q (insert xs at x) ≡ times q xs + cond (x == q) 1 0
times_insert q [] zero x = by_test (x == q)
  where
    by_test : (b : Bool) → cond b 1 0 ≡ 0 + cond b 1 0
    by_test true = refl
    by_test false = refl
times_insert q [] (suc at) x = by_test (x == q)
  where
    by_test : (b : Bool) → cond b 1 0 ≡ 0 + cond b 1 0
    by_test true = refl
    by_test false = refl
times_insert q (y ∷ xs) zero x = by_test (x == q) (cond (y == q) (suc (times q xs)) (times q xs))
  where
    by_test : (b : Bool) (n : ℕ) → cond b (suc n) n ≡ n + cond b 1 0
    by_test true n = omega arith
    by_test false n = omega arith
times_insert q (y ∷ xs) (suc at) x = by_test (y == q) (times_insert q xs at x)
  where
    by_test :
        (b : Bool) → times q (insert xs at x) ≡ times q xs + cond (x == q) 1 0 →
        cond b (suc (times q (insert xs at x))) (times q (insert xs at x)) ≡ cond b (suc (times q xs)) (times q xs) + cond (x == q) 1 0
    by_test true later = omega (arith, later)
    by_test false later = later

-- ---- a trigger that was used before

less_once : (row : Trigger × ℕ) (uses : List (Trigger × ℕ)) → AreOnce (row ∷ uses) → AreOnce uses
less_once row uses once i j x y p q is = let e = once (suc i) (suc j) x y p q is in omega (arith, e)

module _ (trigger : Trigger) (last moment : ℕ) where
  -- the first row of the trigger is the one at its place
  first_by :
      (row : Trigger × ℕ) (uses : List (Trigger × ℕ)) (place : ℕ) → AreOnce (row ∷ uses) →
      slice_get uses place ≡ Some (trigger, last) → (b : Bool) → same_trigger row.0 trigger ≡ b → b ≡ false
  first_by row uses place once e true same =
      absurd (let none = once 0 (suc place) row (trigger, last) refl e (equal_by_same_trigger row.0 trigger same) in omega (arith, none))
  first_by row uses place once e false same = refl

  same_first : (row : Trigger × ℕ) → Some row ≡ Some (trigger, last) → same_trigger row.0 trigger ≡ true
  same_first row e = ap (λ (x : Trigger × ℕ). same_trigger x.0 trigger) (same_Some row (trigger, last) e) ∙ same_trigger_itself trigger

  -- the row at its place gets the moment
  used_there : (uses : List (Trigger × ℕ)) (place : ℕ) → AreOnce uses → slice_get uses place ≡ Some (trigger, last) → used_in trigger moment uses ≡ set uses place (trigger, moment)
  used_there [] place once e = absurd (none-some (trigger, last) e)
  used_there (row ∷ uses) zero once e =
      rw (same_first row e) (ap (λ (x : Trigger × ℕ). (x.0, moment) ∷ uses) (same_Some row (trigger, last) e))
  used_there (row ∷ uses) (suc place) once e =
      rw (first_by row uses place once e (same_trigger row.0 trigger) refl)
      (ap (λ (rows : List (Trigger × ℕ)). row ∷ rows) (used_there uses place (less_once row uses once) e))

  -- it was last used when the row at its place says
  last_there : (uses : List (Trigger × ℕ)) (place : ℕ) → AreOnce uses → slice_get uses place ≡ Some (trigger, last) → last_use_in uses trigger ≡ Some last
  last_there [] place once e = absurd (none-some (trigger, last) e)
  last_there (row ∷ uses) zero once e =
      rw (same_first row e) (ap (λ (x : Trigger × ℕ). Some x.1) (same_Some row (trigger, last) e))
  last_there (row ∷ uses) (suc place) once e =
      rw (first_by row uses place once e (same_trigger row.0 trigger) refl) (last_there uses place (less_once row uses once) e)

-- a use at the moment of the last use changes nothing
pub used_again : (trigger : Trigger) (last : ℕ) (uses : List (Trigger × ℕ)) (place : ℕ) → AreOnce uses → slice_get uses place ≡ Some (trigger, last) → used_in trigger last uses ≡ uses
used_again trigger last [] place once e = absurd (none-some (trigger, last) e)
used_again trigger last (row ∷ uses) zero once e =
    rw (same_first trigger last last row e) (ap (λ (n : ℕ). (row.0, n) ∷ uses) (sym (ap (λ (x : Trigger × ℕ). x.1) (same_Some row (trigger, last) e))))
used_again trigger last (row ∷ uses) (suc place) once e =
    rw (first_by trigger last last row uses place once e (same_trigger row.0 trigger) refl)
    (ap (λ (rows : List (Trigger × ℕ)). row ∷ rows) (used_again trigger last uses place (less_once row uses once) e))

-- ---- the order after a trigger was used again

module _ (uses : List (Trigger × ℕ)) (places : List ℕ) (listed : IsListed uses places) (once : AreOnce uses)
    (trigger : Trigger) (last moment place from to : ℕ) (there : slice_get uses place ≡ Some (trigger, last))
    (rank_from : IsRank (rows_at uses places) (trigger, last) from) (rank_to : IsRank (rows_at uses places) (trigger, moment) to)
    (bound : to ≤ length places) where
  abbrev rows : List (Trigger × ℕ)
  rows = rows_at uses places

  abbrev row : Trigger × ℕ
  row = (trigger, last)

  abbrev other : Trigger × ℕ
  other = (trigger, moment)

  abbrev at : ℕ
  at = cond (nat_lt from to) (to - 1) to

  abbrev left : List ℕ
  left = remove places from

  long : length rows ≡ length places
  long = length-map places (row_at uses)

  here : (from < length rows) × (get_or rows from row ≡ row)
  here =
      stands rows row from listed.order.rising rank_from
      (in_same rows uses row listed.order.same (place, slice_get_within uses place row there, get_or_from_slice_get uses place row row there))

  pub from_within : from < length places
  from_within = omega (arith, here.0, long)

  -- the place of the trigger stands where its row does
  place_there : get_or places from 0 ≡ place
  place_there =
      let p = get_or places from 0 in
      let is : get_or uses p no_use ≡ row = sym (get_or-map (row_at uses) places from 0 row from_within) ∙ here.1 in
      once p place row row
      (slice_get-get_or uses p no_use (place_within uses places listed from 0 from_within) ∙ ap (λ (x : Trigger × ℕ). Some x) is)
      there refl

  listed_there : slice_get places from ≡ Some place
  listed_there = slice_get-get_or places from 0 from_within ∙ ap (λ (p : ℕ). Some p) place_there

  new_uses : used_in trigger moment uses ≡ set uses place other
  new_uses = used_there trigger last moment uses place once there

  none_left : times place left ≡ 0
  none_left = gone (length uses) places from place listed.once listed_there

  row_other : (q : ℕ) → 0 < times q left → row_at (set uses place other) q ≡ row_at uses q
  row_other q more = get_or-set_other uses place q other no_use (λ e. absurd (let same : times q left ≡ times place left = ap (λ (n : ℕ). times n left) e in omega (arith, none_left, same, more)))

  new_rows : rows_at (set uses place other) (insert left at place) ≡ insert (remove rows from) at other
  new_rows =
      map_insert (row_at (set uses place other)) left at place
      ∙ ap (λ (x : Trigger × ℕ). insert (map (row_at (set uses place other)) left) at x)
      (get_or-set_same uses place other no_use (slice_get_within uses place row there))
      ∙ ap (λ (xs : List (Trigger × ℕ)). insert xs at other)
      (map_listed (row_at (set uses place other)) (row_at uses) left row_other ∙ map_remove (row_at uses) places from)

  new_order : IsOrder (used_in trigger moment uses) (insert (remove rows from) at other)
  new_order =
      order_of_used uses rows (insert (remove rows from) at other) trigger moment listed.order
      (subst (λ (o : Option ℕ). IsTouched trigger o moment rows (insert (remove rows from) at other))
      (sym (last_there trigger last moment uses place once there))
      (λ test. exchange_counts rows row other from at here.0 here.1 test))
      (exchange_rises rows other from to listed.order.rising here.0 (omega (arith, bound, long)) rank_to)

  new_once : IsOrderOf (length uses) (insert left at place)
  new_once q =
      times_insert q left at place ∙ by_test (place == q) (times_removed places from place q listed_there) ∙ listed.once q
    where
      by_test : (b : Bool) → times q places ≡ cond b (suc (times q left)) (times q left) → times q left + cond b 1 0 ≡ times q places
      by_test true e = omega (arith, e)
      by_test false e = omega (arith, e)

  pub listed_renewed : IsListed (used_in trigger moment uses) (insert (remove places from) (cond (nat_lt from to) (to - 1) to) place)
  listed_renewed =
      let same : rows_at (used_in trigger moment uses) (insert left at place) ≡ insert (remove rows from) at other =
      ap (λ (us : List (Trigger × ℕ)). rows_at us (insert left at place)) new_uses ∙ new_rows in
      let count : length (used_in trigger moment uses) ≡ length uses = ap (λ (us : List (Trigger × ℕ)). length us) new_uses ∙ length-set uses place other in
      record {
        order = subst (IsOrder (used_in trigger moment uses)) (sym same) new_order;
        once = subst (λ (n : ℕ). IsOrderOf n (insert left at place)) (sym count) new_once;
      }

-- ---- the order after a trigger was used for the first time

-- it is the last
used_first : (trigger : Trigger) (moment : ℕ) (uses : List (Trigger × ℕ)) → last_use_in uses trigger ≡ None → used_in trigger moment uses ≡ uses ++ (trigger, moment) ∷ []
used_first trigger moment [] none = refl
used_first trigger moment (known ∷ uses) none = by_test (same_trigger known.0 trigger) (used_first trigger moment uses) none
  where
    by_test :
        (b : Bool) → (last_use_in uses trigger ≡ None → used_in trigger moment uses ≡ uses ++ (trigger, moment) ∷ []) →
        option_map {T = Trigger × ℕ} (λ r. r.1) (cond b (Some known) (find (λ r. same_trigger r.0 trigger) uses)) ≡ None →
        cond b ((known.0, moment) ∷ uses) (known ∷ used_in trigger moment uses) ≡ known ∷ (uses ++ (trigger, moment) ∷ [])
    by_test true later e = absurd (none-some known.1 (sym e))
    by_test false later e = ap (λ (rs : List (Trigger × ℕ)). known ∷ rs) (later e)

-- the row is there once more
add_counts :
    (rs : List (Trigger × ℕ)) (at : ℕ) (new : Trigger × ℕ) (test : Trigger × ℕ → Bool) →
    count_by test (insert rs at new) + 0 ≡ count_by test rs + cond (test new) 1 0
add_counts rs at new test =
    let f : Trigger × ℕ → ℕ = λ (x : Trigger × ℕ). cond (test x) 1 0 in
    let put = sum_by-insert f rs at new in
    omega (arith, put)

module _ (uses : List (Trigger × ℕ)) (places : List ℕ) (listed : IsListed uses places)
    (trigger : Trigger) (moment at : ℕ) (fresh : last_use_in uses trigger ≡ None)
    (rank : IsRank (rows_at uses places) (trigger, moment) at) (bound : at ≤ length places) where
  abbrev first : Trigger × ℕ
  first = (trigger, moment)

  abbrev more : List (Trigger × ℕ)
  more = uses ++ first ∷ []

  abbrev rows_now : List (Trigger × ℕ)
  rows_now = rows_at uses places

  row_before : (q : ℕ) → 0 < times q places → row_at more q ≡ row_at uses q
  row_before q there =
      get_or_append_left uses (first ∷ []) no_use q (below_count (length uses) places q listed.once there)

  rows_more : rows_at more (insert places at (length uses)) ≡ insert rows_now at first
  rows_more =
      map_insert (row_at more) places at (length uses)
      ∙ ap (λ (x : Trigger × ℕ). insert (map (row_at more) places) at x) (get_or_push uses first no_use (length uses) refl)
      ∙ ap (λ (xs : List (Trigger × ℕ)). insert xs at first) (map_listed (row_at more) (row_at uses) places row_before)

  order_more : IsOrder (used_in trigger moment uses) (insert rows_now at first)
  order_more =
      let long = length-map places (row_at uses) in
      order_of_used uses rows_now (insert rows_now at first) trigger moment listed.order
      (subst (λ (o : Option ℕ). IsTouched trigger o moment rows_now (insert rows_now at first)) (sym fresh)
      (λ test. add_counts rows_now at first test))
      (sorted_insert rows_now at first listed.order.rising (omega (arith, bound, long)) rank)

  once_more : IsOrderOf (suc (length uses)) (insert places at (length uses))
  once_more q =
      times_insert q places at (length uses) ∙ ap (λ (n : ℕ). n + cond (length uses == q) 1 0) (listed.once q)
      ∙ by_tests (nat_lt q (length uses)) (length uses == q) (nat_lt q (suc (length uses))) refl refl refl
    where
      by_tests :
          (a b c : Bool) → nat_lt q (length uses) ≡ a → (length uses == q) ≡ b → nat_lt q (suc (length uses)) ≡ c →
          ◌≡◌ {A = ℕ} (cond a 1 0 + cond b 1 0) (cond c 1 0)
      by_tests true true c p r s = absurd (grind (arith, nat_tests))
      by_tests true false true p r s = refl
      by_tests true false false p r s = absurd (grind (arith, nat_tests))
      by_tests false true true p r s = refl
      by_tests false true false p r s = absurd (grind (arith, nat_tests))
      by_tests false false true p r s = absurd (grind (arith, nat_tests))
      by_tests false false false p r s = refl

  pub listed_appended : IsListed (used_in trigger moment uses) (insert places at (length uses))
  listed_appended =
      let new : used_in trigger moment uses ≡ more = used_first trigger moment uses fresh in
      let same : rows_at (used_in trigger moment uses) (insert places at (length uses)) ≡ insert rows_now at first =
      ap (λ (us : List (Trigger × ℕ)). rows_at us (insert places at (length uses))) new ∙ rows_more in
      let count : length (used_in trigger moment uses) ≡ suc (length uses) =
      ap (λ (us : List (Trigger × ℕ)). length us) new ∙ (let e = length-append uses (first ∷ []) in omega (arith, e)) in
      record {
        order = subst (IsOrder (used_in trigger moment uses)) (sym same) order_more;
        once = subst (λ (n : ℕ). IsOrderOf n (insert places at (length uses))) (sym count) once_more;
      }
