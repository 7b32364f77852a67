-- Last uses and their order, before and after a trigger is used.
use Rattle.std.proofs.Common.{◌≡◌, ◌<◌, ◌+◌, ℕ, Bool, true, false, cond, ◌&&◌, List, [], ◌∷◌, get_or, filter, All, Option, Some, None, refl, sym, ap, subst, ◌∙◌, arith}
use Rattle.std.specs.Prelude.{Contains, find}
use Rattle.std.specs.Option.{option_map, IfSome}
use Rattle.std.specs.declared.cmp.Ordering.{Ordering}
use Rattle.std.specs.declared.cmp.Ordering.TheVariants.{Less, Equal, Greater}
use Rattle.std.specs.Ordering.{is_eq}
use Rattle.std.specs.Cmp.{tied_itself}
use Rattle.std.specs.List.{count_by}
use Rattle.std.specs.List.Sorted.{IsSorted}
use Rattle.std.proofs.lemmas.List.Elements.{All-nil, All-cons, All-head, All-tail, Contains-append_right}
use Rattle.std.proofs.lemmas.List.Kept.{IsSortedBy-filter}
use Rattle.std.proofs.lemmas.List.Sorted.{ranks_by}
use Rattle.std.proofs.lemmas.List.Sums.{sum_by-cons, get_or-le-sum_by}
use Rattle.am_names.specs.{same_trigger}
use Rattle.am_names.specs.declared.trigger.Trigger.{Trigger}
use Rattle.am_names.proofs.SameTriggers.{equal_by_same_trigger}
use Rattle.am_trigger.specs.{last_use_in, used_in}
use Rattle.am_expire.specs.{use_cmp, is_of, has_last, AreSame, IsOrder, IsTouched}
use Rattle.am_expire.proofs.OrderLemmas.{use_total, use_exact, is_before}

-- ---- rows that are the same, each as often

abbrev once : Bool → ℕ
once b = cond b 1 0

count_cons : {X : Type 0} (test : X → Bool) (row : X) (rows : List X) → count_by test (row ∷ rows) ≡ once (test row) + count_by test rows
count_cons {X} test row rows = sum_by-cons (λ (x : X). cond (test x) 1 0) row rows

-- a row that passes a test is there, if one is counted
pub one_of : {X : Type 0} (test : X → Bool) (rows : List X) → 0 < count_by test rows → (row : X) × Contains rows row × (test row ≡ true)
one_of test [] some = absurd (omega arith)
one_of {X} test (row ∷ rows) some = by_test (test row) refl (one_of test rows) (omega (arith, some, count_cons test row rows))
  where
    by_test :
        (b : Bool) → test row ≡ b → (0 < count_by test rows → (x : X) × Contains rows x × (test x ≡ true)) →
        0 < cond b 1 0 + count_by test rows → (x : X) × Contains (row ∷ rows) x × (test x ≡ true)
    by_test true e later some = (row, (0, omega arith, refl), e)
    by_test false e later some =
        let found = later (omega arith) in
        (found.0, Contains-append_right (row ∷ []) rows found.0 found.1, found.2)

abbrev is_row : Trigger × ℕ → Trigger × ℕ → Bool
is_row row other = is_eq (use_cmp other row)

tied : (r : Ordering) → is_eq r ≡ true → r ≡ Equal
tied Less e = absurd cc
tied Equal e = refl
tied Greater e = absurd cc

counted_once : (rows : List (Trigger × ℕ)) (row : Trigger × ℕ) → Contains rows row → 0 < count_by (is_row row) rows
counted_once rows row there =
    let f : Trigger × ℕ → ℕ = λ (x : Trigger × ℕ). cond (is_row row x) 1 0 in
    let one : f (get_or rows there.0 row) ≡ 1 = ap f there.2 ∙ ap (λ (r : Ordering). cond (is_eq r) 1 0) (tied_itself use_total row) in
    let le = get_or-le-sum_by f rows there.0 row there.1 in
    omega (arith, one, le)

-- what is in the one is in the other
pub in_same : (rows others : List (Trigger × ℕ)) (row : Trigger × ℕ) → AreSame rows others → Contains others row → Contains rows row
in_same rows others row same there =
    let some : 0 < count_by (is_row row) rows = rw (same (is_row row)) (counted_once others row there) in
    let found = one_of (is_row row) rows some in
    subst (λ (x : Trigger × ℕ). Contains rows x) (use_exact found.0 row (tied (use_cmp found.0 row) found.2)) found.1

-- ---- the last use of a trigger

-- after a use the trigger has this last use, and no longer the one before
pub used_count :
    (test : Trigger × ℕ → Bool) (trigger : Trigger) (moment : ℕ) (uses : List (Trigger × ℕ)) →
    count_by test (used_in trigger moment uses) + has_last trigger test (last_use_in uses trigger) ≡ count_by test uses + cond (test (trigger, moment)) 1 0
used_count test trigger moment [] = omega arith
used_count test trigger moment (row ∷ uses) =
    by_test (same_trigger row.0 trigger) refl (used_count test trigger moment uses)
  where
    by_test :
        (b : Bool) → same_trigger row.0 trigger ≡ b →
        count_by test (used_in trigger moment uses) + has_last trigger test (last_use_in uses trigger) ≡ count_by test uses + cond (test (trigger, moment)) 1 0 →
        count_by test (cond b ((row.0, moment) ∷ uses) (row ∷ used_in trigger moment uses))
        + has_last trigger test (option_map {T = Trigger × ℕ} (λ r. r.1) (cond b (Some row) (find (λ r. same_trigger r.0 trigger) uses)))
        ≡ count_by test (row ∷ uses) + cond (test (trigger, moment)) 1 0
    by_test true same later =
        let is : row.0 ≡ trigger = equal_by_same_trigger row.0 trigger same in
        let now : once (test (row.0, moment)) ≡ once (test (trigger, moment)) = ap (λ (g : Trigger). once (test (g, moment))) is in
        let before : once (test row) ≡ once (test (trigger, row.1)) = ap (λ (g : Trigger). once (test (g, row.1))) is in
        omega (arith, count_cons test (row.0, moment) uses, count_cons test row uses, now, before)
    by_test false differs later =
        omega (arith, later, count_cons test row uses, count_cons test row (used_in trigger moment uses))

-- the order after a use
pub order_of_used :
    (uses rows new : List (Trigger × ℕ)) (trigger : Trigger) (moment : ℕ) → IsOrder uses rows →
    IsTouched trigger (last_use_in uses trigger) moment rows new →
    IsSorted use_cmp new → IsOrder (used_in trigger moment uses) new
order_of_used uses rows new trigger moment order touched rising = record {
  rising = rising;
  same = λ test. (
      let a = order.same test in
      let b = touched test in
      let d = used_count test trigger moment uses in
      omega (arith, a, b, d));
}

-- ---- the order of one file system

pub count_within : {X : Type 0} (test which : X → Bool) (rows : List X) → count_by test (filter which rows) ≡ count_by (λ x. which x && test x) rows
count_within test which [] = refl
count_within {X} test which (row ∷ rows) =
    by_test (which row) (count_within test which rows)
    ∙ sym (count_cons (λ x. which x && test x) row rows)
  where
    by_test :
        (b : Bool) → count_by test (filter which rows) ≡ count_by (λ x. which x && test x) rows →
        count_by test (cond b (row ∷ filter which rows) (filter which rows)) ≡ cond (b && test row) 1 0 + count_by (λ x. which x && test x) rows
    by_test true later = count_cons test row (filter which rows) ∙ ap (λ (n : ℕ). cond (test row) 1 0 + n) later
    by_test false later = omega (arith, later)

pub order_within : (uses rows : List (Trigger × ℕ)) (fs : ℕ) → IsOrder uses rows → IsOrder (filter (is_of fs) uses) (filter (is_of fs) rows)
order_within uses rows fs order = record {
  rising = IsSortedBy-filter is_before (ranks_by use_total (λ (x : Trigger × ℕ). x)) (is_of fs) rows order.rising;
  same = λ test. count_within test (is_of fs) rows ∙ order.same (λ x. is_of fs x && test x) ∙ sym (count_within test (is_of fs) uses);
}

-- ---- tests that no row passes

count_none : {X : Type 0} (test : X → Bool) (rows : List X) → All (λ x. test x ≡ false) rows → count_by test rows ≡ 0
count_none test [] none = refl
count_none {X} test (row ∷ rows) none =
    let here : once (test row) ≡ 0 = ap once (All-head (λ x. test x ≡ false) row rows none) in
    let later = count_none test rows (All-tail (λ x. test x ≡ false) row rows none) in
    omega (arith, count_cons test row rows, here, later)

none_counted : {X : Type 0} (test : X → Bool) (rows : List X) → count_by test rows ≡ 0 → All (λ x. test x ≡ false) rows
none_counted test [] none = All-nil (λ x. test x ≡ false)
none_counted {X} test (row ∷ rows) none =
    let whole = count_cons test row rows in
    All-cons (λ x. test x ≡ false) row rows (by_test (test row) (omega (arith, whole))) (none_counted test rows (omega (arith, whole)))
  where
    by_test : (b : Bool) → once b ≡ 0 → b ≡ false
    by_test true h = absurd (omega arith)
    by_test false h = refl

-- what no row of the one passes no row of the other does
pub none_in_same : (rows others : List (Trigger × ℕ)) (test : Trigger × ℕ → Bool) → AreSame rows others → All (λ x. test x ≡ false) rows → All (λ x. test x ≡ false) others
none_in_same rows others test same none =
    none_counted test others (sym (same test) ∙ count_none test rows none)
