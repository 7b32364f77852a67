-- Which rows of a file system may expire, told on the rows that stand in order.
use Rattle.std.proofs.Common.{◌≡◌, ℕ, ◌+◌, ◌<◌, ◌≤◌, ◌&&◌, ◌||◌, ◌==◌, Bool, true, false, cond, nat_lt, List, [], ◌∷◌, All, filter, length, get_or, suc, zero, refl, sym, ap, ◌∙◌, arith}
use Rattle.std.specs.Prelude.{Contains, not, nat_le}
use Rattle.std.proofs.lemmas.Bool.Decides.{nat_tests}
use Rattle.std.proofs.lemmas.List.Elements.{All-weaker, All-get_or, Contains-append_right, filter_passes}
use Rattle.am_names.specs.declared.trigger.Trigger.{Trigger}
use Rattle.am_names.proofs.Basics.{left_of_and, true_where_not_false}
use Rattle.am_expire.specs.{is_of, IsOrder, Expiry, is_due, is_open, may_go, mount_on, is_eligible, comes_before, candidates}
use Rattle.am_expire.proofs.OrderLemmas.{far, filter_none}
use Rattle.am_expire.proofs.PickLemmas.{comes_is}
use Rattle.am_expire.proofs.TouchLemmas.{none_in_same}

-- ---- what the tests tell

abbrev pub due : Expiry → ℕ → Bool
due e last = is_due e.timeout e.moment e.immediate last

-- a row that may expire is one of the file system
eligible_of : (e : Expiry) (row : Trigger × ℕ) → is_eligible e row ≡ true → is_of e.fs row ≡ true
eligible_of e row may =
    let one = is_of e.fs row in
    let shut = not (is_open e.waits row.0) in
    left_of_and one (due e row.1) (left_of_and (one && due e row.1) shut (left_of_and (one && due e row.1 && shut) (may_go e.table e.uses (mount_on e row.0)) may))

-- a row that isn't due may not expire
pub not_due : (e : Expiry) (row : Trigger × ℕ) → due e row.1 ≡ false → is_eligible e row ≡ false
not_due e row late =
    by_both (is_of e.fs row) (due e row.1) (not (is_open e.waits row.0)) (may_go e.table e.uses (mount_on e row.0)) late
  where
    by_both : (one two shut may : Bool) → two ≡ false → (one && two && shut && may) ≡ false
    by_both true true shut may e = absurd cc
    by_both true false shut may e = refl
    by_both false two shut may e = refl

pub not_eligible_where_passed : (a b : Bool) → (not a || b) ≡ false → b ≡ false
not_eligible_where_passed true b e = e
not_eligible_where_passed false b e = absurd cc

pub eligible_where_ended : (a b : Bool) → (not a || b) ≡ true → a ≡ true → b ≡ true
eligible_where_ended true b e f = e
eligible_where_ended false b e f = absurd cc

-- one that was used later isn't due either
pub later_not_due : (timeout moment : ℕ) (now : Bool) (last later : ℕ) → last ≤ later → is_due timeout moment now last ≡ false → is_due timeout moment now later ≡ false
later_not_due timeout moment true last later le e = absurd cc
later_not_due timeout moment false last later le e = by_tests (nat_lt 0 timeout) (nat_le (last + timeout) moment) (nat_le (later + timeout) moment) refl refl e
  where
    by_tests : (a b c : Bool) → nat_le (last + timeout) moment ≡ b → nat_le (later + timeout) moment ≡ c → (a && b) ≡ false → (a && c) ≡ false
    by_tests false b c p q e = refl
    by_tests true true c p q e = absurd cc
    by_tests true false false p q e = refl
    by_tests true false true p q e = absurd (grind (arith, nat_tests))

pub not_later : (s t : ℕ) (p : Bool) → (nat_lt s t || (s == t && p)) ≡ false → t ≤ s
not_later s t p e = by_test (nat_lt s t) refl e
  where
    by_test : (b : Bool) → nat_lt s t ≡ b → (b || (s == t && p)) ≡ false → t ≤ s
    by_test true f e = absurd cc
    by_test false f e = grind (arith, nat_tests)

-- ---- what may expire, among the rows of the file system

filter_within :
    {X : Type 0} (p q : X → Bool) → ((x : X) → p x ≡ true → q x ≡ true) → (xs : List X) →
    filter p (filter q xs) ≡ filter p xs
filter_within p q inside [] = refl
filter_within {X} p q inside (x ∷ xs) = by_tests (q x) (p x) refl refl (filter_within p q inside xs)
  where
    by_tests : (a b : Bool) → q x ≡ a → p x ≡ b → filter p (filter q xs) ≡ filter p xs → filter p (cond a (x ∷ filter q xs) (filter q xs)) ≡ cond b (x ∷ filter p xs) (filter p xs)
    by_tests true true f g later = rw g (ap (λ (ys : List X). x ∷ ys) later)
    by_tests true false f g later = rw g later
    by_tests false true f g later = absurd (let h = inside x g in cc)
    by_tests false false f g later = later

pub candidates_within : (e : Expiry) → candidates e ≡ filter (is_eligible e) (filter (is_of e.fs) e.triggers.uses)
candidates_within e = sym (filter_within (is_eligible e) (is_of e.fs) (eligible_of e) e.triggers.uses)

pub contains_filtered : {X : Type 0} (p : X → Bool) (xs : List X) (x : X) → Contains xs x → p x ≡ true → Contains (filter p xs) x
contains_filtered p [] x there passes = absurd (let h = there.1 in omega arith)
contains_filtered {X} p (y ∷ xs) x there passes =
    by_place (λ inside. contains_filtered p xs x inside passes) there.0 there.1 there.2
  where
    behind : (b : Bool) → Contains (filter p xs) x → Contains (cond b (y ∷ filter p xs) (filter p xs)) x
    behind true later = Contains-append_right (y ∷ []) (filter p xs) x later
    behind false later = later

    by_place : (Contains xs x → Contains (filter p xs) x) → (k : ℕ) → k < length (y ∷ xs) → get_or (y ∷ xs) k x ≡ x → Contains (cond (p y) (y ∷ filter p xs) (filter p xs)) x
    by_place later zero lt is =
        let here : p y ≡ true = ap p is ∙ passes in
        rw here (0, omega arith, is)
    by_place later (suc k) lt is = behind (p y) (later (k, omega arith, is))

pub none_may :
    (e : Expiry) (rows : List (Trigger × ℕ)) → IsOrder (filter (is_of e.fs) e.triggers.uses) rows →
    All (λ x. is_eligible e x ≡ false) rows → candidates e ≡ []
none_may e rows order none =
    candidates_within e
    ∙ filter_none (is_eligible e) (filter (is_of e.fs) e.triggers.uses) (none_in_same rows (filter (is_of e.fs) e.triggers.uses) (is_eligible e) order.same none)

not_of_true : (b : Bool) → b ≡ true → not b ≡ false
not_of_true true e = refl
not_of_true false e = absurd cc

-- the rows are of the file system
all_of :
    (e : Expiry) (rows : List (Trigger × ℕ)) → IsOrder (filter (is_of e.fs) e.triggers.uses) rows →
    All (λ x. is_of e.fs x ≡ true) rows
all_of e rows order =
    let ours = filter (is_of e.fs) e.triggers.uses in
    let of_ours : All (λ (x : Trigger × ℕ). not (is_of e.fs x) ≡ false) ours =
    All-weaker (λ (x : Trigger × ℕ). is_of e.fs x ≡ true) (λ (x : Trigger × ℕ). not (is_of e.fs x) ≡ false) (λ x h. not_of_true (is_of e.fs x) h) ours (filter_passes (is_of e.fs) e.triggers.uses) in
    All-weaker (λ (x : Trigger × ℕ). not (is_of e.fs x) ≡ false) (λ (x : Trigger × ℕ). is_of e.fs x ≡ true) (λ x h. true_where_not_false (is_of e.fs x) h) rows
    (none_in_same ours rows (λ x. not (is_of e.fs x)) (λ test. sym (order.same test)) of_ours)

same_fs : (a b fs : ℕ) → (a == fs) ≡ true → (b == fs) ≡ true → a ≡ b
same_fs a b fs p q = grind (arith, nat_tests)

-- a row doesn't come before one that it stands behind
pub not_before :
    (e : Expiry) (rows : List (Trigger × ℕ)) → IsOrder (filter (is_of e.fs) e.triggers.uses) rows →
    (i j : ℕ) (d : Trigger × ℕ) → i ≤ j → j < length rows → comes_before (get_or rows j d) (get_or rows i d) ≡ false
not_before e rows order i j d le lt =
    let ours = all_of e rows order in
    let one = All-get_or (λ x. is_of e.fs x ≡ true) rows j d lt ours in
    let two = All-get_or (λ x. is_of e.fs x ≡ true) rows i d (omega arith) ours in
    sym (comes_is (get_or rows j d) (get_or rows i d) (same_fs (get_or rows j d).0.fs (get_or rows i d).0.fs e.fs one two))
    ∙ far rows order.rising i j d le lt
