-- There is one least row, and it is the one that is picked.
use Rattle.std.proofs.Common.{◌≡◌, ℕ, ◌<◌, ◌&&◌, ◌||◌, ◌==◌, Bool, true, false, cond, nat_lt, List, [], ◌∷◌, Option, Some, None, All, length, get_or, suc, zero, refl, sym, ap, ◌∙◌, arith}
use Rattle.std.specs.Prelude.{Contains, find, not}
use Rattle.std.specs.declared.cmp.Ordering.{Ordering}
use Rattle.std.specs.declared.cmp.Ordering.TheVariants.{Less, Equal, Greater}
use Rattle.std.specs.Ordering.{is_lt, nat_cmp, ordering_then}
use Rattle.std.specs.Cmp.{tied_itself}
use Rattle.std.specs.Cmp.Lexicographic.{slice_cmp}
use Rattle.std.specs.Option.{option_cmp, option_map}
use Rattle.std.proofs.lemmas.Bool.Decides.{nat_tests}
use Rattle.std.proofs.lemmas.Cmp.{nat_cmp_total}
use Rattle.std.proofs.lemmas.List.Sums.{AllPass-from_list_all, list_all-from_AllPass}
use Rattle.std.proofs.lemmas.List.Elements.{All-contains, All-weaker, All-head, All-tail, Contains-get_or, filter_passes}
use Rattle.am_names.specs.declared.trigger.Trigger.{Trigger}
use Rattle.am_names.proofs.Basics.{equal_by_test, not_where_false, false_where_not, left_of_and}
use Rattle.am_expire.specs.{Expiry, is_due, is_open, may_go, mount_on, is_eligible, comes_before, candidates, IsLeast, IsPick, is_first, pick_of, IsBest}
use Rattle.am_expire.proofs.OrderLemmas.{is_before, same_use}

-- ---- rows of one file system

by_tests : (p q : Bool) (r : Ordering) → is_lt (ordering_then (cond p Less (cond q Equal Greater)) r) ≡ (p || (q && is_lt r))
by_tests true q r = refl
by_tests false true r = refl
by_tests false false r = refl

-- of one file system the order is by last use and name
pub comes_is : (a b : Trigger × ℕ) → a.0.fs ≡ b.0.fs → is_before a b ≡ comes_before a b
comes_is a b fs =
    let rest : Ordering = ordering_then (nat_cmp a.1 b.1) (option_cmp (slice_cmp nat_cmp) a.0.name b.0.name) in
    let tied : nat_cmp a.0.fs b.0.fs ≡ Equal = ap (λ (n : ℕ). nat_cmp n b.0.fs) fs ∙ tied_itself nat_cmp_total b.0.fs in
    ap (λ (r : Ordering). is_lt (ordering_then r rest)) tied
    ∙ by_tests (nat_lt a.1 b.1) (a.1 == b.1) (option_cmp (slice_cmp nat_cmp) a.0.name b.0.name)

-- of two rows of one file system that don't come before one another, both are the same
same_row : (a b : Trigger × ℕ) → a.0.fs ≡ b.0.fs → comes_before a b ≡ false → comes_before b a ≡ false → a ≡ b
same_row a b fs e f = same_use a b (comes_is a b fs ∙ e) (comes_is b a (sym fs) ∙ f)

-- ---- the least

first_of_least : (rows : List (Trigger × ℕ)) (row : Trigger × ℕ) → All (λ other. comes_before other row ≡ false) rows → is_first rows row ≡ true
first_of_least rows row least =
    list_all-from_AllPass (λ (other : Trigger × ℕ). not (comes_before other row)) rows
    (All-weaker (λ (other : Trigger × ℕ). comes_before other row ≡ false) (λ (other : Trigger × ℕ). not (comes_before other row) ≡ true) (λ other h. not_where_false (comes_before other row) h) rows least)

least_of_first : (rows : List (Trigger × ℕ)) (row : Trigger × ℕ) → is_first rows row ≡ true → All (λ other. comes_before other row ≡ false) rows
least_of_first rows row first =
    All-weaker (λ (other : Trigger × ℕ). not (comes_before other row) ≡ true) (λ (other : Trigger × ℕ). comes_before other row ≡ false) (λ other h. false_where_not (comes_before other row) h) rows
    (AllPass-from_list_all (λ (other : Trigger × ℕ). not (comes_before other row)) rows first)

-- the one row that passes the test is found
find_only : {X : Type 0} (test : X → Bool) (rows : List X) (x : X) → Contains rows x → test x ≡ true → All (λ y. test y ≡ true → y ≡ x) rows → find test rows ≡ Some x
find_only test [] x there passes only = absurd (let h : there.0 < 0 = there.1 in omega arith)
find_only {X} test (row ∷ rows) x there passes only =
    by_test (test row) refl (λ c. find_only test rows x c passes (All-tail (λ (y : X). test y ≡ true → y ≡ x) row rows only))
  where
    later : (k : ℕ) → k < length (row ∷ rows) → get_or (row ∷ rows) k x ≡ x → test row ≡ false → Contains rows x
    later zero lt is e = absurd (let h : test row ≡ true = ap test is ∙ passes in cc)
    later (suc k) lt is e = (k, (let h : suc k < suc (length rows) = lt in omega arith), is)

    by_test : (b : Bool) → test row ≡ b → (Contains rows x → find test rows ≡ Some x) → cond b (Some row) (find test rows) ≡ Some x
    by_test true e rest = ap Some (All-head (λ (y : X). test y ≡ true → y ≡ x) row rows only e)
    by_test false e rest = rest (later there.0 there.1 there.2 e)

-- all candidates are of the file system
of_fs : (e : Expiry) (row : Trigger × ℕ) → Contains (candidates e) row → row.0.fs ≡ e.fs
of_fs e row there =
    let one = row.0.fs == e.fs in
    let due = is_due e.timeout e.moment e.immediate row.1 in
    let shut = not (is_open e.waits row.0) in
    let may = may_go e.table e.uses (mount_on e row.0) in
    let all : is_eligible e row ≡ true = All-contains (λ (r : Trigger × ℕ). is_eligible e r ≡ true) (candidates e) row (filter_passes (is_eligible e) e.triggers.uses) there in
    equal_by_test row.0.fs e.fs (left_of_and one due (left_of_and (one && due) shut (left_of_and (one && due && shut) may all)))

least_found : (e : Expiry) (best : Trigger × ℕ) → IsLeast (candidates e) best → find (is_first (candidates e)) (candidates e) ≡ Some best
least_found e best least =
    find_only (is_first (candidates e)) (candidates e) best least.0 (first_of_least (candidates e) best least.1) (λ k d lt first.
    let row = get_or (candidates e) k d in
    let there : Contains (candidates e) row = Contains-get_or (candidates e) k d lt in
    same_row row best (of_fs e row there ∙ sym (of_fs e best least.0)) (least.1 k d lt)
    (All-contains (λ (other : Trigger × ℕ). comes_before other row ≡ false) (candidates e) best (least_of_first (candidates e) row first) least.0))

-- the least of the candidates is that of which the trigger is picked
pub pick_exact : (e : Expiry) (best : Option (Trigger × ℕ)) → IsBest (candidates e) best → option_map (λ row. row.0) best ≡ pick_of e
pick_exact e None none =
    sym (ap (λ (rows : List (Trigger × ℕ)). option_map (λ (row : Trigger × ℕ). row.0) (find (is_first (candidates e)) rows)) none)
pick_exact e (Some best) least = sym (ap (option_map (λ (row : Trigger × ℕ). row.0)) (least_found e best least))

pub pick_is : (e : Expiry) (best : Option (Trigger × ℕ)) → IsBest (candidates e) best → IsPick e (option_map (λ row. row.0) best)
pick_is e None none = none
pick_is e (Some best) least = (best.1, least)
