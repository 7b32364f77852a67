-- How far a pick goes up the order of a file system.
use Rattle.std.proofs.Common.{◌≡◌, ℕ, ◌+◌, ◌<◌, ◌≤◌, ◌&&◌, ◌==◌, Bool, true, false, cond, nat_lt, List, [], Option, Some, None, All, filter, length, get_or, refl, sym, ap, subst, ◌∙◌, arith}
use Rattle.std.specs.Prelude.{Contains, not, nat_le, slice_get}
use Rattle.std.specs.List.{position_or_len}
use Rattle.std.specs.Option.{option_map}
use Rattle.std.proofs.lemmas.Bool.Decides.{nat_tests}
use Rattle.std.proofs.lemmas.List.Elements.{All-filter, All-from_get_or, filter_passes}
use Rattle.std.proofs.lemmas.List.Sums.{fails_before_first, passes_at_first, position_or_len_is}
use Rattle.std.proofs.lemmas.Option.{slice_get_within, get_or_from_slice_get, slice_get_cases}
use Rattle.am_names.specs.declared.trigger.Trigger.{Trigger}
use Rattle.am_expire.specs.{is_of, is_off, is_end, no_use, IsOrder, Expiry, is_due, is_eligible, is_lesser_name, comes_before, candidates, IsLeast, IsPick, pick_of, IsBest, due_in, due_at}
use Rattle.am_expire.proofs.OrderLemmas.{filter_none}
use Rattle.am_expire.proofs.PickLemmas.{pick_is, pick_exact}
use Rattle.am_expire.proofs.TouchLemmas.{in_same, none_in_same}
use Rattle.am_expire.proofs.MayLemmas.{due, not_due, not_eligible_where_passed, eligible_where_ended, later_not_due, not_later, candidates_within, contains_filtered, none_may, not_before}

-- ---- the row at which a pick ends

abbrev first_end : Expiry → List (Trigger × ℕ) → ℕ
first_end e rows = position_or_len (is_end e) rows

passed_may_not :
    (e : Expiry) (rows : List (Trigger × ℕ)) (k : ℕ) (d : Trigger × ℕ) → k < first_end e rows →
    is_eligible e (get_or rows k d) ≡ false
passed_may_not e rows k d lt =
    not_eligible_where_passed (due e (get_or rows k d).1) (is_eligible e (get_or rows k d)) (fails_before_first (is_end e) rows k d lt)

-- it may expire: it is the least that may
least_at :
    (e : Expiry) (rows : List (Trigger × ℕ)) (row : Trigger × ℕ) → IsOrder (filter (is_of e.fs) e.triggers.uses) rows →
    first_end e rows < length rows → get_or rows (first_end e rows) row ≡ row → is_eligible e row ≡ true → IsLeast (candidates e) row
least_at e rows row order within is may =
    subst (λ (cs : List (Trigger × ℕ)). IsLeast cs row) (sym (candidates_within e))
    (contains_filtered (is_eligible e) ours row here may, least)
  where
    ours : List (Trigger × ℕ)
    ours = filter (is_of e.fs) e.triggers.uses

    at : ℕ
    at = first_end e rows

    here : Contains ours row
    here = in_same ours rows row (λ test. sym (order.same test)) (at, within, is)

    before : Trigger × ℕ → Bool
    before x = is_eligible e x && comes_before x row

    none_by : (b c : Bool) → b ≡ false → (b && c) ≡ false
    none_by true c e = absurd cc
    none_by false c e = refl

    other_by : (b c : Bool) → c ≡ false → (b && c) ≡ false
    other_by true c e = e
    other_by false c e = refl

    then_by : (b c : Bool) → (b && c) ≡ false → b ≡ true → c ≡ false
    then_by true c e f = e
    then_by false c e f = absurd cc

    by_place : (k : ℕ) → k < length rows → (b : Bool) → nat_lt k at ≡ b → before (get_or rows k row) ≡ false
    by_place k lt true less =
        none_by (is_eligible e (get_or rows k row)) (comes_before (get_or rows k row) row)
        (passed_may_not e rows k row (grind (arith, nat_tests)))
    by_place k lt false more =
        let le : at ≤ k = grind (arith, nat_tests) in
        other_by (is_eligible e (get_or rows k row)) (comes_before (get_or rows k row) row)
        (ap (comes_before (get_or rows k row)) (sym is) ∙ not_before e rows order at k row le lt)

    none : All (λ x. before x ≡ false) rows
    none = All-from_get_or (λ x. before x ≡ false) rows row (λ k lt. by_place k lt (nat_lt k at) refl)

    least : All (λ x. comes_before x row ≡ false) (filter (is_eligible e) ours)
    least k d lt =
        let may_be = filter (is_eligible e) ours in
        then_by (is_eligible e (get_or may_be k d)) (comes_before (get_or may_be k d) row)
        (All-filter (is_eligible e) (λ x. before x ≡ false) ours (none_in_same rows ours before order.same none) k d lt)
        (filter_passes (is_eligible e) ours k d lt)

-- it isn't due: none of the file system may expire
none_at :
    (e : Expiry) (rows : List (Trigger × ℕ)) (row : Trigger × ℕ) → IsOrder (filter (is_of e.fs) e.triggers.uses) rows →
    first_end e rows < length rows → get_or rows (first_end e rows) row ≡ row → due e row.1 ≡ false → candidates e ≡ []
none_at e rows row order within is late =
    none_may e rows order (All-from_get_or (λ x. is_eligible e x ≡ false) rows row (λ k lt. by_place k lt (nat_lt k at) refl))
  where
    at : ℕ
    at = first_end e rows

    by_place : (k : ℕ) → k < length rows → (b : Bool) → nat_lt k at ≡ b → is_eligible e (get_or rows k row) ≡ false
    by_place k lt true less = passed_may_not e rows k row (grind (arith, nat_tests))
    by_place k lt false more =
        let le : at ≤ k = grind (arith, nat_tests) in
        let behind : comes_before (get_or rows k row) row ≡ false = ap (comes_before (get_or rows k row)) (sym is) ∙ not_before e rows order at k row le lt in
        not_due e (get_or rows k row)
        (later_not_due e.timeout e.moment e.immediate row.1 (get_or rows k row).1
        (not_later (get_or rows k row).1 row.1 (is_lesser_name (get_or rows k row).0.name row.0.name) behind) late)

-- what a pick comes to
record Found (e : Expiry) (trigger : Option Trigger) : Type 0 where
  best : Option (Trigger × ℕ)
  least : IsBest (candidates e) best
  is : option_map (λ row. row.0) best ≡ trigger

found : (e : Expiry) (rows : List (Trigger × ℕ)) → IsOrder (filter (is_of e.fs) e.triggers.uses) rows → Found e (due_at e rows (first_end e rows))
found e rows order = by_row (slice_get rows (first_end e rows)) refl
  where
    by_due : (row : Trigger × ℕ) → slice_get rows (first_end e rows) ≡ Some row → (b : Bool) → due e row.1 ≡ b → Found e (due_at e rows (first_end e rows))
    by_due row at true is =
        let within = slice_get_within rows (first_end e rows) row at in
        let here = get_or_from_slice_get rows (first_end e rows) row row at in
        let ends : is_end e row ≡ true = ap (is_end e) (sym here) ∙ passes_at_first (is_end e) rows row within in
        record {
          best = Some row;
          least = least_at e rows row order within here (eligible_where_ended (due e row.1) (is_eligible e row) ends is);
          is = sym (ap (due_in e) at ∙ ap (λ (b : Bool). cond b (Some row.0) None) is);
        }
    by_due row at false is =
        let within = slice_get_within rows (first_end e rows) row at in
        let here = get_or_from_slice_get rows (first_end e rows) row row at in
        record {
          best = None;
          least = none_at e rows row order within here is;
          is = sym (ap (due_in e) at ∙ ap (λ (b : Bool). cond b (Some row.0) None) is);
        }

    by_row : (o : Option (Trigger × ℕ)) → slice_get rows (first_end e rows) ≡ o → Found e (due_at e rows (first_end e rows))
    by_row None at =
        let le : length rows ≤ first_end e rows = grind (arith, slice_get_cases) in
        record {
          best = None;
          least = none_may e rows order (λ k d lt. passed_may_not e rows k d (omega arith));
          is = sym (ap (due_in e) at);
        }
    by_row (Some row) at = by_due row at (due e row.1) refl

pub pick_up : (e : Expiry) (rows : List (Trigger × ℕ)) → IsOrder (filter (is_of e.fs) e.triggers.uses) rows → IsPick e (due_at e rows (position_or_len (is_end e) rows))
pick_up e rows order =
    let one = found e rows order in
    subst (IsPick e) one.is (pick_is e one.best one.least)

pub exact_up : (e : Expiry) (rows : List (Trigger × ℕ)) → IsOrder (filter (is_of e.fs) e.triggers.uses) rows → due_at e rows (position_or_len (is_end e) rows) ≡ pick_of e
exact_up e rows order =
    let one = found e rows order in
    sym one.is ∙ pick_exact e one.best one.least

-- ---- without a timeout

off_due : (timeout moment : ℕ) (now : Bool) (last : ℕ) → (not now && timeout == 0) ≡ true → is_due timeout moment now last ≡ false
off_due timeout moment true last e = absurd cc
off_due timeout moment false last e = by_test (nat_lt 0 timeout) refl
  where
    by_test : (b : Bool) → nat_lt 0 timeout ≡ b → (b && nat_le (last + timeout) moment) ≡ false
    by_test true f = absurd (grind (arith, nat_tests))
    by_test false f = refl

pub none_off : (e : Expiry) → is_off e ≡ true → candidates e ≡ []
none_off e off =
    filter_none (is_eligible e) e.triggers.uses (λ k d lt.
    let row = get_or e.triggers.uses k d in
    not_due e row (off_due e.timeout e.moment e.immediate row.1 off))

pub exact_off : (e : Expiry) → is_off e ≡ true → None ≡ pick_of e
exact_off e off = pick_exact e None (none_off e off)

-- ---- the way up

pub ends_here :
    (e : Expiry) (rows : List (Trigger × ℕ)) (index : ℕ) → index < length rows →
    ((k : ℕ) → k < index → is_end e (get_or rows k no_use) ≡ false) →
    is_end e (get_or rows index no_use) ≡ true → index ≡ position_or_len (is_end e) rows
ends_here e rows index within passed ends =
    sym (position_or_len_is (is_end e) rows index no_use (omega arith) passed (λ lt. ends))

pub passed_more :
    (e : Expiry) (rows : List (Trigger × ℕ)) (index : ℕ) →
    ((k : ℕ) → k < index → is_end e (get_or rows k no_use) ≡ false) →
    is_end e (get_or rows index no_use) ≡ false →
    (k : ℕ) → k < index + 1 → is_end e (get_or rows k no_use) ≡ false
passed_more e rows index passed on k lt = by_test (nat_lt k index) refl
  where
    by_test : (b : Bool) → nat_lt k index ≡ b → is_end e (get_or rows k no_use) ≡ false
    by_test true less = passed k (grind (arith, nat_tests))
    by_test false same =
        let is : k ≡ index = grind (arith, nat_tests) in
        ap (λ (n : ℕ). is_end e (get_or rows n no_use)) is ∙ on

pub passed_all :
    (e : Expiry) (rows : List (Trigger × ℕ)) (len index : ℕ) → len ≡ length rows → len ≤ index →
    ((k : ℕ) → k < index → is_end e (get_or rows k no_use) ≡ false) →
    len ≡ position_or_len (is_end e) rows
passed_all e rows len index long le passed =
    sym (position_or_len_is (is_end e) rows len no_use (omega (arith, long)) (λ k lt. passed k (omega arith)) (λ lt. absurd (omega (arith, long, lt))))
