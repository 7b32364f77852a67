-- The order of last uses: it is total, and it stays one with a row more or less.
use Rattle.std.proofs.Common.{◌≡◌, ◌<◌, ◌≤◌, ◌+◌, ◌-◌, ℕ, Bool, true, false, cond, ◌==◌, nat_lt, List, [], ◌∷◌, ◌++◌, length, get_or, take, drop, filter, All, Option, Some, None, refl, sym, ap, ◌∙◌, arith, append-nil}
use Rattle.std.specs.Prelude.{Contains}
use Rattle.std.specs.declared.cmp.Ordering.{Ordering}
use Rattle.std.specs.declared.cmp.Ordering.TheVariants.{Less, Equal, Greater}
use Rattle.std.specs.Ordering.{is_lt, nat_cmp, ordering_then, ordering_reverse}
use Rattle.std.specs.Option.{option_cmp}
use Rattle.std.specs.Cmp.{IsTotalOrder, tied_itself}
use Rattle.std.specs.Cmp.Lexicographic.{slice_cmp, nat_list_cmp_total, options_total}
use Rattle.std.specs.List.{insert, remove}
use Rattle.std.specs.List.Sorted.{IsSorted, IsNonDecreasingBy, IsPartitionedBy, IsPartitionPoint}
use Rattle.std.proofs.lemmas.Cmp.{then_total, on_total, nat_cmp_total}
use Rattle.std.proofs.lemmas.Bool.Decides.{nat_tests}
use Rattle.std.proofs.lemmas.List.Edits.{length-insert, length-remove, get_or-insert_at, get_or-insert_below, get_or-insert_above, get_or-remove_below, get_or-remove_above}
use Rattle.std.proofs.lemmas.List.Elements.{All-head, All-tail, filter-append}
use Rattle.std.proofs.lemmas.List.{take-append-drop, get_or-take, get_or-drop, length-take-le, length-drop, drop-drop}
use Rattle.std.proofs.lemmas.List.Sorted.{sorted_far, ranks_by}
use Rattle.std.proofs.lemmas.Map.Lookups.{exact_bytes}
use Rattle.am_names.specs.declared.trigger.Trigger.{Trigger}
use Rattle.am_expire.specs.{use_cmp, is_of}

-- ---- the order of two rows

pub use_total : IsTotalOrder use_cmp
use_total =
    then_total (on_total {K = Trigger × ℕ} (λ row. row.0.fs) nat_cmp_total)
    (then_total (on_total {K = Trigger × ℕ} (λ row. row.1) nat_cmp_total)
    (on_total {K = Trigger × ℕ} (λ row. row.0.name) (options_total nat_list_cmp_total)))

abbrev pub is_before : Trigger × ℕ → Trigger × ℕ → Bool
is_before row other = is_lt (use_cmp row other)

-- one isn't before another that isn't before a third: nor is it before that
not_before_both : (a b c : Trigger × ℕ) → is_before a b ≡ false → is_before b c ≡ false → is_before a c ≡ false
not_before_both = (ranks_by use_total (λ (x : Trigger × ℕ). x)).chain

one_way : (a b : Trigger × ℕ) → is_before a b ≡ true → is_before b a ≡ false
one_way = (ranks_by use_total (λ (x : Trigger × ℕ). x)).one_way

both_equal : (r s : Ordering) → ordering_then r s ≡ Equal → (r ≡ Equal) × (s ≡ Equal)
both_equal Less s e = absurd cc
both_equal Equal s e = (refl, e)
both_equal Greater s e = absurd cc

equal_numbers : (m n : ℕ) → nat_cmp m n ≡ Equal → m ≡ n
equal_numbers m n e = by_tests (nat_lt m n) (m == n) refl refl e
  where
    by_tests : (a b : Bool) → nat_lt m n ≡ a → (m == n) ≡ b → cond a Less (cond b Equal Greater) ≡ Equal → m ≡ n
    by_tests true b p q e = absurd cc
    by_tests false true p q e = grind (arith, nat_tests)
    by_tests false false p q e = absurd cc

equal_names : (a b : Option (List ℕ)) → option_cmp (slice_cmp nat_cmp) a b ≡ Equal → a ≡ b
equal_names None None e = refl
equal_names None (Some y) e = absurd cc
equal_names (Some x) None e = absurd cc
equal_names (Some x) (Some y) e = ap Some (exact_bytes x y e)

-- rows that are tied are the same
pub use_exact : (a b : Trigger × ℕ) → use_cmp a b ≡ Equal → a ≡ b
use_exact a b e =
    let one = both_equal (nat_cmp a.0.fs b.0.fs) _ e in
    let two = both_equal (nat_cmp a.1 b.1) _ one.1 in
    let row : ℕ → Option (List ℕ) → ℕ → Trigger × ℕ = λ (n : ℕ) (o : Option (List ℕ)) (m : ℕ). (record { fs = n; name = o }, m) in
    ap (λ (n : ℕ). row n a.0.name a.1) (equal_numbers a.0.fs b.0.fs one.0)
    ∙ ap (λ (o : Option (List ℕ)). row b.0.fs o a.1) (equal_names a.0.name b.0.name two.1)
    ∙ ap (λ (m : ℕ). row b.0.fs b.0.name m) (equal_numbers a.1 b.1 two.0)

-- ---- rows in order

-- a row isn't before one that it stands behind
pub far : (rows : List (Trigger × ℕ)) → IsSorted use_cmp rows → (i j : ℕ) (d : Trigger × ℕ) → i ≤ j → j < length rows → is_before (get_or rows j d) (get_or rows i d) ≡ false
far rows up = sorted_far is_before (ranks_by use_total (λ (x : Trigger × ℕ). x)) rows up

-- so many rows come before this one
abbrev pub IsRank : List (Trigger × ℕ) → Trigger × ℕ → ℕ → Type 0
IsRank rows row at =
    IsPartitionPoint (λ x. is_before x row ≡ true) (λ x. is_before x row ≡ false) rows at

pub ranked : (rows : List (Trigger × ℕ)) (row : Trigger × ℕ) → IsSorted use_cmp rows → IsPartitionedBy (λ x. is_before x row) rows
ranked rows row up i j d le lt before =
    by_test (is_before (get_or rows i d) row) refl
  where
    by_test : (b : Bool) → is_before (get_or rows i d) row ≡ b → b ≡ true
    by_test true e = refl
    by_test false e =
        absurd (let h = not_before_both (get_or rows j d) (get_or rows i d) row (far rows up i j d le lt) e in cc)

not_less : (m n : ℕ) (r : Ordering) → is_lt (ordering_then (nat_cmp m n) r) ≡ false → n ≤ m
not_less m n r e = by_test (nat_lt m n) refl e
  where
    by_test : (b : Bool) → nat_lt m n ≡ b → is_lt (ordering_then (cond b Less (cond (m == n) Equal Greater)) r) ≡ false → n ≤ m
    by_test true p e = absurd cc
    by_test false p e = grind (arith, nat_tests)

pub fs_rises : (rows : List (Trigger × ℕ)) → IsSorted use_cmp rows → IsNonDecreasingBy (λ (x : Trigger × ℕ). x.0.fs) rows
fs_rises rows up i j d le lt = not_less _ _ _ (far rows up i j d le lt)

-- ---- a row more

insert_length : (rows : List (Trigger × ℕ)) (at k : ℕ) (row : Trigger × ℕ) → at ≤ length rows → k + 1 < length (insert rows at row) → k < length rows
insert_length rows at k row within high = let e = length-insert rows at row within in omega arith

pub sorted_insert :
    (rows : List (Trigger × ℕ)) (at : ℕ) (row : Trigger × ℕ) → IsSorted use_cmp rows → at ≤ length rows →
    IsRank rows row at →
    IsSorted use_cmp (insert rows at row)
sorted_insert rows at row up within parts k d low high =
    by_place (nat_lt (k + 1) at) (nat_lt k at) (nat_lt at k) refl refl refl (insert_length rows at k row within high)
  where
    goal_at : Trigger × ℕ → Trigger × ℕ → Type 0
    goal_at x y = is_before x y ≡ false

    by_place :
        (a b c : Bool) → nat_lt (k + 1) at ≡ a → nat_lt k at ≡ b → nat_lt at k ≡ c → k < length rows →
        is_before (get_or (insert rows at row) (k + 1) d) (get_or (insert rows at row) k d) ≡ false
    by_place true b c p q r lt =
        let below : k + 1 < at = grind (arith, nat_tests) in
        rw (get_or-insert_below rows at row d (k + 1) below within, get_or-insert_below rows at row d k (omega arith) within)
        (far rows up k (k + 1) d (omega arith) (omega arith))
    by_place false true c p q r lt =
        let is : k + 1 ≡ at = grind (arith, nat_tests) in
        let below : k < at = omega arith in
        let here : get_or (insert rows at row) (k + 1) d ≡ row = ap (λ (n : ℕ). get_or (insert rows at row) n d) is ∙ get_or-insert_at rows at row d within in
        rw (here, get_or-insert_below rows at row d k below within)
        (one_way (get_or rows k d) row (parts.0 k d (omega arith) below))
    by_place false false true p q r lt =
        let above : at < k = grind (arith, nat_tests) in
        let is : k ≡ k - 1 + 1 = omega arith in
        let there : get_or (insert rows at row) k d ≡ get_or rows (k - 1) d = ap (λ (n : ℕ). get_or (insert rows at row) n d) is ∙ get_or-insert_above rows at row d (k - 1) (omega arith) within in
        rw (get_or-insert_above rows at row d k (omega arith) within, there)
        (far rows up (k - 1) k d (omega arith) lt)
    by_place false false false p q r lt =
        let is : k ≡ at = grind (arith, nat_tests) in
        let here : get_or (insert rows at row) k d ≡ row = ap (λ (n : ℕ). get_or (insert rows at row) n d) is ∙ get_or-insert_at rows at row d within in
        rw (get_or-insert_above rows at row d k (omega arith) within, here)
        (parts.1 k d (omega arith) lt)

-- ---- a row less

pub sorted_remove : (rows : List (Trigger × ℕ)) (at : ℕ) → at < length rows → IsSorted use_cmp rows → IsSorted use_cmp (remove rows at)
sorted_remove rows at within up k d low high =
    let e = length-remove rows at within in
    by_place (nat_lt (k + 1) at) (nat_lt k at) refl refl (omega arith)
  where
    by_place :
        (a b : Bool) → nat_lt (k + 1) at ≡ a → nat_lt k at ≡ b → k + 1 + 1 < length rows →
        is_before (get_or (remove rows at) (k + 1) d) (get_or (remove rows at) k d) ≡ false
    by_place true b p q lt =
        let below : k + 1 < at = grind (arith, nat_tests) in
        rw (get_or-remove_below rows at d (k + 1) below within, get_or-remove_below rows at d k (omega arith) within)
        (far rows up k (k + 1) d (omega arith) (omega arith))
    by_place false true p q lt =
        let is : k + 1 ≡ at = grind (arith, nat_tests) in
        rw (get_or-remove_above rows at d (k + 1) (omega arith) within, get_or-remove_below rows at d k (omega arith) within)
        (far rows up k (k + 1 + 1) d (omega arith) lt)
    by_place false false p q lt =
        let above : at ≤ k = grind (arith, nat_tests) in
        rw (get_or-remove_above rows at d (k + 1) (omega arith) within, get_or-remove_above rows at d k above within)
        (far rows up (k + 1) (k + 1 + 1) d (omega arith) lt)

-- ---- where a row stands

tied_where_neither_before : (a b : Trigger × ℕ) (r : Ordering) → use_cmp a b ≡ r → is_lt r ≡ false → is_before b a ≡ false → r ≡ Equal
tied_where_neither_before a b Less e p q = absurd cc
tied_where_neither_before a b Equal e p q = refl
tied_where_neither_before a b Greater e p q = absurd (let h : is_before b a ≡ true = ap is_lt (use_total.antisymm b a ∙ ap ordering_reverse e) in cc)

-- of two rows that don't come before one another both are the same
pub same_use : (a b : Trigger × ℕ) → is_before a b ≡ false → is_before b a ≡ false → a ≡ b
same_use a b p q = let e = tied_where_neither_before a b (use_cmp a b) refl p q in use_exact a b e

pub not_before_itself : (row : Trigger × ℕ) → is_before row row ≡ false
not_before_itself row = ap is_lt (tied_itself use_total row)

-- a row that is there stands behind those before it
pub stands :
    (rows : List (Trigger × ℕ)) (row : Trigger × ℕ) (at : ℕ) → IsSorted use_cmp rows →
    IsRank rows row at →
    Contains rows row → (at < length rows) × (get_or rows at row ≡ row)
stands rows row at up parts there =
    let k = there.0 in
    let is : get_or rows k row ≡ row = there.2 in
    let itself : is_before (get_or rows k row) row ≡ false = ap (λ (x : Trigger × ℕ). is_before x row) is ∙ not_before_itself row in
    let le : at ≤ k = by_test (nat_lt k at) refl itself in
    let within : at < length rows = omega (arith, there.1) in
    let behind : is_before row (get_or rows at row) ≡ false = ap (λ (x : Trigger × ℕ). is_before x (get_or rows at row)) (sym is) ∙ far rows up at k row le there.1 in
    (within, same_use (get_or rows at row) row (parts.1 at row (omega arith) within) behind)
  where
    by_test : (b : Bool) → nat_lt there.0 at ≡ b → is_before (get_or rows there.0 row) row ≡ false → at ≤ there.0
    by_test true e itself =
        let lt : there.0 < at = grind (arith, nat_tests) in
        absurd (let h : is_before (get_or rows there.0 row) row ≡ true = parts.0 there.0 row (omega arith) lt in cc)
    by_test false e itself = grind (arith, nat_tests)

-- ---- the rows of a file system

pub filter_none : {X : Type 0} (p : X → Bool) (xs : List X) → All (λ x. p x ≡ false) xs → filter p xs ≡ []
filter_none p [] none = refl
filter_none p (x ∷ xs) none =
    rw (All-head (λ x. p x ≡ false) x xs none) (filter_none p xs (All-tail (λ x. p x ≡ false) x xs none))

pub filter_whole : {X : Type 0} (p : X → Bool) (xs : List X) → All (λ x. p x ≡ true) xs → filter p xs ≡ xs
filter_whole {X} p [] all = refl
filter_whole {X} p (x ∷ xs) all =
    rw (All-head (λ x. p x ≡ true) x xs all) (ap (λ (ys : List X). x ∷ ys) (filter_whole p xs (All-tail (λ x. p x ≡ true) x xs all)))

abbrev pub IsStart : List (Trigger × ℕ) → ℕ → ℕ → Type 0
IsStart rows fs at = IsPartitionPoint {X = Trigger × ℕ} (λ x. x.0.fs < fs) (λ x. fs ≤ x.0.fs) rows at

abbrev pub IsEnd : List (Trigger × ℕ) → ℕ → ℕ → Type 0
IsEnd rows fs at = IsPartitionPoint {X = Trigger × ℕ} (λ x. x.0.fs ≤ fs) (λ x. fs < x.0.fs) rows at

pub start_end : (rows : List (Trigger × ℕ)) (fs low high : ℕ) → low ≤ length rows → IsStart rows fs low → IsEnd rows fs high → low ≤ high
start_end rows fs low high within begins ends = by_test (nat_lt high low) refl
  where
    none : Trigger × ℕ
    none = (record { fs = 0; name = None }, 0)

    by_test : (b : Bool) → nat_lt high low ≡ b → low ≤ high
    by_test true e =
        let lt : high < low = grind (arith, nat_tests) in
        let less : (get_or rows high none).0.fs < fs = begins.0 high none (omega arith) lt in
        let more : fs < (get_or rows high none).0.fs = ends.1 high none (omega arith) (omega arith) in
        absurd (omega arith)
    by_test false e = grind (arith, nat_tests)

pub run_of :
    (rows : List (Trigger × ℕ)) (fs low high : ℕ) → low ≤ high → high ≤ length rows →
    IsStart rows fs low → IsEnd rows fs high → take (high - low) (drop low rows) ≡ filter (is_of fs) rows
run_of rows fs low high le within begins ends =
    let front : filter (is_of fs) (take low rows) ≡ [] = filter_none (is_of fs) (take low rows) (λ k d lt.
    let lt2 : k < low = omega (arith, length-take-le low rows (omega arith)) in
    let less : (get_or (take low rows) k d).0.fs < fs = rw (get_or-take low rows k d lt2) (begins.0 k d (omega arith) lt2) in
    grind (arith, nat_tests)) in
    let back : filter (is_of fs) (drop high rows) ≡ [] = filter_none (is_of fs) (drop high rows) (λ k d lt.
    let more : fs < (get_or (drop high rows) k d).0.fs = rw (get_or-drop high rows k d) (ends.1 (high + k) d (omega arith) (omega (arith, length-drop high rows))) in
    grind (arith, nat_tests)) in
    let mid = take (high - low) (drop low rows) in
    let middle : filter (is_of fs) mid ≡ mid = filter_whole (is_of fs) mid (λ k d lt.
    let lt2 : k < high - low = omega (arith, length-take-le (high - low) (drop low rows) (omega (arith, length-drop low rows))) in
    let at : get_or mid k d ≡ get_or rows (low + k) d = get_or-take (high - low) (drop low rows) k d lt2 ∙ get_or-drop low rows k d in
    let from : fs ≤ (get_or mid k d).0.fs = rw at (begins.1 (low + k) d (omega arith) (omega arith)) in
    let up_to : (get_or mid k d).0.fs ≤ fs = rw at (ends.0 (low + k) d (omega arith) (omega arith)) in
    grind (arith, nat_tests)) in
    let parts : take low rows ++ (mid ++ drop high rows) ≡ rows =
    ap (λ (ys : List (Trigger × ℕ)). take low rows ++ (mid ++ ys)) (ap (λ (n : ℕ). drop n rows) (omega arith) ∙ sym (drop-drop (high - low) low rows))
    ∙ ap (λ (ys : List (Trigger × ℕ)). take low rows ++ ys) (take-append-drop (high - low) (drop low rows))
    ∙ take-append-drop low rows in
    sym (ap (filter (is_of fs)) (sym parts)
    ∙ filter-append (is_of fs) (take low rows) (mid ++ drop high rows)
    ∙ ap (λ (ys : List (Trigger × ℕ)). filter (is_of fs) (take low rows) ++ ys) (filter-append (is_of fs) mid (drop high rows))
    ∙ rw (front, middle, back) (append-nil mid))
