-- Positions of receipts: how often each stands, and where they rise.
use Rattle.std.proofs.Common.{◌≡◌, ℕ, zero, suc, ◌+◌, ◌-◌, ◌<◌, ◌≤◌, ◌==◌, List, [], ◌∷◌, ◌++◌}
use Rattle.std.proofs.Common.{drop, length, Some, slice_get, Bool, true, false, refl, sym, ap, ◌∙◌}
use Rattle.std.proofs.Common.{subst, arith, rules, get_or, ltb, inl, inr, ◌⊎◌, ⊎_elim}
use Rattle.std.specs.Prelude.{◌↔◌, IsTrue, Option, if◌then◌else◌, nat_le, option_to_list}
use Rattle.std.specs.List.Sorted.{IsNonDecreasingBy, IsPartitionPoint}
use Rattle.std.proofs.lemmas.Bool.Decides.{nat_tests}
use Rattle.am_machine.specs.{Entry}
use Rattle.am_shared.specs.{Account, Receipt, Agrees, AgreesLeft, AllAgree, AllAgreeLeft, EachAgree, EachAgreeLeft}
use Rattle.am_shared.specs.{Rise, EachRise, times, times_in, count_in, AtMostOnce, AllAway, Matches}

not_true : IsTrue false → ⊥
not_true t = absurd (search rules)

-- ---- positions that rise

-- none stands up to where they begin
pub times_low : (low k : ℕ) (rs : List Receipt) → Rise low rs → k ≤ low → times k rs ≡ 0
times_low low k [] h le = refl
times_low low k (r ∷ rs) h le =
    let rest : times k rs ≡ 0 = times_low r.position k rs h.1 (omega arith) in grind (arith, nat_tests)

-- each stands once at most
pub times_once : (low k : ℕ) (rs : List Receipt) → Rise low rs → times k rs ≤ 1
times_once low k [] h = omega arith
times_once low k (r ∷ rs) h =
    let rest : times k rs ≤ 1 = times_once r.position k rs h.1 in
    let none : k ≤ r.position → times k rs ≡ 0 = λ le. times_low r.position k rs h.1 le in
    grind (arith, nat_tests)

later_position_is_higher : (low : ℕ) (rs : List Receipt) → Rise low rs → (j : ℕ) (d : Receipt) → j < length rs
    → low < (get_or rs j d).position
later_position_is_higher low [] h j d lt = absurd (omega arith)
later_position_is_higher low (r ∷ rs) h zero d lt = h.0
later_position_is_higher low (r ∷ rs) h (suc j) d lt =
    let more = later_position_is_higher r.position rs h.1 j d (omega arith) in omega arith

pub rise_sorted : (low : ℕ) (rs : List Receipt) → Rise low rs
    → IsNonDecreasingBy (λ (r : Receipt). r.position) rs
rise_sorted low [] h i j d le lt = absurd (omega arith)
rise_sorted low (r ∷ rs) h zero zero d le lt = omega arith
rise_sorted low (r ∷ rs) h zero (suc j) d le lt =
    let more = later_position_is_higher r.position rs h.1 j d (omega arith) in omega arith
rise_sorted low (r ∷ rs) h (suc i) zero d le lt = absurd (omega arith)
rise_sorted low (r ∷ rs) h (suc i) (suc j) d le lt =
    rise_sorted r.position rs h.1 i j d (omega arith) (omega arith)

-- where those before this place are lower, and the one there isn't, the position is there or nowhere
stands_at : (low k : ℕ) (rs : List Receipt) (at : ℕ) (r : Receipt) → Rise low rs
    → ((i : ℕ) (d : Receipt) → i < at → (get_or rs i d).position < k)
    → at < length rs → r ≡ get_or rs at r → k ≤ r.position
    → times k rs ≡ (if r.position == k then 1 else 0)
stands_at low k [] at r h before lt is le = absurd (omega arith)
stands_at low k (x ∷ rs) zero r h before lt is le =
    let p : r.position ≡ x.position = ap (λ (y : Receipt). y.position) is in
    let rest : times k rs ≡ 0 = times_low x.position k rs h.1 (omega arith) in
    grind (arith, nat_tests)
stands_at low k (x ∷ rs) (suc at) r h before lt is le =
    let lower : x.position < k = before 0 x (omega arith) in
    let rest =
    stands_at x.position k rs at r h.1 (λ i d le. before (suc i) d (omega arith)) (omega arith) is le in
    let none : times k (x ∷ rs) ≡ times k rs = grind (arith, nat_tests) in
    none ∙ rest

-- where all are lower, it is nowhere
stands_nowhere : (k : ℕ) (rs : List Receipt) (at : ℕ)
    → ((i : ℕ) (d : Receipt) → i < at → (get_or rs i d).position < k)
    → length rs ≤ at → times k rs ≡ 0
stands_nowhere k [] at before le = refl
stands_nowhere k (x ∷ rs) zero before le = absurd (omega arith)
stands_nowhere k (x ∷ rs) (suc at) before le =
    let lower : x.position < k = before 0 x (omega arith) in
    let rest =
    stands_nowhere k rs at (λ i d lt. before (suc i) d (omega arith)) (omega arith) in
    grind (arith, nat_tests)

-- what a search by this position tells
abbrev pub IsPlace : ℕ → List Receipt → ℕ → Type 0
IsPlace k rs at = IsPartitionPoint (λ (r : Receipt). ltb r.position k ≡ true)
    (λ (r : Receipt). ltb r.position k ≡ false) rs at

lower_at : (n k : ℕ) → ltb n k ≡ true → n < k
lower_at n k is = grind (arith, nat_tests)

higher_at : (n k : ℕ) → ltb n k ≡ false → k ≤ n
higher_at n k is = grind (arith, nat_tests)

all_lower : (k : ℕ) (rs : List Receipt) (at : ℕ) → IsPlace k rs at
    → (i : ℕ) (d : Receipt) → i < at → (get_or rs i d).position < k
all_lower k rs at place i d lt = lower_at (get_or rs i d).position k (place.0 i d (omega arith) lt)

counted_once : (n k : ℕ) → IsTrue (n == k) ↔ 0 < (if n == k then 1 else 0)
counted_once n k = ((λ t. grind (arith, nat_tests)), λ lt. grind (arith, nat_tests))

pub found_at : (k : ℕ) (rs : List Receipt) (at : ℕ) (r : Receipt) → Rise 0 rs → IsPlace k rs at
    → at < length rs → r ≡ get_or rs at r → IsTrue (r.position == k) ↔ 0 < times k rs
found_at k rs at r rise place lt is =
    let high : k ≤ (get_or rs at r).position =
    higher_at (get_or rs at r).position k (place.1 at r (omega arith) lt) in
    let high-r : k ≤ r.position = subst (λ (x : Receipt). k ≤ x.position) (sym is) high in
    let e = stands_at 0 k rs at r rise (all_lower k rs at place) lt is high-r in
    subst (λ (n : ℕ). IsTrue (r.position == k) ↔ 0 < n) (sym e) (counted_once r.position k)

pub found_nowhere : (k : ℕ) (rs : List Receipt) (at : ℕ) → IsPlace k rs at → length rs ≤ at
    → IsTrue false ↔ 0 < times k rs
found_nowhere k rs at place le =
    let none = stands_nowhere k rs at (all_lower k rs at place) le in
    ((λ t. absurd (not_true t)), λ lt. absurd (omega arith))

-- ---- at most once

-- which of two tests comes out
true_or_false : (b : Bool) → (b ≡ true) ⊎ (b ≡ false)
true_or_false true = inl refl
true_or_false false = inr refl

away_at : (k : ℕ) (rs : List Receipt) (rest : List Account) → AllAway rs rest
    → 0 < times k rs → times_in k rest ≡ 0
away_at k [] rest h lt = absurd (omega arith)
away_at k (r ∷ rs) rest h lt = ⊎_elim
    (λ (is : (r.position == k) ≡ true).
    let same : r.position ≡ k = grind (arith, nat_tests) in
    subst (λ (n : ℕ). times_in n rest ≡ 0) same h.0)
    (λ (not : (r.position == k) ≡ false).
    let more : 0 < times k rs = grind (arith, nat_tests) in away_at k rs rest h.1 more)
    (true_or_false (r.position == k))

all_away_from : (rs : List Receipt) (all : Account) (rest : List Account)
    → ((k : ℕ) → times k rs ≤ times k all.receipts) → AtMostOnce (all ∷ rest) → AllAway rs rest
all_away_from [] all rest some h = tt
all_away_from (r ∷ rs) all rest some h =
    let here : 0 < times r.position (r ∷ rs) = grind (arith, nat_tests) in
    let less : (k : ℕ) → times k rs ≤ times k all.receipts =
    λ k. let one = some k in grind (arith, nat_tests) in
    (omega (arith, here, some r.position, h r.position), all_away_from rs all rest less h)

one_at_most_of_two : (m n : ℕ) → m ≤ 1 → n ≤ 1 → (0 < m → n ≡ 0) → m + n ≤ 1
one_at_most_of_two zero n p q h = omega arith
one_at_most_of_two (suc m) n p q h = let none : n ≡ 0 = h (omega arith) in omega arith

-- no position stands twice where none of the first caller's stands in the others' receipts, and none
-- stands twice in these
pub once_split : (c : Account) (rest : List Account) → Rise 0 c.receipts
    → AtMostOnce (c ∷ rest) ↔ AllAway c.receipts rest × AtMostOnce rest
once_split c rest rise = (
  (λ h. (all_away_from c.receipts c rest (λ k. omega arith) h, λ k. let all = h k in omega arith)),
  (λ h k.
      let rs = c.receipts in
      let mine : times k rs ≤ 1 = times_once 0 k rs rise in
      let theirs : times_in k rest ≤ 1 = h.1 k in
      one_at_most_of_two (times k rs) (times_in k rest) mine theirs (away_at k rs rest h.0)),
)

-- ---- one caller more

-- all, of whom the last is apart
pub all_but_last : (all front : List Account) (popped : Option Account) (last : Account)
    → all ≡ front ++ option_to_list popped → popped ≡ Some last → all ≡ front ++ last ∷ []
all_but_last all front popped last is was = is ∙ ap (λ o. front ++ option_to_list o) was

pub agree_front : (n : ℕ) (h : List Entry) (xs : List Account) (x : Account)
    → EachAgreeLeft n h (xs ++ x ∷ []) → EachAgreeLeft n h xs
agree_front n h [] x e = tt
agree_front n h (y ∷ ys) x e = (e.0, agree_front n h ys x e.1)

pub agree_last : (n : ℕ) (h : List Entry) (xs : List Account) (x : Account)
    → EachAgreeLeft n h (xs ++ x ∷ []) → AllAgreeLeft n h x.receipts
agree_last n h [] x e = e.0
agree_last n h (y ∷ ys) x e = agree_last n h ys x e.1

-- ---- what is left of a history

found_left : (h : List Entry) (taken k : ℕ) (e : Entry) → slice_get h (taken + k) ≡ Some e
    → slice_get (drop taken h) k ≡ Some e
found_left h zero k e is = let same : k ≡ 0 + k = omega arith in ap (slice_get h) same ∙ is
found_left [] (suc taken) k e is = absurd (cc is)
found_left (x ∷ xs) (suc taken) k e is =
    let next : suc (taken + k) ≡ suc taken + k = omega arith in
    found_left xs taken k e (ap (slice_get (x ∷ xs)) next ∙ is)

-- a receipt that agrees with the history does so with what is left of it
agrees_left : (h : List Entry) (taken : ℕ) (r : Receipt) → Agrees h r → AgreesLeft taken (drop taken h) r
agrees_left h taken r a = (
  a.0,
  λ lt. found_left h taken (r.position - 1 - taken) _
      (ap (slice_get h) (omega (arith, lt, a.0)) ∙ a.1),
)

all_agree_left : (h : List Entry) (taken : ℕ) (rs : List Receipt) → AllAgree h rs → AllAgreeLeft taken (drop taken h) rs
all_agree_left h taken [] a = tt
all_agree_left h taken (r ∷ rs) a = (agrees_left h taken r a.0, all_agree_left h taken rs a.1)

pub each_agree_left : (h : List Entry) (taken : ℕ) (callers : List Account) → EachAgree h callers
    → EachAgreeLeft taken (drop taken h) callers
each_agree_left h taken [] a = tt
each_agree_left h taken (c ∷ rest) a = (all_agree_left h taken c.receipts a.0, each_agree_left h taken rest a.1)

-- a part that fails refuses the whole
pub refuses : {A B : Type 0} (b : Bool) → (IsTrue b ↔ A) → b ≡ false → (B → A) → IsTrue false ↔ B
refuses b i e f = ((λ t. absurd (not_true t)), λ m. subst IsTrue e (i.1 (f m)))

-- ---- as many receipts as the history has places, each at one of them, and none twice

-- how often the positions from 1 to n stand, added up
abbrev times_to : ℕ → List Account → ℕ
times_to zero callers = 0
times_to (suc n) callers = times_to n callers + times_in (suc n) callers

abbrev own_to : ℕ → List Receipt → ℕ
own_to zero rs = 0
own_to (suc n) rs = own_to n rs + times (suc n) rs

own_none : (n : ℕ) → own_to n [] ≡ 0
own_none zero = refl
own_none (suc n) = let r = own_none n in omega arith

-- a receipt counts once among the positions that reach as far as its own
own_cons : (n : ℕ) (r : Receipt) (rs : List Receipt) → 0 < r.position
    → own_to n (r ∷ rs) ≡ (if nat_le r.position n then 1 else 0) + own_to n rs
own_cons zero r rs lt = grind (arith, nat_tests)
own_cons (suc n) r rs lt = let more = own_cons n r rs lt in grind (arith, nat_tests)

position_within : (h : List Entry) (r : Receipt) → Agrees h r → r.position ≤ length h
position_within h r a = reaches h (r.position - 1) r.position _ a.1 (omega (arith, a.0))
  where
    reaches : (h : List Entry) (at n : ℕ) (e : Entry) → slice_get h at ≡ Some e → n ≡ suc at
        → n ≤ length h
    reaches [] at n e is same = absurd (cc is)
    reaches (x ∷ xs) zero n e is same = omega arith
    reaches (x ∷ xs) (suc at) n e is same =
        let r = reaches xs at (suc at) e is refl in omega arith

own_all : (h : List Entry) (rs : List Receipt) → AllAgree h rs → own_to (length h) rs ≡ length rs
own_all h [] a = own_none (length h)
own_all h (r ∷ rs) a =
    let cons = own_cons (length h) r rs a.0.0 in
    let far : r.position ≤ length h = position_within h r a.0 in
    let rest = own_all h rs a.1 in grind (arith, nat_tests)

times_cons : (n : ℕ) (c : Account) (rest : List Account)
    → times_to n (c ∷ rest) ≡ own_to n c.receipts + times_to n rest
times_cons zero c rest = refl
times_cons (suc n) c rest = let r = times_cons n c rest in omega arith

times_none : (n : ℕ) → times_to n [] ≡ 0
times_none zero = refl
times_none (suc n) = let r = times_none n in omega arith

times_all : (h : List Entry) (callers : List Account) → EachAgree h callers
    → times_to (length h) callers ≡ count_in callers
times_all h [] a = times_none (length h)
times_all h (c ∷ rest) a =
    omega (arith, times_cons (length h) c rest, own_all h c.receipts a.0, times_all h rest a.1)

times_most : (n : ℕ) (callers : List Account) → AtMostOnce callers → times_to n callers ≤ n
times_most zero callers once = omega arith
times_most (suc n) callers once =
    let r = times_most n callers once in let o = once (suc n) in omega arith

each_once_where_all_stand : (n : ℕ) (callers : List Account) → AtMostOnce callers → times_to n callers ≡ n
    → (k : ℕ) → k < n → times_in (k + 1) callers ≡ 1
each_once_where_all_stand zero callers once all k lt = absurd (omega arith)
each_once_where_all_stand (suc n) callers once all k lt =
    let last = once (suc n) in
    let most = times_most n callers once in
    let front : times_to n callers ≡ n = omega arith in
    let top : times_in (suc n) callers ≡ 1 = omega arith in
    ⊎_elim (λ (less : k < n). each_once_where_all_stand n callers once front k less)
    (λ (is : suc n ≡ k + 1). subst (λ (m : ℕ). times_in m callers ≡ 1) is top)
    (last_or k n lt)
  where
    last_or : (k n : ℕ) → k < suc n → (k < n) ⊎ (suc n ≡ k + 1)
    last_or k n lt = grind arith

own_far : (h : List Entry) (k : ℕ) (rs : List Receipt) → AllAgree h rs
    → (k ≡ 0) ⊎ (length h < k) → times k rs ≡ 0
own_far h k [] a far = refl
own_far h k (r ∷ rs) a far =
    let rest = own_far h k rs a.1 far in
    let some : 0 < r.position = a.0.0 in
    let reach : r.position ≤ length h = position_within h r a.0 in
    ⊎_elim (λ (is : k ≡ 0). grind (arith, nat_tests)) (λ (lt : length h < k). grind (arith, nat_tests))
    far

in_far : (h : List Entry) (k : ℕ) (callers : List Account) → EachAgree h callers
    → (k ≡ 0) ⊎ (length h < k) → times_in k callers ≡ 0
in_far h k [] a far = refl
in_far h k (c ∷ rest) a far =
    omega (arith, own_far h k c.receipts a.0 far, in_far h k rest a.1 far)

-- the test in two parts is the whole test
pub matches_by : (h : List Entry) (callers : List Account) → length h ≡ count_in callers
    → EachRise callers × AtMostOnce callers → EachAgree h callers → Matches h callers
matches_by h callers count order agree = record {
  once = each_once_where_all_stand (length h) callers order.1 (times_all h callers agree ∙ sym count);
  agree = agree;
  rise = order.0;
}

pub matches_order : (h : List Entry) (callers : List Account) → Matches h callers
    → EachRise callers × AtMostOnce callers
matches_order h callers m = (
  m.rise,
  λ k. ⊎_elim
      (λ (far : (k ≡ 0) ⊎ (length h < k)). let none = in_far h k callers m.agree far in omega arith)
      (λ (near : (0 < k) × (k ≤ length h)).
      let one = m.once (k - 1) (omega (arith, near.0, near.1)) in
      let is : (k - 1) + 1 ≡ k = omega (arith, near.0) in
      omega (arith, one, ap (λ (n : ℕ). times_in n callers) is))
      (far_or k (length h)),
)
  where
    far_or : (k n : ℕ) → ((k ≡ 0) ⊎ (n < k)) ⊎ ((0 < k) × (k ≤ n))
    far_or k n = grind arith

-- ---- the callers one by one

pub apart_from : (all : List Account) (c : Account) (rs : List Receipt) (rest : List Account)
    → all ≡ c ∷ rest → rs ≡ c.receipts → EachRise all → AtMostOnce all ↔ AllAway rs rest × AtMostOnce rest
apart_from all c rs rest is own rise =
    let first : Rise 0 c.receipts = (subst EachRise is rise).0 in
    subst (λ (l : List Receipt). AtMostOnce all ↔ AllAway l rest × AtMostOnce rest) (sym own)
    (subst (λ (callers : List Account). AtMostOnce callers ↔ AllAway c.receipts rest × AtMostOnce rest)
    (sym is) (once_split c rest first))

pub apart_rest : (all : List Account) (c : Account) (rest : List Account)
    → all ≡ c ∷ rest → EachRise all → EachRise rest
apart_rest all c rest is rise = (subst EachRise is rise).1

-- the test of all receipts is made of that of their order and that of what they tell
pub order_test_decides : (h : List Entry) (callers : List Account) (ordered test : Bool)
    → length h ≡ count_in callers → IsTrue ordered ↔ EachRise callers × AtMostOnce callers
    → IsTrue test ↔ IsTrue ordered × EachAgree h callers → IsTrue test ↔ Matches h callers
order_test_decides h callers ordered test count order agree = (
  (λ t. let both = agree.0 t in matches_by h callers count (order.0 both.0) both.1),
  λ m. agree.1 (order.1 (matches_order h callers m), m.agree),
)
