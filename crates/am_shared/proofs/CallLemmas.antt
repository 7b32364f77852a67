-- The calls of callers in the one history, and their receipts.
use Rattle.std.proofs.Common.{◌≡◌, ℕ, zero, suc, ◌+◌, ◌<◌, ◌≤◌, List, [], ◌∷◌, ◌++◌, length, All}
use Rattle.std.proofs.Common.{Some, slice_get, refl, sym, ap, ◌∙◌, subst, arith, append_assoc}
use Rattle.std.proofs.lemmas.List.{append-nil}
use Rattle.std.proofs.lemmas.Bool.Decides.{nat_tests}
use Rattle.std.specs.Prelude.{if◌then◌else◌, ◌==◌, nat_lt, nat_le, ◌&&◌}
use Rattle.am_machine.specs.{Answer, Entry, Event, Setup, entry}
use Rattle.am_shared.specs.{Account, Receipt, newcomer, AllAgree, AtMostOnce, EachAgree, EachRise, Matches, Receives}
use Rattle.am_shared.specs.{Rise, Sees, StandsLast, count_in, times, times_in}
use Rattle.am_shared.specs.Calls.{all_calls, call_of, calls_of}
use Rattle.atomic_table.specs.Seated.{TableId}
use Rattle.atomic_table.specs.declared.shared.Seat.{Seat}
use Rattle.am_shared.specs.{Known}
use mathlib.Core.List.{IsPrefix}
use Rattle.am_shared.specs.Sharing.{Sharing}
use Rattle.am_shared.specs.Chronicle.{AreIn, caller, weigh, weigh_to}
use Rattle.am_shared.specs.Passes.{CallsOn, view_of}
use Rattle.am_shared.proofs.SumLemmas.{total_append}

pub calls_snoc : (rs : List Receipt) (r : Receipt) → calls_of (rs ++ r ∷ []) ≡ calls_of rs ++ call_of r ∷ []
calls_snoc [] r = refl
calls_snoc (x ∷ xs) r = ap (λ l. call_of x ∷ l) (calls_snoc xs r)

pub all_snoc : (xs : List Account) (x : Account) → all_calls (xs ++ x ∷ []) ≡ all_calls xs ++ calls_of x.receipts
all_snoc [] x = append-nil (calls_of x.receipts)
all_snoc (y ∷ ys) x =
    ap (λ l. calls_of y.receipts ++ l) (all_snoc ys x)
    ∙ sym (append_assoc (calls_of y.receipts) (all_calls ys) (calls_of x.receipts))

in_front : (h : List Entry) (xs ys : List (ℕ × Entry)) → AreIn h (xs ++ ys) → AreIn h xs
in_front h [] ys a k d lt = absurd (omega arith)
in_front h (x ∷ xs) ys a zero d lt = a 0 d (omega arith)
in_front h (x ∷ xs) ys a (suc k) d lt = in_front h xs ys (λ j e l. a (suc j) e (omega arith)) k d (omega arith)

in_back : (h : List Entry) (xs ys : List (ℕ × Entry)) → AreIn h (xs ++ ys) → AreIn h ys
in_back h [] ys a = a
in_back h (x ∷ xs) ys a = in_back h xs ys (λ j e l. a (suc j) e (omega arith))

-- calls that are in the history agree with it
pub calls_agree : (h : List Entry) (rs : List Receipt) → AreIn h (calls_of rs) → AllAgree h rs
calls_agree h [] a = tt
calls_agree h (r ∷ rs) a =
    (a 0 (call_of r) (omega arith), calls_agree h rs (λ j e l. a (suc j) e (omega arith)))

pub all_calls_agree : (h : List Entry) (callers : List Account) → AreIn h (all_calls callers) → EachAgree h callers
all_calls_agree h [] a = tt
all_calls_agree h (c ∷ rest) a = (
  calls_agree h c.receipts (in_front h (calls_of c.receipts) (all_calls rest) a),
  all_calls_agree h rest (in_back h (calls_of c.receipts) (all_calls rest) a),
)

-- positions are no higher than the history is long
some_place : (h : List Entry) (k : ℕ) (e : Entry) → slice_get h k ≡ Some e → k < length h
some_place [] k e is = absurd cc
some_place (x ∷ xs) zero e is = omega arith
some_place (x ∷ xs) (suc k) e is = let r = some_place xs k e is in omega arith

pub below : (h : List Entry) (calls : List (ℕ × Entry)) (n : ℕ) → length h < n → AreIn h calls
    → All (λ x. x.0 < n) calls
below h calls n long a k d lt =
    let r = a k d lt in let s = some_place h _ _ r.1 in let p = r.0 in omega arith

-- the positions of a caller rise, with one behind them that is higher
pub rise_snoc : (low : ℕ) (rs : List Receipt) (r : Receipt) → Rise low rs → low < r.position
    → All (λ x. x.0 < r.position) (calls_of rs) → Rise low (rs ++ r ∷ [])
rise_snoc low [] r rise lt above = (lt, tt)
rise_snoc low (x ∷ xs) r rise lt above = (
  rise.0,
  rise_snoc x.position xs r rise.1 (above 0 (call_of x) (omega arith))
      (λ j e l. above (suc j) e (omega arith)),
)

pub each_rise_snoc : (callers : List Account) (last : Account) → EachRise callers → Rise 0 last.receipts
    → EachRise (callers ++ last ∷ [])
each_rise_snoc [] last each rise = (rise, tt)
each_rise_snoc (x ∷ xs) last each rise = (each.0, each_rise_snoc xs last each.1 rise)

-- a caller that has made nothing
pub fresh_caller : (history : TableId) (pass : Seat Entry Known) (receipts : List Receipt)
    → CallsOn history pass × (view_of pass ≡ caller [] []) → receipts ≡ []
    → CallsOn history pass × ((view_of pass).mine ≡ calls_of receipts) × Rise 0 receipts
fresh_caller history pass receipts fresh none = (
  fresh.0,
  ap (λ (v : Known). v.mine) fresh.1 ∙ ap calls_of (sym none),
  subst (λ (l : List Receipt). Rise 0 l) (sym none) tt,
)

-- its account
pub fresh_account : (pass : Seat Entry Known) (receipts : List Receipt) → view_of pass ≡ caller [] [] → receipts ≡ []
    → record { receipts = receipts; seen = (view_of pass).seen } ≡ newcomer
fresh_account pass receipts fresh none = λ i. record { receipts = none i; seen = (fresh i).seen }

-- the receipt of a call that stands last
pub receives_from : (o : Setup) (before behind : Known) (old new : Account) (position : ℕ) (event : Event)
    (answer : Answer) → StandsLast o before behind position (entry event answer)
    → before.mine ≡ calls_of old.receipts → before.seen ≡ old.seen
    → new.receipts ≡ old.receipts ++ record { position = position; event = event; answer = answer } ∷ []
    → behind.seen ≡ new.seen → Receives o old new event position
receives_from o before behind old new position event answer h mine was receipt is =
    let r : Receipt = record { position = position; event = event; answer = answer } in
    let seen : new.seen ≡ h.world.history = sym is ∙ h.seen in
    record {
      answer = answer;
      receipt = receipt;
      stands = record {
        world = h.world;
        shared = h.shared;
        agree = subst (λ (l : List Receipt). AllAgree h.world.history l) (sym receipt)
            (calls_agree h.world.history (old.receipts ++ r ∷ [])
            (subst (λ (l : List (ℕ × Entry)). AreIn h.world.history l) (sym (calls_snoc old.receipts r))
            (subst (λ (l : List (ℕ × Entry)). AreIn h.world.history (l ++ (position, entry event answer) ∷ [])) mine
            h.calls)));
        seen = seen;
        is_last = h.is_last;
      };
      earlier = h.earlier;
      goes_on = subst (λ (l : List Entry). IsPrefix l h.earlier) was h.goes_on;
      seen = seen ∙ h.whole;
    }

pub rise_from : (o : Setup) (before behind : Known) (rs : List Receipt) (position : ℕ) (event : Event) (answer : Answer)
    → Rise 0 rs → StandsLast o before behind position (entry event answer) → before.mine ≡ calls_of rs
    → Rise 0 (rs ++ record { position = position; event = event; answer = answer } ∷ [])
rise_from o before behind rs position event answer rise h mine =
    rise_snoc 0 rs (record { position = position; event = event; answer = answer }) rise h.first
    (subst (λ (l : List (ℕ × Entry)). All (λ x. x.0 < position) l) mine h.above)

-- a world whose history has all calls of a caller, and begins with what it saw
pub sees_from : (s : Sharing) (before behind : Known) (old new : Account) → AreIn s.history before.mine
    → before.mine ≡ calls_of old.receipts → IsPrefix before.seen s.history → before.seen ≡ old.seen
    → behind.seen ≡ s.history → behind.seen ≡ new.seen → Sees s old new
sees_from s before behind old new calls mine goes_on was seen is = record {
  agree = calls_agree s.history old.receipts
      (subst (λ (l : List (ℕ × Entry)). AreIn s.history l) mine calls);
  goes_on = subst (λ (l : List Entry). IsPrefix l s.history) was goes_on;
  seen = sym is ∙ seen;
}

times_weighed : (k : ℕ) (rs : List Receipt) → times k rs ≡ weigh (λ p. if p == k then 1 else 0) (calls_of rs)
times_weighed k [] = refl
times_weighed k (r ∷ rs) = ap (λ n. (if r.position == k then 1 else 0) + n) (times_weighed k rs)

all_weighed : (k : ℕ) (callers : List Account)
    → times_in k callers ≡ weigh (λ p. if p == k then 1 else 0) (all_calls callers)
all_weighed k [] = refl
all_weighed k (c ∷ rest) =
    let t = total_append (λ (x : ℕ × Entry). if x.0 == k then 1 else 0) (calls_of c.receipts) (all_calls rest) in
    omega (arith, t, times_weighed k c.receipts, all_weighed k rest)

length_calls : (rs : List Receipt) → weigh (λ _. 1) (calls_of rs) ≡ length rs
length_calls [] = refl
length_calls (r ∷ rs) = let t = length_calls rs in omega arith

pub count_calls : (callers : List Account) → weigh (λ _. 1) (all_calls callers) ≡ count_in callers
count_calls [] = refl
count_calls (c ∷ rest) =
    let t = total_append (λ (x : ℕ × Entry). 1) (calls_of c.receipts) (all_calls rest) in
    omega (arith, t, length_calls c.receipts, count_calls rest)

-- each position once, as far as the history is long
weigh_at : (k n : ℕ) → weigh_to (λ p. if p == k then 1 else 0) n ≡ (if nat_lt 0 k && nat_le k n then 1 else 0)
weigh_at k zero = grind (arith, nat_tests)
weigh_at k (suc n) = let r = weigh_at k n in grind (arith, nat_tests)

-- so no position stands in more than one receipt
pub at_most : (n : ℕ) (callers : List Account)
    → ((f : ℕ → ℕ) → weigh f (all_calls callers) ≡ weigh_to f n) → AtMostOnce callers
at_most n callers once position =
    let t = all_weighed position callers in
    let o = once (λ p. if p == position then 1 else 0) in
    let w = weigh_at position n in
    let few : (if nat_lt 0 position && nat_le position n then 1 else 0) ≤ 1 = grind (arith, nat_tests) in
    omega (arith, t, o, w, few)

weigh_within : (k n : ℕ) → k < n → weigh_to (λ p. if p == k + 1 then 1 else 0) n ≡ 1
weigh_within k n lt = let r = weigh_at (k + 1) n in grind (arith, nat_tests)

pub count_to : (n : ℕ) → weigh_to (λ _. 1) n ≡ n
count_to zero = refl
count_to (suc n) = let r = count_to n in omega arith

pub counts : (n : ℕ) (callers : List Account)
    → ((f : ℕ → ℕ) → weigh f (all_calls callers) ≡ weigh_to f n) → n ≡ count_in callers
counts n callers once = sym (count_to n) ∙ sym (once (λ _. 1)) ∙ count_calls callers

pub all_match : (h : List Entry) (callers : List Account) → AreIn h (all_calls callers)
    → ((f : ℕ → ℕ) → weigh f (all_calls callers) ≡ weigh_to f (length h)) → EachRise callers
    → Matches h callers
all_match h callers a once rise = record {
  once = λ k lt. all_weighed (k + 1) callers ∙ once (λ p. if p == k + 1 then 1 else 0) ∙ weigh_within k (length h) lt;
  agree = all_calls_agree h callers a;
  rise = rise;
}
