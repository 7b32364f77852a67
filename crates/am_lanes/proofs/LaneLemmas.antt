-- Lanes by their places.
use Rattle.std.proofs.Common.{◌≡◌, ◌≢◌, ◌<◌, ◌≤◌, ◌+◌, ◌-◌, ℕ, Bool, true, false, cond, not, List, [], ◌∷◌, ◌++◌, suc, length, map, replicate, set, get_or, Option, None, Some, refl, sym, ap, subst, ◌∙◌, arith}
use Rattle.std.specs.Prelude.{◌==◌, ◌||◌, nat_lt, is_some}
use Rattle.std.specs.Option.{option_map}
use Rattle.std.specs.List.{position, position_or_len, list_any}
use Rattle.std.proofs.lemmas.Bool.Decides.{nat_tests}
use Rattle.std.proofs.lemmas.List.{get_or_past, get_or-map, get_or-set_other, ext_get_or, get_or_append_left, get_or-append_right, length-set, length-map, length_push}
use Rattle.std.proofs.lemmas.List.Folds.{list_any_at}
use Rattle.std.proofs.lemmas.List.Quantifiers.{position-Some}
use Rattle.std.proofs.lemmas.List.Sums.{position_or_len_is}
use Rattle.std.proofs.lemmas.Grind.{get_or-set_at}
use Rattle.am_lanes.specs.{Ending, Holder, ended, ended_lane, ends_lane, is_of, lane_for, may_take, is_free}
use Rattle.am_lanes.specs.Bars.{at, own_or_free, NoneEnds, IsFirstEnding}
use Rattle.am_lanes.specs.Inside.{IsOnce}

-- ---- numbers

less_true : (a b : ℕ) → a < b → nat_lt a b ≡ true
less_true a b less = grind (arith, nat_tests, less)

true_less : (a b : ℕ) → nat_lt a b ≡ true → a < b
true_less a b is = grind (arith, nat_tests, is)

false_beyond : (a b : ℕ) → nat_lt a b ≡ false → b ≤ a
false_beyond a b is = grind (arith, nat_tests, is)

pub apart : (b : Bool) → b ≡ true → b ≡ false → ⊥
apart true p q = cc
apart false p q = cc

-- ---- nobody

abbrev pub emptied : Option Holder → Option Holder
emptied lane = None

-- nobody holds a lane
pub nobody : (lanes : List (Option Holder)) → map emptied lanes ≡ replicate (length lanes) None
nobody [] = refl
nobody (lane ∷ lanes) = ap (λ (t : List (Option Holder)). None ∷ t) (nobody lanes)

nobody_at : (lanes : List (Option Holder)) (lane : ℕ) → at (map emptied lanes) lane ≡ None
nobody_at lanes lane = go (nat_lt lane (length lanes)) refl
  where
    go : (b : Bool) → nat_lt lane (length lanes) ≡ b → at (map emptied lanes) lane ≡ None
    go true within = get_or-map emptied lanes lane None None (true_less lane (length lanes) within)
    go false beyond = get_or_past (map emptied lanes) lane None (subst (λ (n : ℕ). n ≤ lane) (sym (length-map lanes emptied)) (false_beyond lane (length lanes) beyond))

pub nobody_twice : (lanes : List (Option Holder)) → IsOnce (map emptied lanes)
nobody_twice lanes number i j p q = absurd (apart (is_of number (at (map emptied lanes) i)) p (ap (is_of number) (nobody_at lanes i)))

-- ---- the first that passes a test

-- what is held is inside
pub inside : (p : Option Holder → Bool) (lanes : List (Option Holder)) (lane : ℕ) → p None ≡ false → p (at lanes lane) ≡ true → lane < length lanes
inside p lanes lane none is = go (nat_lt lane (length lanes)) refl
  where
    go : (b : Bool) → nat_lt lane (length lanes) ≡ b → lane < length lanes
    go true within = true_less lane (length lanes) within
    go false beyond = absurd (apart (p (at lanes lane)) is (ap p (get_or_past lanes lane None (false_beyond lane (length lanes) beyond)) ∙ none))

pub found_first : (p : Option Holder → Bool) (lanes : List (Option Holder)) (i : ℕ) → i < length lanes → p (at lanes i) ≡ true → ((k : ℕ) → k < i → p (at lanes k) ≡ false) → position p lanes ≡ Some i
found_first p lanes i within is none =
    ap (λ (n : ℕ). cond (nat_lt n (length lanes)) (Some n) None) (position_or_len_is p lanes i None (omega arith) none (λ _. is))
    ∙ ap (λ (b : Bool). cond b (Some i) None) (less_true i (length lanes) within)

pub found_none : (p : Option Holder → Bool) (lanes : List (Option Holder)) → ((k : ℕ) → k < length lanes → p (at lanes k) ≡ false) → position p lanes ≡ None
found_none p lanes none =
    ap (λ (n : ℕ). cond (nat_lt n (length lanes)) (Some n) None) (position_or_len_is p lanes (length lanes) None (omega arith) none (λ less. absurd (never (length lanes) less)))
    ∙ ap (λ (b : Bool). cond b (Some (length lanes)) None) (same (length lanes))
  where
    never : (a : ℕ) → a < a → ⊥
    never a less = omega arith

    same : (a : ℕ) → nat_lt a a ≡ false
    same a = grind (arith, nat_tests)

-- one passes where one is found
pub any_found : (p : Option Holder → Bool) (lanes : List (Option Holder)) → is_some (position p lanes) ≡ list_any p lanes
any_found p lanes = some (nat_lt (position_or_len p lanes) (length lanes)) (position_or_len p lanes) ∙ any lanes
  where
    some : (b : Bool) (n : ℕ) → is_some (cond b (Some n) None) ≡ b
    some true n = refl
    some false n = refl

    any : (lanes : List (Option Holder)) → nat_lt (position_or_len p lanes) (length lanes) ≡ list_any p lanes
    any [] = refl
    any (lane ∷ lanes) = go (p lane) (any lanes)
      where
        go : (b : Bool) → nat_lt (position_or_len p lanes) (length lanes) ≡ list_any p lanes → nat_lt (cond (not b) (1 + position_or_len p lanes) 0) (suc (length lanes)) ≡ (b || list_any p lanes)
        go true ih = grind (arith, nat_tests)
        go false ih = grind (arith, nat_tests, ih)

-- one passes either test where one passes one of them
pub any_of_both : (number : ℕ) (lanes : List (Option Holder)) → (list_any (λ lane. is_of number lane) lanes || list_any (λ lane. is_free lane) lanes) ≡ list_any (λ lane. may_take number lane) lanes
any_of_both number [] = refl
any_of_both number (lane ∷ lanes) = go (is_of number lane) (is_free lane) _ _ ∙ ap (λ (b : Bool). (is_of number lane || is_free lane) || b) (any_of_both number lanes)
  where
    go : (a b c d : Bool) → ((a || c) || (b || d)) ≡ ((a || b) || (c || d))
    go true b c d = refl
    go false true true d = refl
    go false true false d = refl
    go false false c d = refl

pub taken_own : (number : ℕ) (lanes : List (Option Holder)) → list_any (λ lane. is_of number lane) lanes ≡ true → list_any (λ lane. may_take number lane) lanes ≡ true
taken_own number lanes own = sym (any_of_both number lanes) ∙ ap (λ (b : Bool). b || list_any (λ lane. is_free lane) lanes) own

pub taken_free : (number : ℕ) (lanes : List (Option Holder)) → list_any (λ lane. is_of number lane) lanes ≡ false → list_any (λ lane. is_free lane) lanes ≡ list_any (λ lane. may_take number lane) lanes
taken_free number lanes other = sym (ap (λ (b : Bool). b || list_any (λ lane. is_free lane) lanes) other) ∙ any_of_both number lanes

-- ---- a number stands once

-- the lane that a number takes is the only one that may be its own
pub only_there : (lanes : List (Option Holder)) (number : ℕ) → IsOnce lanes → (l : ℕ) → is_of number (at lanes l) ≡ true → l ≡ lane_for number lanes
only_there lanes number once l is = go (position (λ lane. is_of number lane) lanes) refl
  where
    go : (o : Option ℕ) → position (λ lane. is_of number lane) lanes ≡ o → l ≡ own_or_free lanes o
    go (Some i) found = once number l i is (position-Some (λ lane. is_of number lane) lanes i None found).1
    go None none =
        absurd (apart (list_any (λ lane. is_of number lane) lanes)
        (list_any_at (λ lane. is_of number lane) lanes l None (inside (λ lane. is_of number lane) lanes l refl is) is)
        (sym (any_found (λ lane. is_of number lane) lanes) ∙ ap is_some none))

-- who holds a lane behind a change of one
pub put_at : (lanes : List (Option Holder)) (lane : ℕ) (x : Option Holder) → lane < length lanes → (l : ℕ) → at (set lanes lane x) l ≡ cond (lane == l) x (at lanes l)
put_at lanes lane x within l = go (lane == l) refl
  where
    go : (b : Bool) → (lane == l) ≡ b → at (set lanes lane x) l ≡ cond b x (at lanes l)
    go true is = get_or-set_at lanes lane l x None (grind (arith, nat_tests, is)) within
    go false other = get_or-set_other lanes lane l x None (differ other)
      where
        differ : (lane == l) ≡ false → l ≢ lane
        differ unlike e = apart (lane == l) (grind (arith, nat_tests, e)) unlike

-- no number has two lanes behind a change of one
pub once_put : (lanes : List (Option Holder)) (lane : ℕ) (holder : Holder) → lane < length lanes → IsOnce lanes → ((l : ℕ) → is_of holder.number (at lanes l) ≡ true → l ≡ lane) → IsOnce (set lanes lane (Some holder))
once_put lanes lane holder within once only number i j p q =
    go (lane == i) refl (lane == j) refl
    (sym (ap (is_of number) (put_at lanes lane (Some holder) within i)) ∙ p)
    (sym (ap (is_of number) (put_at lanes lane (Some holder) within j)) ∙ q)
  where
    same : (a b : ℕ) → (a == b) ≡ true → a ≡ b
    same a b e = grind (arith, nat_tests, e)

    -- it is the number's, which has only this lane
    other : (l : ℕ) → (holder.number == number) ≡ true → is_of number (at lanes l) ≡ true → l ≡ lane
    other l e is = only l (subst (λ (n : ℕ). is_of n (at lanes l) ≡ true) (sym (same holder.number number e)) is)

    go : (b : Bool) → (lane == i) ≡ b → (c : Bool) → (lane == j) ≡ c → is_of number (cond b (Some holder) (at lanes i)) ≡ true → is_of number (cond c (Some holder) (at lanes j)) ≡ true → i ≡ j
    go true b true c p q = sym (same lane i b) ∙ same lane j c
    go true b false c p q = sym (same lane i b) ∙ sym (other j p q)
    go false b true c p q = other i q p ∙ same lane j c
    go false b false c p q = once number i j p q

-- ---- bars that end

pub kept : (ending : Ending) (lane : Option Holder) → ends_lane ending lane ≡ false → ended_lane ending lane ≡ lane
kept ending None unlike = refl
kept ending (Some holder) unlike = ap (λ (b : Bool). cond b (Some (ended holder)) (Some holder)) unlike

pub done : (ending : Ending) (lane : Option Holder) → ends_lane ending lane ≡ true → ended_lane ending lane ≡ option_map ended lane
done ending None is = cc
done ending (Some holder) is = ap (λ (b : Bool). cond b (Some (ended holder)) (Some holder)) is

-- so far the bars have ended that end
pub record HaveEnded (ending : Ending) (old now : List (Option Holder)) (from : ℕ) : Type 0 where
  pub within : from ≤ length old
  pub long : length now ≡ length old
  pub so_far : (l : ℕ) → l < from → at now l ≡ ended_lane ending (at old l)
  pub ahead : (l : ℕ) → from ≤ l → at now l ≡ at old l

pub ends_first : (ending : Ending) (old : List (Option Holder)) → HaveEnded ending old old 0
ends_first ending old = record {
  within = omega arith;
  long = refl;
  so_far = λ l less. absurd (omega arith);
  ahead = λ l more. refl;
}

pub ends_next : (ending : Ending) (old now : List (Option Holder)) (from lane : ℕ) → HaveEnded ending old now from → IsFirstEnding ending from now lane → HaveEnded ending old (set now lane (option_map ended (at now lane))) (lane + 1)
ends_next ending old now from lane far first = record {
  within = subst (λ (n : ℕ). lane + 1 ≤ n) far.long (omega (arith, first.there));
  long = length-set now lane (option_map ended (at now lane)) ∙ far.long;
  so_far = λ l less. put_at now lane (option_map ended (at now lane)) first.there l ∙ go l less (lane == l) refl;
  ahead = λ l more. put_at now lane (option_map ended (at now lane)) first.there l ∙ beyond l more (lane == l) refl;
}
  where
    same : (a b : ℕ) → (a == b) ≡ true → a ≡ b
    same a b e = grind (arith, nat_tests, e)

    go : (l : ℕ) → l < lane + 1 → (b : Bool) → (lane == l) ≡ b → cond b (option_map ended (at now lane)) (at now l) ≡ ended_lane ending (at old l)
    go l less true is =
        sym (done ending (at now lane) first.done)
        ∙ ap (ended_lane ending) (far.ahead lane first.beyond ∙ ap (at old) (same lane l is))
    go l less false other = before (nat_lt l from) refl
      where
        before : (b : Bool) → nat_lt l from ≡ b → at now l ≡ ended_lane ending (at old l)
        before true is = far.so_far l (true_less l from is)
        before false unlike =
            sym (kept ending (at now l) (first.first l (false_beyond l from unlike) (grind (arith, nat_tests, other, less))))
            ∙ ap (ended_lane ending) (far.ahead l (false_beyond l from unlike))

    beyond : (l : ℕ) → lane + 1 ≤ l → (b : Bool) → (lane == l) ≡ b → cond b (option_map ended (at now lane)) (at now l) ≡ at old l
    beyond l more true is = absurd (never lane l more (same lane l is))
      where
        never : (a b : ℕ) → a + 1 ≤ b → a ≡ b → ⊥
        never a b le e = omega arith
    beyond l more false other = far.ahead l (grind (arith, first.beyond, more))

pub ends_all : (ending : Ending) (old now : List (Option Holder)) (from : ℕ) → HaveEnded ending old now from → NoneEnds ending from (length now) now → now ≡ map (ended_lane ending) old
ends_all ending old now from far none =
    ext_get_or None now (map (ended_lane ending) old) (far.long ∙ sym (length-map old (ended_lane ending)))
    (λ l within. each l within (nat_lt l from) refl ∙ sym (get_or-map (ended_lane ending) old l None None (subst (λ (n : ℕ). l < n) far.long within)))
  where
    each : (l : ℕ) → l < length now → (b : Bool) → nat_lt l from ≡ b → at now l ≡ ended_lane ending (at old l)
    each l within true is = far.so_far l (true_less l from is)
    each l within false unlike =
        sym (kept ending (at now l) (none l (false_beyond l from unlike) within))
        ∙ ap (ended_lane ending) (far.ahead l (false_beyond l from unlike))

-- ---- one lane more

pub own_number : (holder : Holder) (number : ℕ) → number ≡ holder.number → is_of number (Some holder) ≡ true
own_number holder number e = grind (arith, nat_tests, e)

pub push_at : (lanes : List (Option Holder)) (x : Option Holder) (l : ℕ) → at (lanes ++ x ∷ []) l ≡ cond (length lanes == l) x (at lanes l)
push_at lanes x l = go (nat_lt l (length lanes)) refl (length lanes == l) refl
  where
    go : (b : Bool) → nat_lt l (length lanes) ≡ b → (c : Bool) → (length lanes == l) ≡ c → at (lanes ++ x ∷ []) l ≡ cond c x (at lanes l)
    go true within true here = absurd (never l (length lanes) within here)
      where
        never : (a b : ℕ) → nat_lt a b ≡ true → (b == a) ≡ true → ⊥
        never a b less e = grind (arith, nat_tests, less, e)
    go true within false other = get_or_append_left lanes (x ∷ []) None l (true_less l (length lanes) within)
    go false beyond true here =
        get_or-append_right lanes (x ∷ []) (length lanes) l None refl (false_beyond l (length lanes) beyond)
        ∙ ap (λ (n : ℕ). get_or (x ∷ []) n None) (none l (length lanes) here)
      where
        none : (a b : ℕ) → (b == a) ≡ true → a - b ≡ 0
        none a b e = grind (arith, nat_tests, e)
    go false beyond false other =
        get_or_past (lanes ++ x ∷ []) l None (subst (λ (n : ℕ). n ≤ l) (sym (length_push lanes x)) (more l (length lanes) beyond other))
        ∙ sym (get_or_past lanes l None (false_beyond l (length lanes) beyond))
      where
        more : (a b : ℕ) → nat_lt a b ≡ false → (b == a) ≡ false → b + 1 ≤ a
        more a b p q = grind (arith, nat_tests, p, q)

pub once_push : (lanes : List (Option Holder)) → IsOnce lanes → IsOnce (lanes ++ None ∷ [])
once_push lanes once number i j p q = once number i j (held i p) (held j q)
  where
    held : (l : ℕ) → is_of number (at (lanes ++ None ∷ []) l) ≡ true → is_of number (at lanes l) ≡ true
    held l is = go (length lanes == l) (ap (is_of number) (sym (push_at lanes None l)) ∙ is)
      where
        go : (b : Bool) → is_of number (cond b None (at lanes l)) ≡ true → is_of number (at lanes l) ≡ true
        go true e = absurd (apart false e refl)
        go false e = e
