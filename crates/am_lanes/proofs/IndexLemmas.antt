-- An index follows its lanes, and what it finds is what a look at all of them would.
use Rattle.std.proofs.Common.{◌≡◌, ◌<◌, ◌≤◌, ◌+◌, ◌-◌, ◌^◌, ℕ, Bool, true, false, cond, List, [], ◌∷◌, ◌++◌, length, set, take, Option, None, Some, refl, sym, ap, subst, ◌∙◌, arith}
use Rattle.std.specs.Prelude.{◌==◌, ◌&&◌, nat_lt, nat_le, IfSome}
use Rattle.std.specs.Ordering.{nat_cmp, is_eq}
use Rattle.std.specs.declared.ops.Bound.TheVariants.{Included}
use Rattle.std.specs.BTreeMap.Range.{IsInRange, IsLeBy}
use Rattle.std.specs.BTreeSet.{BTreeSet, contains, IsKeyInRange, IsKeyRangeOf}
use Rattle.std.specs.BTreeMap.{is_at}
use Rattle.std.specs.List.{position, list_any, slice_get}
use Rattle.std.specs.Map.{lookup}
use Rattle.std.proofs.lemmas.Bool.Decides.{nat_tests}
use Rattle.std.proofs.lemmas.List.{get_or_past, get_or-take, length-set, length_push, length-take-le, take_more}
use Rattle.am_names.proofs.Basics.{left_of_and, right_of_and}
use Rattle.am_lanes.specs.declared.holder.Look.{Look}
use Rattle.am_lanes.specs.declared.holder.Look.TheVariants.{Missing, Expire, Ended, Waits, Inside, Idle, Catatonic, Dead}
use Rattle.am_lanes.specs.declared.holder.Ending.TheVariants.{Of, In}
use Rattle.am_lanes.specs.{Ending, Holder, ends_lane, is_of, is_free, is_in, IsNextEnding}
use Rattle.am_lanes.specs.Bars.{at, has_ended}
use Rattle.am_lanes.specs.Inside.{fs_of, is_open, is_that, number_lane, pair_cmp, from_on, IsChanged, IsEmptyIndex, IsIndexOf, IsLeast, IsLeastIn, IsOnce, IsWithFree}
use Rattle.am_lanes.specs.declared.index.Index.{Index}
use Rattle.am_lanes.proofs.LaneLemmas.{apart, found_first, found_none, inside, push_at, put_at}

same : (a b : ℕ) → (a == b) ≡ true → a ≡ b
same a b e = grind (arith, nat_tests, e)

differ : (a b : ℕ) → a < b → (b == a) ≡ false
differ a b less = grind (arith, nat_tests, less)

-- ---- what is found

pub number_found : (lanes : List (Option Holder)) (index : Index) → IsIndexOf lanes index → (number : ℕ) → number_lane index number ≡ position (λ lane. is_of number lane) lanes
number_found lanes index is number = go (number_lane index number) (is.numbers number)
  where
    go : (o : Option ℕ) → ((l : ℕ) → is_that l o ≡ is_of number (at lanes l)) → o ≡ position (λ lane. is_of number lane) lanes
    go None says = sym (found_none (λ lane. is_of number lane) lanes (λ k _. sym (says k)))
    go (Some l) says =
        sym (found_first (λ lane. is_of number lane) lanes l (inside (λ lane. is_of number lane) lanes l refl own) own
        (λ k less. sym (says k) ∙ differ k l less))
      where
        here : (a : ℕ) → (a == a) ≡ true
        here a = grind (arith, nat_tests)

        own : is_of number (at lanes l) ≡ true
        own = sym (says l) ∙ here l

pub free_found : (lanes : List (Option Holder)) (index : Index) → IsIndexOf lanes index → (o : Option ℕ) → IsLeast index.free o → o ≡ position (λ lane. is_free lane) lanes
free_found lanes index is None none =
    sym (found_none (λ lane. is_free lane) lanes (λ k within. gone (nat_lt k (length lanes)) (is_free (at lanes k)) (lt k (length lanes) within) (sym (is.free k) ∙ none k)))
  where
    lt : (a b : ℕ) → a < b → nat_lt a b ≡ true
    lt a b less = grind (arith, nat_tests, less)

    gone : (a b : Bool) → a ≡ true → (a && b) ≡ false → b ≡ false
    gone true b p q = q
    gone false b p q = cc
free_found lanes index is (Some l) least =
    sym (found_first (λ lane. is_free lane) lanes l within (right_of_and (nat_lt l (length lanes)) (is_free (at lanes l)) both)
    (λ k less. gone (nat_lt k (length lanes)) (is_free (at lanes k)) (lt k (length lanes) (omega (arith, within, less))) (sym (is.free k) ∙ least.1 k less)))
  where
    both : (nat_lt l (length lanes) && is_free (at lanes l)) ≡ true
    both = sym (is.free l) ∙ least.0

    lt : (a b : ℕ) → a < b → nat_lt a b ≡ true
    lt a b less = grind (arith, nat_tests, less)

    is_less : (a b : ℕ) → nat_lt a b ≡ true → a < b
    is_less a b e = grind (arith, nat_tests, e)

    within : l < length lanes
    within = is_less l (length lanes) (left_of_and (nat_lt l (length lanes)) (is_free (at lanes l)) both)

    gone : (a b : Bool) → a ≡ true → (a && b) ≡ false → b ≡ false
    gone true b p q = q
    gone false b p q = cc

ends_in : (fs : ℕ) (lane : Option Holder) → ends_lane (In fs) lane ≡ is_open fs lane
ends_in fs None = refl
ends_in fs (Some holder) = refl

ends_of : (number : ℕ) (lane : Option Holder) → ends_lane (Of number) lane ≡ is_of number lane
ends_of number None = refl
ends_of number (Some holder) = refl

pub next_in_found : (lanes : List (Option Holder)) (index : Index) → length lanes < 2 ^ 64 → IsIndexOf lanes index → (fs from : ℕ) (o : Option ℕ) → IsLeastIn fs from index.by_fs o → IsNextEnding (In fs) from lanes o
next_in_found lanes index fits is fs from None none = λ l beyond within. ends_in fs (at lanes l) ∙ sym (is.tokens fs l) ∙ none l beyond (omega (arith, within, fits))
next_in_found lanes index fits is fs from (Some l) least = record {
  beyond = least.0;
  there = inside (is_open fs) lanes l refl here;
  done = ends_in fs (at lanes l) ∙ here;
  first = λ k beyond less. ends_in fs (at lanes k) ∙ sym (is.tokens fs k) ∙ least.2 k beyond less;
}
  where
    here : is_open fs (at lanes l) ≡ true
    here = sym (is.tokens fs l) ∙ least.1

pub next_of_found : (lanes : List (Option Holder)) (index : Index) → IsIndexOf lanes index → (number from : ℕ) → IsNextEnding (Of number) from lanes (from_on from (number_lane index number))
next_of_found lanes index is number from = go (number_lane index number) (is.numbers number)
  where
    go : (o : Option ℕ) → ((l : ℕ) → is_that l o ≡ is_of number (at lanes l)) → IsNextEnding (Of number) from lanes (from_on from o)
    go None says = λ l _ _. ends_of number (at lanes l) ∙ sym (says l)
    go (Some own) says = beyond (nat_le from own) refl
      where
        here : (a : ℕ) → (a == a) ≡ true
        here a = grind (arith, nat_tests)

        there : is_of number (at lanes own) ≡ true
        there = sym (says own) ∙ here own

        up : (a b : ℕ) → nat_le a b ≡ true → a ≤ b
        up a b e = grind (arith, nat_tests, e)

        below : (a b l : ℕ) → nat_le a b ≡ false → a ≤ l → (b == l) ≡ false
        below a b l e le = grind (arith, nat_tests, e, le)

        beyond : (b : Bool) → nat_le from own ≡ b → IsNextEnding (Of number) from lanes (cond b (Some own) None)
        beyond true is = record {
          beyond = up from own is;
          there = inside (is_of number) lanes own refl there;
          done = ends_of number (at lanes own) ∙ there;
          first = λ l _ less. ends_of number (at lanes l) ∙ sym (says l) ∙ differ l own less;
        }
        beyond false unlike = λ l more _. ends_of number (at lanes l) ∙ sym (says l) ∙ below from own l unlike more

pub next_fits : (ending : Ending) (from : ℕ) (lanes : List (Option Holder)) (o : Option ℕ) → length lanes < 2 ^ 64 → IsNextEnding ending from lanes o → IfSome o (λ lane. lane + 1 < 2 ^ 64)
next_fits ending from lanes None fits next = tt
next_fits ending from lanes (Some lane) fits next = omega (arith, next.there, fits)

-- ---- pairs in order

pub at_pair : (a b n m : ℕ) → is_eq (pair_cmp (a, b) (n, m)) ≡ ((a == n) && (b == m))
at_pair a b n m = grind (arith, nat_tests)

in_fs : (look : Look) (own : ℕ) → fs_of look ≡ Some own → (fs : ℕ) → is_in fs look ≡ (own == fs)
in_fs (Missing fs') own e fs = ap (λ (n : ℕ). n == fs) (some fs' own e)
  where
    some : (a b : ℕ) → Some a ≡ Some b → a ≡ b
    some a b e = cc
in_fs (Expire fs') own e fs = ap (λ (n : ℕ). n == fs) (some fs' own e)
  where
    some : (a b : ℕ) → Some a ≡ Some b → a ≡ b
    some a b e = cc
in_fs Ended own e fs = cc
in_fs Waits own e fs = cc
in_fs Inside own e fs = cc
in_fs Idle own e fs = cc
in_fs Catatonic own e fs = cc
in_fs Dead own e fs = cc

pub pair_is : (look : Look) (own lane fs l : ℕ) → fs_of look ≡ Some own → is_eq (pair_cmp (own, lane) (fs, l)) ≡ ((lane == l) && is_in fs look)
pair_is look own lane fs l e = at_pair own lane fs l ∙ swap (own == fs) (lane == l) ∙ ap (λ (b : Bool). (lane == l) && b) (sym (in_fs look own e fs))
  where
    swap : (a b : Bool) → (a && b) ≡ (b && a)
    swap true true = refl
    swap true false = refl
    swap false true = refl
    swap false false = refl

no_pair : (look : Look) → fs_of look ≡ None → (fs : ℕ) → is_in fs look ≡ false
no_pair (Missing own) e fs = cc
no_pair (Expire own) e fs = cc
no_pair Ended e fs = refl
no_pair Waits e fs = refl
no_pair Inside e fs = refl
no_pair Idle e fs = refl
no_pair Catatonic e fs = refl
no_pair Dead e fs = refl

in_range : (fs from most l : ℕ) → from ≤ l → l ≤ most → IsInRange pair_cmp (Included (fs, from)) (Included (fs, most)) (fs, l)
in_range fs from most l more less = (grind (arith, nat_tests, more), grind (arith, nat_tests, less))

same_fs : (fs from most a b : ℕ) → IsInRange pair_cmp (Included (fs, from)) (Included (fs, most)) (a, b) → (a ≡ fs) × (from ≤ b) × (b ≤ most)
same_fs fs from most a b is = (grind (arith, nat_tests, is.0, is.1), grind (arith, nat_tests, is.0, is.1), grind (arith, nat_tests, is.0, is.1))

above : (fs a b l : ℕ) → a ≡ fs → IsLeBy pair_cmp (a, b) (fs, l) → b ≤ l
above fs a b l e is = grind (arith, nat_tests, e, is)

pub range_first : (fs from : ℕ) (pairs : BTreeSet (ℕ × ℕ)) (r : List (ℕ × ℕ)) (a b : ℕ) → IsKeyRangeOf pair_cmp (Included (fs, from)) (Included (fs, 2 ^ 64 - 1)) pairs r → slice_get r 0 ≡ Some (a, b) → IsLeastIn fs from pairs (Some b)
range_first fs from pairs r a b is first = (here.1, subst (λ (n : ℕ). contains pair_cmp pairs (n, b) ≡ true) here.0 in_it.1, λ l more less. none l more less (contains pair_cmp pairs (fs, l)) refl)
  where
    in_it : IsKeyInRange pair_cmp (Included (fs, from)) (Included (fs, 2 ^ 64 - 1)) pairs (a, b)
    in_it = subst (λ (o : Option (ℕ × ℕ)). IfSome o (IsKeyInRange pair_cmp (Included (fs, from)) (Included (fs, 2 ^ 64 - 1)) pairs)) first is.1

    here : (a ≡ fs) × (from ≤ b) × (b ≤ 2 ^ 64 - 1)
    here = same_fs fs from (2 ^ 64 - 1) a b in_it.0

    none : (l : ℕ) → from ≤ l → l < b → (t : Bool) → contains pair_cmp pairs (fs, l) ≡ t → t ≡ false
    none l more less true there =
        absurd (never b l less (above fs a b l here.0
        (subst (λ (o : Option (ℕ × ℕ)). IfSome o (λ k. IsLeBy pair_cmp k (fs, l))) first
        (is.2 (fs, l) (in_range fs from (2 ^ 64 - 1) l more (omega (arith, less, here.2))) there))))
      where
        never : (x y : ℕ) → y < x → x ≤ y → ⊥
        never x y p q = omega arith
    none l more less false there = refl

pub range_none : (fs from : ℕ) (pairs : BTreeSet (ℕ × ℕ)) (r : List (ℕ × ℕ)) → IsKeyRangeOf pair_cmp (Included (fs, from)) (Included (fs, 2 ^ 64 - 1)) pairs r → r ≡ [] → IsLeastIn fs from pairs None
range_none fs from pairs r is none = λ l more less. is.5 none (fs, l) (in_range fs from (2 ^ 64 - 1) l more (omega (arith, less)))

-- ---- how it follows a change

number_step : (hn n lane l : ℕ) (o : Option ℕ) (x y : Bool) → is_that l o ≡ x → is_that lane o ≡ y → (hn ≡ n → x ≡ true → l ≡ lane) → (lane ≡ l → x ≡ y) → is_that l (cond (hn == n) (Some lane) (cond y None o)) ≡ cond (lane == l) (hn == n) x
number_step hn n lane l o x y ex ey once alike = go (hn == n) refl (lane == l) refl y refl
  where
    -- it is no other lane's
    free : (x : Bool) → (lane == l) ≡ false → (x ≡ true → l ≡ lane) → x ≡ false
    free true unlike is = absurd (apart (lane == l) (grind (arith, nat_tests, is refl)) unlike)
    free false unlike is = refl

    -- it was another lane's
    gone : (o : Option ℕ) → is_that lane o ≡ true → (lane == l) ≡ false → is_that l o ≡ false
    gone None e unlike = cc
    gone (Some own) e unlike = grind (arith, nat_tests, e, unlike)

    go : (b : Bool) → (hn == n) ≡ b → (c : Bool) → (lane == l) ≡ c → (d : Bool) → y ≡ d → is_that l (cond b (Some lane) (cond d None o)) ≡ cond c b x
    go true eb true ec d ed = ec
    go true eb false ec d ed = ec ∙ sym (free x ec (once (same hn n eb)))
    go false eb true ec true ed = refl
    go false eb false ec true ed = sym (gone o (ey ∙ ed) ec) ∙ ex
    go false eb true ec false ed = ex ∙ alike (same lane l ec) ∙ ed
    go false eb false ec false ed = ex

of_cond : (b : Bool) (n : ℕ) (holder : Holder) (x : Option Holder) → cond b (holder.number == n) (is_of n x) ≡ is_of n (cond b (Some holder) x)
of_cond true n holder x = refl
of_cond false n holder x = refl

free_step : (b within fits e : Bool) (holder : Holder) (x : Option Holder) → (b ≡ true → fits ≡ true) → cond b (has_ended holder.look) (fits && is_free x) ≡ (fits && is_free (cond b (Some holder) x))
free_step true within true e holder x is = refl
free_step true within false e holder x is = absurd (apart false (is refl) refl)
free_step false within fits e holder x is = refl

token_step : (b : Bool) (fs : ℕ) (holder : Holder) (x was : Option Holder) → (b ≡ true → x ≡ was) → cond (b && is_in fs holder.look) true (cond (b && is_open fs was) false (is_open fs x)) ≡ is_open fs (cond b (Some holder) x)
token_step false fs holder x was alike = refl
token_step true fs holder x was alike = go (is_in fs holder.look) (is_open fs was) (is_open fs x) (ap (is_open fs) (alike refl))
  where
    go : (a y z : Bool) → z ≡ y → cond a true (cond y false z) ≡ a
    go true y z e = refl
    go false true z e = refl
    go false false z e = e

-- the lanes are those of the index but for one
pub record IsBut (lane : ℕ) (holder : Holder) (old new : List (Option Holder)) : Type 0 where
  pub long : length new ≡ length old
  pub there : lane < length old
  pub each : (l : ℕ) → at new l ≡ cond (lane == l) (Some holder) (at old l)

pub changed_index : (old new : List (Option Holder)) (lane : ℕ) (was : Option Holder) (holder : Holder) (before after : Index) → IsBut lane holder old new → at old lane ≡ was → ((l : ℕ) → is_of holder.number (at old l) ≡ true → l ≡ lane) → IsIndexOf old before → IsChanged lane was holder before after → IsIndexOf new after
changed_index old new lane was holder before after but here once is changed = record {
  numbers = λ n l.
      ap (is_that l) (changed.numbers n)
      ∙ number_step holder.number n lane l (number_lane before n) (is_of n (at old l)) (is_of n was)
      (is.numbers n l) (is.numbers n lane ∙ ap (is_of n) here)
      (λ e x. once l (subst (λ (m : ℕ). is_of m (at old l) ≡ true) (sym e) x))
      (λ e. ap (λ (k : ℕ). is_of n (at old k)) (sym e) ∙ ap (is_of n) here)
      ∙ of_cond (lane == l) n holder (at old l)
      ∙ ap (is_of n) (sym (but.each l));
  free = λ l.
      changed.free l
      ∙ ap (cond (lane == l) (has_ended holder.look)) (is.free l)
      ∙ free_step (lane == l) true (nat_lt l (length old)) true holder (at old l) (λ e. below lane l (length old) but.there e)
      ∙ ap (λ (x : Option Holder). nat_lt l (length old) && is_free x) (sym (but.each l))
      ∙ ap (λ (n : ℕ). nat_lt l n && is_free (at new l)) (sym but.long);
  tokens = λ fs l.
      changed.tokens fs l
      ∙ ap (λ (b : Bool). cond ((lane == l) && is_in fs holder.look) true (cond ((lane == l) && is_open fs was) false b)) (is.tokens fs l)
      ∙ token_step (lane == l) fs holder (at old l) was (λ e. ap (at old) (sym (same lane l e)) ∙ here)
      ∙ ap (is_open fs) (sym (but.each l));
}
  where
    below : (a b n : ℕ) → a < n → (a == b) ≡ true → nat_lt b n ≡ true
    below a b n less e = grind (arith, nat_tests, less, e)

pub put_index : (lanes : List (Option Holder)) (lane : ℕ) (was : Option Holder) (holder : Holder) (before after : Index) → lane < length lanes → at lanes lane ≡ was → ((l : ℕ) → is_of holder.number (at lanes l) ≡ true → l ≡ lane) → IsIndexOf lanes before → IsChanged lane was holder before after → IsIndexOf (set lanes lane (Some holder)) after
put_index lanes lane was holder before after within here once is changed =
    changed_index lanes (set lanes lane (Some holder)) lane was holder before after
    (record { long = length-set lanes lane (Some holder); there = within; each = put_at lanes lane (Some holder) within })
    here once is changed

-- ---- how it follows one more lane

pub pushed_index : (lanes : List (Option Holder)) (before after : Index) → IsIndexOf lanes before → IsWithFree (length lanes) before after → IsIndexOf (lanes ++ None ∷ []) after
pushed_index lanes before after is more = record {
  numbers = λ n l. ap (is_that l) (more.numbers n) ∙ is.numbers n l ∙ none (is_of n) refl l;
  free = λ l.
      more.free l ∙ ap (cond (length lanes == l) true) (is.free l)
      ∙ free l (length lanes == l) refl (at lanes l)
      ∙ ap (λ (x : Option Holder). nat_lt l (length lanes + 1) && is_free x) (sym (push_at lanes None l))
      ∙ ap (λ (n : ℕ). nat_lt l n && is_free (at (lanes ++ None ∷ []) l)) (sym (length_push lanes None));
  tokens = λ fs l. more.tokens fs l ∙ is.tokens fs l ∙ none (is_open fs) refl l;
}
  where
    none : (p : Option Holder → Bool) → p None ≡ false → (l : ℕ) → p (at lanes l) ≡ p (at (lanes ++ None ∷ []) l)
    none p unlike l = go (length lanes == l) refl ∙ ap p (sym (push_at lanes None l))
      where
        go : (b : Bool) → (length lanes == l) ≡ b → p (at lanes l) ≡ p (cond b None (at lanes l))
        go true e = ap p (get_or_past lanes l None (grind (arith, nat_tests, e)))
        go false e = refl

    within : (n l : ℕ) → (n == l) ≡ true → nat_lt l (n + 1) ≡ true
    within n l e = grind (arith, nat_tests, e)

    as_before : (n l : ℕ) → (n == l) ≡ false → nat_lt l n ≡ nat_lt l (n + 1)
    as_before n l e = grind (arith, nat_tests, e)

    free : (l : ℕ) (b : Bool) → (length lanes == l) ≡ b → (x : Option Holder) → cond b true (nat_lt l (length lanes) && is_free x) ≡ (nat_lt l (length lanes + 1) && is_free (cond b None x))
    free l true e x = ap (λ (b : Bool). b && true) (sym (within (length lanes) l e))
    free l false e x = ap (λ (b : Bool). b && is_free x) (as_before (length lanes) l e)

pub empty_index : (index : Index) → IsEmptyIndex index → IsIndexOf [] index
empty_index index is = record {
  numbers = λ n l. ap (λ es. is_that l (lookup (is_at (nat_cmp n)) es)) is.numbers ∙ ap (is_of n) (sym (get_or_past [] l None (omega arith)));
  free = λ l. ap (list_any (is_at (nat_cmp l))) is.free ∙ none l;
  tokens = λ fs l. ap (list_any (is_at (pair_cmp (fs, l)))) is.tokens ∙ ap (is_open fs) (sym (get_or_past [] l None (omega arith)));
}
  where
    none : (l : ℕ) → false ≡ (nat_lt l 0 && is_free (at [] l))
    none l = ap (λ (b : Bool). b && is_free (at [] l)) (never l)
      where
        never : (l : ℕ) → false ≡ nat_lt l 0
        never l = grind (arith, nat_tests)

-- ---- an index that is made

shorter : (hs : List (Option Holder)) (lane : ℕ) → lane < length hs → length (take lane hs) ≡ lane
shorter hs lane within = length-take-le lane hs (omega (arith, within))

pub made_nobody : (hs : List (Option Holder)) (lane : ℕ) (before after : Index) → lane < length hs → at hs lane ≡ None → IsIndexOf (take lane hs) before → IsWithFree lane before after → IsIndexOf (take (lane + 1) hs) after
made_nobody hs lane before after within nobody is more =
    subst (λ (xs : List (Option Holder)). IsIndexOf xs after)
    (sym (take_more hs lane None within ∙ ap (λ (x : Option Holder). take lane hs ++ x ∷ []) nobody))
    (pushed_index (take lane hs) before after is (subst (λ (n : ℕ). IsWithFree n before after) (sym (shorter hs lane within)) more))

pub made_holder : (hs : List (Option Holder)) (lane : ℕ) (holder : Holder) (before mid after : Index) → lane < length hs → at hs lane ≡ Some holder → IsOnce hs → IsIndexOf (take lane hs) before → IsWithFree lane before mid → IsChanged lane None holder mid after → IsIndexOf (take (lane + 1) hs) after
made_holder hs lane holder before mid after within held once is more changed =
    subst (λ (xs : List (Option Holder)). IsIndexOf xs after)
    (sym (take_more hs lane None within ∙ ap (λ (x : Option Holder). take lane hs ++ x ∷ []) held))
    (changed_index (front ++ None ∷ []) (front ++ Some holder ∷ []) lane None holder mid after
    (record {
      long = length_push front (Some holder) ∙ sym (length_push front None);
      there = subst (λ (n : ℕ). lane < n) (sym (length_push front None)) (subst (λ (n : ℕ). lane < n + 1) (sym short) (omega arith));
      each = λ l.
          push_at front (Some holder) l
          ∙ twice (length front == l) (lane == l) (ap (λ (n : ℕ). n == l) short) (at front l)
          ∙ ap (cond (lane == l) (Some holder)) (sym (push_at front None l));
    })
    (push_at front None lane ∙ ap (λ (b : Bool). cond b None (at front lane)) (here (length front) lane short))
    only
    (pushed_index front before mid is (subst (λ (n : ℕ). IsWithFree n before mid) (sym short) more))
    changed)
  where
    front : List (Option Holder)
    front = take lane hs

    short : length front ≡ lane
    short = shorter hs lane within

    here : (a b : ℕ) → a ≡ b → (a == b) ≡ true
    here a b e = grind (arith, nat_tests, e)

    twice : (b c : Bool) → b ≡ c → (x : Option Holder) → cond b (Some holder) x ≡ cond c (Some holder) (cond b None x)
    twice true true e x = refl
    twice false false e x = refl
    twice true false e x = cc
    twice false true e x = cc

    only : (l : ℕ) → is_of holder.number (at (front ++ None ∷ []) l) ≡ true → l ≡ lane
    only l p = go (length front == l) refl (ap (is_of holder.number) (sym (push_at front None l)) ∙ p)
      where
        go : (b : Bool) → (length front == l) ≡ b → is_of holder.number (cond b None (at front l)) ≡ true → l ≡ lane
        go true e q = absurd (apart false q refl)
        go false e q =
            once holder.number l lane
            (ap (is_of holder.number) (sym (get_or-take lane hs l None (subst (λ (n : ℕ). l < n) short (inside (is_of holder.number) front l refl q)))) ∙ q)
            (ap (is_of holder.number) held ∙ own holder.number)
          where
            own : (n : ℕ) → (n == n) ≡ true
            own n = grind (arith, nat_tests)
