-- Bars are what the changes tell.
use Rattle.std.proofs.Common.{◌≡◌, ◌<◌, ℕ, zero, suc, Bool, true, false, ◌||◌, cond, List, [], ◌∷◌, ◌++◌, length, map, replicate, Option, Some, None, refl, sym, ap, ◌∙◌, subst, arith, if◌then◌else◌}
use Rattle.std.specs.Prelude.{◌==◌, is_some}
use Rattle.std.specs.List.{list_any, position}
use Rattle.std.proofs.lemmas.Bool.{eqb-true}
use Rattle.std.proofs.lemmas.Bool.Decides.{nat_tests}
use Rattle.std.proofs.lemmas.List.{get_or_past}
use Rattle.std.proofs.lemmas.List.Folds.{list_any_at}
use Rattle.std.proofs.lemmas.List.Quantifiers.{position-Some}
use Rattle.std.proofs.Math.ListN.{get_or-map}
use Rattle.am_names.proofs.Basics.{or_left, or_right}
use Rattle.am_lanes.specs.declared.holder.Look.{Look}
use Rattle.am_lanes.specs.declared.holder.Ending.TheVariants.{Of, In, All}
use Rattle.am_lanes.specs.{Change, Ending, Holder, TakeNoOthers, TakesNoOthers, bar_behind, behind_all, behind_change, grown_by, ended, ended_lane, ends, is_free, is_of, lane_for, may_take, placed, resting, sighted}
use Rattle.am_lanes.specs.Bars.{at, has_ended, or_last, own_or_free}
use Rattle.am_lanes.specs.Changes.Change.{Places, Sights, Ends}
use Rattle.am_lanes.specs.Changes.{BarsAreTold, HasBar, MayTake, bar_in, lanes_for, shown, then_bar, unless_ended}
use Rattle.am_lanes.specs.Inside.{IsOnce}
use Rattle.am_lanes.proofs.ChangeLemmas.{nobody_loses}
use Rattle.am_lanes.proofs.LaneLemmas.{any_found, any_of_both, apart, inside, once_put, only_there, put_at}

-- ---- one lane

bar_own : (number : ℕ) (lane : Option Holder) (look : Look) → bar_in number lane ≡ Some look → is_of number lane ≡ true
bar_own number None look e = cc
bar_own number (Some holder) look e = go (holder.number == number) refl e
  where
    go : (b : Bool) → (holder.number == number) ≡ b → (if b then shown holder.look else None) ≡ Some look → (holder.number == number) ≡ true
    go true is e = is
    go false is e = cc

shown_busy : (look other : Look) → shown look ≡ Some other → has_ended look ≡ false
shown_busy look other e = go (has_ended look) refl e
  where
    go : (b : Bool) → has_ended look ≡ b → (if b then None else Some look) ≡ Some other → has_ended look ≡ false
    go true is e = cc
    go false is e = is

bar_busy : (number : ℕ) (lane : Option Holder) (look : Look) → bar_in number lane ≡ Some look → is_free lane ≡ false
bar_busy number None look e = cc
bar_busy number (Some holder) look e = go (holder.number == number) e
  where
    go : (b : Bool) → (if b then shown holder.look else None) ≡ Some look → has_ended holder.look ≡ false
    go true e = shown_busy holder.look look e
    go false e = cc

-- ---- the lane that is taken

pub record Taken (number : ℕ) (lanes : List (Option Holder)) (lane : ℕ) : Type 0 where
  pub within : lane < length lanes
  pub takes : may_take number (at lanes lane) ≡ true

taken : (number : ℕ) (lanes : List (Option Holder)) → MayTake number lanes → Taken number lanes (lane_for number lanes)
taken number lanes may = own (position (λ lane. is_of number lane) lanes) refl
  where
    free : list_any (λ lane. is_of number lane) lanes ≡ false → (o : Option ℕ) → position (λ lane. is_free lane) lanes ≡ o → Taken number lanes (or_last lanes o)
    free none (Some i) e =
        let at_i = position-Some (λ lane. is_free lane) lanes i None e in
        record { within = at_i.0; takes = or_right (is_of number (at lanes i)) (is_free (at lanes i)) at_i.1 }
    free none None e =
        absurd (apart (list_any (λ lane. may_take number lane) lanes) may
        (sym (any_of_both number lanes)
        ∙ ap (λ (b : Bool). b || list_any (λ lane. is_free lane) lanes) none
        ∙ sym (any_found (λ lane. is_free lane) lanes) ∙ ap is_some e))

    own : (o : Option ℕ) → position (λ lane. is_of number lane) lanes ≡ o → Taken number lanes (own_or_free lanes o)
    own (Some i) e =
        let at_i = position-Some (λ lane. is_of number lane) lanes i None e in
        record { within = at_i.0; takes = or_left (is_of number (at lanes i)) (is_free (at lanes i)) at_i.1 }
    own None e = free (sym (any_found (λ lane. is_of number lane) lanes) ∙ ap is_some e) (position (λ lane. is_free lane) lanes) refl

-- ---- what is told so far

pub record Tells (lanes : List (Option Holder)) (bar : ℕ → Option Look) : Type 0 where
  pub once : IsOnce lanes
  pub there : (number : ℕ) (look : Look) → bar number ≡ Some look → HasBar number look lanes
  pub no_other : (number : ℕ) (look : Look) → HasBar number look lanes → bar number ≡ Some look

nobody_at : (n l : ℕ) → at (replicate n None) l ≡ None
nobody_at zero l = get_or_past [] l None (omega arith)
nobody_at (suc n) zero = refl
nobody_at (suc n) (suc l) = nobody_at n l

tells_nothing : (n : ℕ) → Tells (replicate n None) (λ number. None)
tells_nothing n = record {
  once = λ number i j p q. absurd (apart (is_of number (at (replicate n None) i)) p (ap (is_of number) (nobody_at n i)));
  there = λ number look e. cc;
  no_other = λ number look has. sym (ap (bar_in number) (nobody_at n has.0)) ∙ has.1;
}

same : (a b : ℕ) → (a == b) ≡ true → a ≡ b
same a b e = eqb-true a b e

tells_place : (lanes : List (Option Holder)) (bar : ℕ → Option Look) (holder : Holder) → Tells lanes bar → MayTake holder.number lanes → Tells (placed holder lanes) (λ number. then_bar number (bar number) (Places holder))
tells_place lanes bar holder t may = record {
  once = once_put lanes lane holder tk.within t.once only;
  there = λ number look e. there number look (holder.number == number) refl e;
  no_other = λ number look has. no_other number look has.0 (lane == has.0) refl (holder.number == number) refl (sym (ap (bar_in number) (put_at lanes lane (Some holder) tk.within has.0)) ∙ has.1);
}
  where
    lane : ℕ
    lane = lane_for holder.number lanes

    tk : Taken holder.number lanes lane
    tk = taken holder.number lanes may

    only : (l : ℕ) → is_of holder.number (at lanes l) ≡ true → l ≡ lane
    only = only_there lanes holder.number t.once

    here : (a : ℕ) → (a == a) ≡ true
    here a = grind (arith, nat_tests)

    -- whose bar stands in the lane is who takes it
    owner : (number : ℕ) (look : Look) → bar_in number (at lanes lane) ≡ Some look → (holder.number == number) ≡ true
    owner number look e = go (at lanes lane) refl e
      where
        mine : (h : Holder) → (holder.number == holder.number) ≡ true → (h.number == holder.number) ≡ true → (h.number == number) ≡ true → (holder.number == number) ≡ true
        mine h _ p q = subst (λ (n : ℕ). (n == number) ≡ true) (same h.number holder.number p) q

        go : (x : Option Holder) → at lanes lane ≡ x → bar_in number x ≡ Some look → (holder.number == number) ≡ true
        go None is e = cc
        go (Some h) is e =
            mine h refl' (own (is_of holder.number (Some h)) refl) (bar_own number (Some h) look e)
          where
            refl' : (holder.number == holder.number) ≡ true
            refl' = here holder.number

            own : (b : Bool) → is_of holder.number (Some h) ≡ b → is_of holder.number (Some h) ≡ true
            own true f = f
            own false f =
                absurd (apart (is_free (Some h))
                (sym (ap (λ (b : Bool). b || is_free (Some h)) f) ∙ ap (may_take holder.number) (sym is) ∙ tk.takes)
                (bar_busy number (Some h) look e))

    there : (number : ℕ) (look : Look) (b : Bool) → (holder.number == number) ≡ b → (if b then shown holder.look else bar number) ≡ Some look → HasBar number look (placed holder lanes)
    there number look true is e = (
      lane,
      ap (bar_in number) (put_at lanes lane (Some holder) tk.within lane ∙ ap (λ (b : Bool). cond b (Some holder) (at lanes lane)) (here lane))
          ∙ ap (λ (b : Bool). if b then shown holder.look else None) is ∙ e,
    )
    there number look false is e =
        let has = t.there number look e in
        (has.0, ap (bar_in number) (put_at lanes lane (Some holder) tk.within has.0) ∙ other has.0 has.1 (lane == has.0) refl)
      where
        other : (l : ℕ) → bar_in number (at lanes l) ≡ Some look → (b : Bool) → (lane == l) ≡ b → bar_in number (cond b (Some holder) (at lanes l)) ≡ Some look
        other l e true f = absurd (apart (holder.number == number) (owner number look (ap (λ (k : ℕ). bar_in number (at lanes k)) (same lane l f) ∙ e)) is)
        other l e false f = e

    no_other : (number : ℕ) (look : Look) (l : ℕ) (b : Bool) → (lane == l) ≡ b → (c : Bool) → (holder.number == number) ≡ c → bar_in number (cond b (Some holder) (at lanes l)) ≡ Some look → (if c then shown holder.look else bar number) ≡ Some look
    no_other number look l true f true g e = sym (ap (λ (b : Bool). if b then shown holder.look else None) g) ∙ e
    no_other number look l true f false g e = absurd (apart (holder.number == number) (bar_own number (Some holder) look e) g)
    no_other number look l false f true g e =
        absurd (apart (lane == l)
        (ap (λ (k : ℕ). lane == k) (only l (subst (λ (n : ℕ). is_of n (at lanes l) ≡ true) (sym (same holder.number number g)) (bar_own number (at lanes l) look e))) ∙ here lane) f)
    no_other number look l false f false g e = t.no_other number look (l, e)

-- the same bars, told otherwise
retold : (lanes : List (Option Holder)) (bar other : ℕ → Option Look) → ((number : ℕ) → other number ≡ bar number) → Tells lanes bar → Tells lanes other
retold lanes bar other is t = record {
  once = t.once;
  there = λ number look e. t.there number look (sym (is number) ∙ e);
  no_other = λ number look has. is number ∙ t.no_other number look has;
}

tells_sight : (lanes : List (Option Holder)) (bar : ℕ → Option Look) (walker number : ℕ) → Tells lanes bar → MayTake walker lanes → Tells (sighted (resting walker number) lanes) bar
tells_sight lanes bar walker number t may = go (list_any (λ lane. is_of walker lane) lanes) refl
  where
    go : (b : Bool) → list_any (λ lane. is_of walker lane) lanes ≡ b → Tells (if b then lanes else placed (resting walker number) lanes) bar
    go true is = t
    go false none =
        retold (placed (resting walker number) lanes) (λ n. then_bar n (bar n) (Places (resting walker number))) bar
        (λ n. unchanged n (walker == n) refl)
        (tells_place lanes bar (resting walker number) t may)
      where
        bare : (o : Option Look) → bar walker ≡ o → bar walker ≡ None
        bare None e = e
        bare (Some look) e =
            let has = t.there walker look e in
            let own = bar_own walker (at lanes has.0) look has.1 in
            absurd (apart (list_any (λ lane. is_of walker lane) lanes)
            (list_any_at (λ lane. is_of walker lane) lanes has.0 None (inside (λ lane. is_of walker lane) lanes has.0 refl own) own) none)

        unchanged : (n : ℕ) (b : Bool) → (walker == n) ≡ b → bar n ≡ (if b then None else bar n)
        unchanged n true e = ap bar (sym (same walker n e)) ∙ bare (bar walker) refl
        unchanged n false e = refl

of_ended : (ending : Ending) (number : ℕ) (lane : Option Holder) → is_of number (ended_lane ending lane) ≡ is_of number lane
of_ended ending number None = refl
of_ended ending number (Some holder) = go (ends ending holder)
  where
    go : (b : Bool) → is_of number (if b then Some (ended holder) else Some holder) ≡ is_of number (Some holder)
    go true = refl
    go false = refl

-- whether a bar ends doesn't depend on where it began
ends_alike : (ending : Ending) (holder : Holder) (number : ℕ) → (holder.number == number) ≡ true → ends ending (record { number = number; look = holder.look; since = 0 }) ≡ ends ending holder
ends_alike (Of other) holder number e = ap (λ (n : ℕ). n == other) (sym (same holder.number number e))
ends_alike (In fs) holder number e = refl
ends_alike All holder number e = refl

bar_ended : (ending : Ending) (number : ℕ) (lane : Option Holder) → bar_in number (ended_lane ending lane) ≡ unless_ended ending number (bar_in number lane)
bar_ended ending number None = refl
bar_ended ending number (Some holder) = go (ends ending holder) refl (holder.number == number) refl
  where
    -- the bar of a number, unless it ends
    rest : (b : Bool) → ends ending (record { number = number; look = holder.look; since = 0 }) ≡ b → unless_ended ending number (shown holder.look) ≡ (if b then None else shown holder.look)
    rest b is = shows (has_ended holder.look) b is
      where
        shows : (h b : Bool) → ends ending (record { number = number; look = holder.look; since = 0 }) ≡ b → unless_ended ending number (if h then None else Some holder.look) ≡ (if b then None else (if h then None else Some holder.look))
        shows true true is = refl
        shows true false is = refl
        shows false b is = ap (λ (e : Bool). if e then None else Some holder.look) is

    go : (b : Bool) → ends ending holder ≡ b → (c : Bool) → (holder.number == number) ≡ c → bar_in number (if b then Some (ended holder) else Some holder) ≡ unless_ended ending number (if c then shown holder.look else None)
    go true is true own = ap (λ (c : Bool). if c then None else None) own ∙ sym (rest true (ends_alike ending holder number own ∙ is))
    go true is false other = ap (λ (c : Bool). if c then None else None) other
    go false is true own = ap (λ (c : Bool). if c then shown holder.look else None) own ∙ sym (rest false (ends_alike ending holder number own ∙ is))
    go false is false other = ap (λ (c : Bool). if c then shown holder.look else None) other

tells_end : (lanes : List (Option Holder)) (bar : ℕ → Option Look) (ending : Ending) → Tells lanes bar → Tells (map (ended_lane ending) lanes) (λ number. unless_ended ending number (bar number))
tells_end lanes bar ending t = record {
  once = λ number i j p q.
      t.once number i j
      (sym (of_ended ending number (at lanes i)) ∙ ap (is_of number) (sym (mapped i)) ∙ p)
      (sym (of_ended ending number (at lanes j)) ∙ ap (is_of number) (sym (mapped j)) ∙ q);
  there = λ number look e. there number look (bar number) refl e;
  no_other = λ number look has.
      no_other number look (bar_in number (at lanes has.0)) has.0 refl
      (sym (bar_ended ending number (at lanes has.0)) ∙ ap (bar_in number) (sym (mapped has.0)) ∙ has.1);
}
  where
    mapped : (l : ℕ) → at (map (ended_lane ending) lanes) l ≡ ended_lane ending (at lanes l)
    mapped l = get_or-map (ended_lane ending) lanes l None

    there : (number : ℕ) (look : Look) (o : Option Look) → bar number ≡ o → unless_ended ending number o ≡ Some look → HasBar number look (map (ended_lane ending) lanes)
    there number look None is e = cc
    there number look (Some before) is e =
        let has = t.there number before is in
        (has.0, ap (bar_in number) (mapped has.0) ∙ bar_ended ending number (at lanes has.0) ∙ ap (unless_ended ending number) has.1 ∙ e)

    no_other : (number : ℕ) (look : Look) (o : Option Look) (l : ℕ) → bar_in number (at lanes l) ≡ o → unless_ended ending number o ≡ Some look → unless_ended ending number (bar number) ≡ Some look
    no_other number look None l is e = cc
    no_other number look (Some before) l is e = ap (unless_ended ending number) (t.no_other number before (l, is)) ∙ e

tells_change : (lanes : List (Option Holder)) (bar : ℕ → Option Look) (change : Change) → Tells lanes bar → TakesNoOthers lanes change → Tells (behind_change lanes change) (λ number. then_bar number (bar number) change)
tells_change lanes bar (Places holder) t may = tells_place lanes bar holder t may
tells_change lanes bar (Sights walker number) t may = tells_sight lanes bar walker number t may
tells_change lanes bar (Ends ending) t may = tells_end lanes bar ending t

tells_all : (lanes : List (Option Holder)) (bar : ℕ → Option Look) (changes : List Change) → Tells lanes bar → TakeNoOthers lanes changes → Tells (behind_all lanes changes) (λ number. bar_behind number (bar number) changes)
tells_all lanes bar [] t take = t
tells_all lanes bar (change ∷ changes) t take =
    tells_all (behind_change lanes change) (λ number. then_bar number (bar number) change) changes (tells_change lanes bar change t take.0) take.1

pub all_told : BarsAreTold
all_told changes later =
    let t = tells_all (lanes_for (changes ++ later)) (λ number. None) changes (tells_nothing (length (grown_by [] (changes ++ later)))) (nobody_loses changes later) in
    record {
      there = t.there;
      no_other = t.no_other;
      once = λ number i j look other p q. t.once number i j (bar_own number (at (behind_all (lanes_for (changes ++ later)) changes) i) look p) (bar_own number (at (behind_all (lanes_for (changes ++ later)) changes) j) other q);
    }
