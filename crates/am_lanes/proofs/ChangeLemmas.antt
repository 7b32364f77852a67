-- Lanes that were counted are enough.
use Rattle.std.proofs.Common.{◌≡◌, ◌<◌, ◌≤◌, ℕ, zero, suc, ◌+◌, ◌-◌, Bool, true, false, ◌||◌, List, [], ◌∷◌, ◌++◌, length, set, map, replicate, Option, Some, None, refl, sym, ap, ◌∙◌, subst, append_assoc, arith, if◌then◌else◌}
use Rattle.std.specs.List.{list_any, position, position_or_len}
use Rattle.std.proofs.lemmas.Bool.{lt-ltb, le-ltb}
use Rattle.std.proofs.lemmas.List.{length-append, length-set, length-map, map-append, set-append_left}
use Rattle.std.proofs.lemmas.List.Folds.{list_any-append}
use Rattle.am_lanes.specs.{Change, Ending, Holder, TakeNoOthers, TakesNoOthers, behind_change, ended_lane, grown_by, is_free, is_of, lane_for, may_take, placed, resting, sighted, with_lane, with_room}
use Rattle.am_lanes.specs.Changes.Change.{Places, Sights, Ends}
use Rattle.am_lanes.specs.Changes.{NobodyLosesALane}
use Rattle.am_lanes.proofs.LaneLemmas.{any_of_both}

-- a lane
abbrev pub Lane : Type 0
Lane = Option Holder

-- so many lanes, of which nobody holds those behind these
abbrev pub padded : ℕ → List Lane → List Lane
padded wide lanes = lanes ++ replicate (wide - length lanes) None

-- ---- where the first stands that passes

below_by : (test : Lane → Bool) (lane : Lane) (lanes : List Lane) (b : Bool) → (list_any test lanes ≡ true → position_or_len test lanes < length lanes) → test lane ≡ b → list_any test (lane ∷ lanes) ≡ true → position_or_len test (lane ∷ lanes) < length (lane ∷ lanes)
below_by test lane lanes true more f e = rw f (omega arith)
below_by test lane lanes false more f e = rw f (omega (arith, more (rw f at e)))

below : (test : Lane → Bool) (lanes : List Lane) → list_any test lanes ≡ true → position_or_len test lanes < length lanes
below test [] e = absurd cc
below test (lane ∷ lanes) e = below_by test lane lanes (test lane) (below test lanes) refl e

none_by : (test : Lane → Bool) (lane : Lane) (lanes : List Lane) (b : Bool) → (list_any test lanes ≡ false → position_or_len test lanes ≡ length lanes) → test lane ≡ b → list_any test (lane ∷ lanes) ≡ false → position_or_len test (lane ∷ lanes) ≡ length (lane ∷ lanes)
none_by test lane lanes true more f e = absurd (cc (rw f at e))
none_by test lane lanes false more f e = rw f (omega (arith, more (rw f at e)))

none : (test : Lane → Bool) (lanes : List Lane) → list_any test lanes ≡ false → position_or_len test lanes ≡ length lanes
none test [] e = refl
none test (lane ∷ lanes) e = none_by test lane lanes (test lane) (none test lanes) refl e

front_by : (test : Lane → Bool) (lane : Lane) (lanes others : List Lane) (b : Bool) → (list_any test lanes ≡ true → position_or_len test (lanes ++ others) ≡ position_or_len test lanes) → test lane ≡ b → list_any test (lane ∷ lanes) ≡ true → position_or_len test (lane ∷ lanes ++ others) ≡ position_or_len test (lane ∷ lanes)
front_by test lane lanes others true more f e = rw f refl
front_by test lane lanes others false more f e = rw f (ap (λ (n : ℕ). 1 + n) (more (rw f at e)))

front : (test : Lane → Bool) (lanes others : List Lane) → list_any test lanes ≡ true → position_or_len test (lanes ++ others) ≡ position_or_len test lanes
front test [] others e = absurd cc
front test (lane ∷ lanes) others e = front_by test lane lanes others (test lane) (front test lanes others) refl e

at_first : (test : Lane → Bool) (lanes : List Lane) → list_any test lanes ≡ true → position test lanes ≡ Some (position_or_len test lanes)
at_first test lanes e = rw (lt-ltb (position_or_len test lanes) (length lanes) (below test lanes e)) refl

nowhere : (test : Lane → Bool) (lanes : List Lane) → list_any test lanes ≡ false → position test lanes ≡ None
nowhere test lanes e = rw (none test lanes e, le-ltb (length lanes) (length lanes) (omega arith)) refl

-- ---- what is taken of lanes that others stand behind

any_front : (test : Lane → Bool) (lanes others : List Lane) → list_any test lanes ≡ true → list_any test (lanes ++ others) ≡ true
any_front test lanes others e = rw (list_any-append test lanes others, e) refl

any_neither : (test : Lane → Bool) (lanes others : List Lane) → list_any test lanes ≡ false → list_any test others ≡ false → list_any test (lanes ++ others) ≡ false
any_neither test lanes others e f = rw (list_any-append test lanes others, e, f) refl

set_front : (test : Lane → Bool) (x : Lane) (lanes others : List Lane) → list_any test lanes ≡ true → set (lanes ++ others) (position_or_len test (lanes ++ others)) x ≡ set lanes (position_or_len test lanes) x ++ others
set_front test x lanes others e =
    ap (λ (i : ℕ). set (lanes ++ others) i x) (front test lanes others e)
    ∙ set-append_left lanes others (position_or_len test lanes) x (below test lanes e)

placed_own : (holder : Holder) (lanes : List Lane) → list_any (λ lane. is_of holder.number lane) lanes ≡ true → placed holder lanes ≡ set lanes (position_or_len (λ lane. is_of holder.number lane) lanes) (Some holder)
placed_own holder lanes e = rw (at_first (λ lane. is_of holder.number lane) lanes e) refl

placed_free : (holder : Holder) (lanes : List Lane) → list_any (λ lane. is_of holder.number lane) lanes ≡ false → list_any (λ lane. is_free lane) lanes ≡ true → placed holder lanes ≡ set lanes (position_or_len (λ lane. is_free lane) lanes) (Some holder)
placed_free holder lanes e f = rw (nowhere (λ lane. is_of holder.number lane) lanes e, at_first (λ lane. is_free lane) lanes f) refl

front_cases : (holder : Holder) (lanes others : List Lane) (own free : Bool) → list_any (λ lane. is_of holder.number lane) lanes ≡ own → list_any (λ lane. is_free lane) lanes ≡ free → (own || free) ≡ true → list_any (λ lane. is_of holder.number lane) others ≡ false → placed holder (lanes ++ others) ≡ placed holder lanes ++ others
front_cases holder lanes others true free e f either none =
    placed_own holder (lanes ++ others) (any_front (λ lane. is_of holder.number lane) lanes others e)
    ∙ set_front (λ lane. is_of holder.number lane) (Some holder) lanes others e
    ∙ ap (λ (t : List Lane). t ++ others) (sym (placed_own holder lanes e))
front_cases holder lanes others false true e f either none =
    placed_free holder (lanes ++ others) (any_neither (λ lane. is_of holder.number lane) lanes others e none) (any_front (λ lane. is_free lane) lanes others f)
    ∙ set_front (λ lane. is_free lane) (Some holder) lanes others f
    ∙ ap (λ (t : List Lane). t ++ others) (sym (placed_free holder lanes e f))
front_cases holder lanes others false false e f either none = absurd cc

nobodys : (number : ℕ) (n : ℕ) → list_any (λ lane. is_of number lane) (replicate n None) ≡ false
nobodys number zero = refl
nobodys number (suc n) = nobodys number n

placed_front : (holder : Holder) (lanes : List Lane) (n : ℕ) → list_any (λ lane. may_take holder.number lane) lanes ≡ true → placed holder (lanes ++ replicate n None) ≡ placed holder lanes ++ replicate n None
placed_front holder lanes n e =
    front_cases holder lanes (replicate n None) (list_any (λ lane. is_of holder.number lane) lanes) (list_any (λ lane. is_free lane) lanes) refl refl (any_of_both holder.number lanes ∙ e) (nobodys holder.number n)

-- ---- lanes that are added

length_placed : (holder : Holder) (lanes : List Lane) → length (placed holder lanes) ≡ length lanes
length_placed holder lanes = length-set lanes (lane_for holder.number lanes) (Some holder)

more_by : (number : ℕ) (lanes : List Lane) (b : Bool) → length lanes ≤ length (if b then lanes else lanes ++ None ∷ [])
more_by number lanes true = omega arith
more_by number lanes false = omega (arith, length-append lanes (None ∷ []))

more_lanes : (number : ℕ) (lanes : List Lane) → length lanes ≤ length (with_lane number lanes)
more_lanes number lanes = more_by number lanes (list_any (λ lane. may_take number lane) lanes)

-- a lane more of nobody's is one of those that are to come
grown_padded : (number : ℕ) (lanes : List Lane) (wide : ℕ) (b : Bool) → list_any (λ lane. may_take number lane) lanes ≡ b → length (with_lane number lanes) ≤ wide → padded wide (with_lane number lanes) ≡ padded wide lanes
grown_padded number lanes wide true e fits = rw e refl
grown_padded number lanes wide false e fits = rw e (
    append_assoc lanes (None ∷ []) (replicate (wide - length (lanes ++ None ∷ [])) None)
    ∙ ap (λ (t : List Lane). lanes ++ t) (one_more (wide - length (lanes ++ None ∷ [])) (wide - length lanes) (omega (arith, length-append lanes (None ∷ []), rw e at fits))))
  where
    one_more : (a b : ℕ) → b ≡ suc a → None ∷ replicate a None ≡ replicate {A = Lane} b None
    one_more a b e = ap (λ (n : ℕ). replicate {A = Lane} n None) (sym e)

takes_by : (number : ℕ) (lanes : List Lane) (b : Bool) → list_any (λ lane. may_take number lane) lanes ≡ b → list_any (λ lane. may_take number lane) (with_lane number lanes) ≡ true
takes_by number lanes true e = rw e e
takes_by number lanes false e = rw (e, list_any-append (λ lane. may_take number lane) lanes (None ∷ []), e) refl

-- there is a lane to be taken once one was added where there is none
takes : (number : ℕ) (lanes : List Lane) → list_any (λ lane. may_take number lane) (with_lane number lanes) ≡ true
takes number lanes = takes_by number lanes (list_any (λ lane. may_take number lane) lanes) refl

-- ---- the same lanes, with those that are to come

place_padded : (holder : Holder) (lanes : List Lane) (wide : ℕ) → length (with_lane holder.number lanes) ≤ wide → placed holder (padded wide lanes) ≡ padded wide (placed holder (with_lane holder.number lanes))
place_padded holder lanes wide fits =
    let more : List Lane = with_lane holder.number lanes in
    ap (placed holder) (sym (grown_padded holder.number lanes wide (list_any (λ lane. may_take holder.number lane) lanes) refl fits))
    ∙ placed_front holder more (wide - length more) (takes holder.number lanes)
    ∙ ap (λ (n : ℕ). placed holder more ++ replicate (wide - n) None) (sym (length_placed holder more))

may_padded : (number : ℕ) (lanes : List Lane) (wide : ℕ) → length (with_lane number lanes) ≤ wide → list_any (λ lane. may_take number lane) (padded wide lanes) ≡ true
may_padded number lanes wide fits =
    subst (λ (t : List Lane). list_any (λ lane. may_take number lane) t ≡ true) (grown_padded number lanes wide (list_any (λ lane. may_take number lane) lanes) refl fits)
    (any_front (λ lane. may_take number lane) (with_lane number lanes) (replicate (wide - length (with_lane number lanes)) None) (takes number lanes))

ended_none : (ending : Ending) (n : ℕ) → map (ended_lane ending) (replicate n None) ≡ replicate n None
ended_none ending zero = refl
ended_none ending (suc n) = ap (λ (t : List Lane). None ∷ t) (ended_none ending n)

end_padded : (ending : Ending) (lanes : List Lane) (wide : ℕ) → map (ended_lane ending) (padded wide lanes) ≡ padded wide (map (ended_lane ending) lanes)
end_padded ending lanes wide =
    map-append (ended_lane ending) lanes (replicate (wide - length lanes) None)
    ∙ ap (λ (t : List Lane). map (ended_lane ending) lanes ++ t) (ended_none ending (wide - length lanes))
    ∙ ap (λ (n : ℕ). map (ended_lane ending) lanes ++ replicate (wide - n) None) (sym (length-map lanes (ended_lane ending)))

own_takes : (number : ℕ) (lanes : List Lane) → list_any (λ lane. is_of number lane) lanes ≡ true → list_any (λ lane. may_take number lane) lanes ≡ true
own_takes number lanes e = sym (any_of_both number lanes) ∙ ap (λ (b : Bool). b || list_any (λ lane. is_free lane) lanes) e

none_own_by : (number : ℕ) (lanes : List Lane) (b : Bool) → list_any (λ lane. may_take number lane) lanes ≡ b → list_any (λ lane. is_of number lane) lanes ≡ false → list_any (λ lane. is_of number lane) (with_lane number lanes) ≡ false
none_own_by number lanes true e none = rw e none
none_own_by number lanes false e none = rw e (any_neither (λ lane. is_of number lane) lanes (None ∷ []) none refl)

sight_by : (holder : Holder) (lanes : List Lane) (wide : ℕ) (b : Bool) → list_any (λ lane. is_of holder.number lane) lanes ≡ b → length (with_lane holder.number lanes) ≤ wide → sighted holder (padded wide lanes) ≡ padded wide (sighted holder (with_lane holder.number lanes))
sight_by holder lanes wide true e fits =
    rw (any_front (λ lane. is_of holder.number lane) lanes (replicate (wide - length lanes) None) e, own_takes holder.number lanes e, e) refl
sight_by holder lanes wide false e fits =
    rw (any_neither (λ lane. is_of holder.number lane) lanes (replicate (wide - length lanes) None) e (nobodys holder.number (wide - length lanes)), none_own_by holder.number lanes (list_any (λ lane. may_take holder.number lane) lanes) refl e) (place_padded holder lanes wide fits)

length_sighted : (holder : Holder) (lanes : List Lane) → length (sighted holder lanes) ≡ length lanes
length_sighted holder lanes = go (list_any (λ lane. is_of holder.number lane) lanes)
  where
    go : (b : Bool) → length (if b then lanes else placed holder lanes) ≡ length lanes
    go true = refl
    go false = length_placed holder lanes

-- ---- any change

length_behind : (lanes : List Lane) (change : Change) → length (behind_change lanes change) ≡ length lanes
length_behind lanes (Places holder) = length_placed holder lanes
length_behind lanes (Sights walker number) = length_sighted (resting walker number) lanes
length_behind lanes (Ends ending) = length-map lanes (ended_lane ending)

with_more : (lanes : List Lane) (change : Change) → length lanes ≤ length (with_room lanes change)
with_more lanes (Places holder) = more_lanes holder.number lanes
with_more lanes (Sights walker number) = more_lanes walker lanes
with_more lanes (Ends ending) = omega arith

never_fewer : (lanes : List Lane) (changes : List Change) → length lanes ≤ length (grown_by lanes changes)
never_fewer lanes [] = omega arith
never_fewer lanes (change ∷ changes) =
    omega (arith, with_more lanes change, length_behind (with_room lanes change) change, never_fewer (behind_change (with_room lanes change) change) changes)

change_padded : (lanes : List Lane) (change : Change) (wide : ℕ) → length (with_room lanes change) ≤ wide → behind_change (padded wide lanes) change ≡ padded wide (behind_change (with_room lanes change) change)
change_padded lanes (Places holder) wide fits = place_padded holder lanes wide fits
change_padded lanes (Sights walker number) wide fits = sight_by (resting walker number) lanes wide (list_any (λ lane. is_of walker lane) lanes) refl fits
change_padded lanes (Ends ending) wide fits = end_padded ending lanes wide

takes_no_others : (lanes : List Lane) (change : Change) (wide : ℕ) → length (with_room lanes change) ≤ wide → TakesNoOthers (padded wide lanes) change
takes_no_others lanes (Places holder) wide fits = may_padded holder.number lanes wide fits
takes_no_others lanes (Sights walker number) wide fits = may_padded walker lanes wide fits
takes_no_others lanes (Ends ending) wide fits = tt

enough : (lanes : List Lane) (changes later : List Change) (wide : ℕ) → length (grown_by lanes (changes ++ later)) ≤ wide → TakeNoOthers (padded wide lanes) changes
enough lanes [] later wide fits = tt
enough lanes (change ∷ changes) later wide fits =
    let next : List Lane = behind_change (with_room lanes change) change in
    let room : length (with_room lanes change) ≤ wide = omega (arith, fits, length_behind (with_room lanes change) change, never_fewer next (changes ++ later)) in (
      takes_no_others lanes change wide room,
      subst (λ (t : List Lane). TakeNoOthers t changes) (sym (change_padded lanes change wide room)) (enough next changes later wide fits),
    )

pub nobody_loses : NobodyLosesALane
nobody_loses changes later =
    subst (λ (n : ℕ). TakeNoOthers (replicate {A = Lane} n None) changes) (whole (length (grown_by [] (changes ++ later))))
    (enough [] changes later (length (grown_by [] (changes ++ later))) (omega arith))
  where
    whole : (n : ℕ) → n - 0 ≡ n
    whole n = omega arith
