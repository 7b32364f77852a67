-- Lanes of failures: as many as they come to are enough, and those that last have them.
use Rattle.std.proofs.Common.{◌≡◌, ◌⊎◌, ℕ, zero, suc, ◌+◌, ◌-◌, ◌≤◌, Bool, true, false, List, [], ◌∷◌, ◌++◌, length, map, get_or, set, replicate, Option, None, Some, refl, sym, ap, subst, ◌∙◌, inl, inr, ⊎_elim, append_assoc, arith, cond, ltb, if◌then◌else◌}
use Rattle.std.specs.Prelude.{◌||◌, is_none}
use Rattle.std.specs.List.{list_any, position}
use Rattle.std.specs.Option.{option_and_then}
use Rattle.std.proofs.lemmas.Bool.{lt-ltb, ltb-true}
use Rattle.std.proofs.lemmas.Bool.Decides.{nat_tests}
use Rattle.std.proofs.lemmas.List.{length-append, length-map}
use Rattle.am_names.specs.{fail_no_numbered, fail_number, same_trigger}
use Rattle.am_names.specs.declared.fail_no.FailNo.{FailNo}
use Rattle.am_names.specs.declared.fail_no.FailNo.TheVariants.{ENOENT, EPERM, EBUSY, EEXIST, EINVAL, EAGAIN, ELOOP, ENAMETOOLONG, ENOSPC}
use Rattle.am_names.specs.declared.trigger.Trigger.{Trigger}
use Rattle.am_names.proofs.Basics.{and_of_both, both_of_and, equal_by_test, or_left, or_right, some_injective}
use Rattle.am_names.proofs.SameTriggers.{equal_by_same_trigger, same_trigger_itself}
use Rattle.std.proofs.lemmas.Bool.{eq-eqb}
use Rattle.am_kernel.specs.{KernelState}
use Rattle.am_trigger.specs.{Failure, FailureRows, failure_of}
use Rattle.am_trigger.specs.Failures.{lasts}
use Rattle.am_draw.specs.{Failing, empty_lane, fresh, kept_failing, with_empty, with_failing}
use Rattle.am_draw.specs.Failures.{failing_at, has_failing, if_fresh, is_at, is_failing, is_that, lasting_in, newest, same_failure, still}
use Rattle.am_draw.specs.Changes.{HasFailure, HaveFailures, failure_in}

-- ---- lanes behind events

abbrev pub begun_lanes : Option Failing → List (Option Failing) → List (Option Failing)
begun_lanes None lanes = lanes
begun_lanes (Some held) lanes = with_failing held lanes

abbrev pub room_lanes : Option Failing → List (Option Failing) → List (Option Failing)
room_lanes None lanes = lanes
room_lanes (Some held) lanes = with_empty lanes

-- those that last
abbrev pub kept : ℕ → KernelState → List (Option Failing) → List (Option Failing)
kept negative k lanes = map (kept_failing negative k) lanes

-- behind an event by its number, and the kernel that it leaves
abbrev pub turned_lanes : ℕ → List (Option Failing) → ℕ × KernelState → List (Option Failing)
turned_lanes negative lanes p =
    begun_lanes (fresh p.0 negative p.1 (kept negative p.1 lanes)) (kept negative p.1 lanes)

-- and where a lane is added
abbrev pub grown_lanes : ℕ → List (Option Failing) → ℕ × KernelState → List (Option Failing)
grown_lanes negative lanes p =
    begun_lanes (fresh p.0 negative p.1 (kept negative p.1 lanes))
    (room_lanes (fresh p.0 negative p.1 (kept negative p.1 lanes)) (kept negative p.1 lanes))

abbrev pub all_turned : ℕ → List (Option Failing) → List (ℕ × KernelState) → List (Option Failing)
all_turned negative lanes [] = lanes
all_turned negative lanes (p ∷ ps) = all_turned negative (turned_lanes negative lanes p) ps

abbrev pub all_grown : ℕ → List (Option Failing) → List (ℕ × KernelState) → List (Option Failing)
all_grown negative lanes [] = lanes
all_grown negative lanes (p ∷ ps) = all_grown negative (grown_lanes negative lanes p) ps

pub turned_both : (negative : ℕ) (lanes : List (Option Failing)) (a b : List (ℕ × KernelState)) → all_turned negative lanes (a ++ b) ≡ all_turned negative (all_turned negative lanes a) b
turned_both negative lanes [] b = refl
turned_both negative lanes (p ∷ a) b = turned_both negative (turned_lanes negative lanes p) a b

pub grown_both : (negative : ℕ) (lanes : List (Option Failing)) (a b : List (ℕ × KernelState)) → all_grown negative lanes (a ++ b) ≡ all_grown negative (all_grown negative lanes a) b
grown_both negative lanes [] b = refl
grown_both negative lanes (p ∷ a) b = grown_both negative (grown_lanes negative lanes p) a b

-- ---- lanes that nobody holds, behind all others

abbrev nobody : ℕ → List (Option Failing)
nobody n = replicate n None

abbrev any_empty : List (Option Failing) → Bool
any_empty lanes = list_any (λ lane. is_none lane) lanes

-- these lanes, and as many more as there are of all
abbrev pub padded : ℕ → List (Option Failing) → List (Option Failing)
padded most lanes = lanes ++ nobody (most - length lanes)

kept_nobody : (negative : ℕ) (k : KernelState) (n : ℕ) → kept negative k (nobody n) ≡ nobody n
kept_nobody negative k zero = refl
kept_nobody negative k (suc n) = ap (λ (t : List (Option Failing)). None ∷ t) (kept_nobody negative k n)

kept_wide : (negative : ℕ) (k : KernelState) (lanes : List (Option Failing)) (n : ℕ) → kept negative k (lanes ++ nobody n) ≡ kept negative k lanes ++ nobody n
kept_wide negative k [] n = kept_nobody negative k n
kept_wide negative k (lane ∷ lanes) n = ap (λ (t : List (Option Failing)). kept_failing negative k lane ∷ t) (kept_wide negative k lanes n)

has_nobody : (trigger : Trigger) (n : ℕ) → has_failing trigger (nobody n) ≡ false
has_nobody trigger zero = refl
has_nobody trigger (suc n) = has_nobody trigger n

has_wide : (trigger : Trigger) (lanes : List (Option Failing)) (n : ℕ) → has_failing trigger (lanes ++ nobody n) ≡ has_failing trigger lanes
has_wide trigger [] n = has_nobody trigger n
has_wide trigger (lane ∷ lanes) n = ap (λ (b : Bool). is_at trigger lane || b) (has_wide trigger lanes n)

fresh_by : (negative : ℕ) (k : KernelState) (number : ℕ) (lanes : List (Option Failing)) (n : ℕ) (row : Option (Trigger × Failure)) →
    option_and_then (λ row. if_fresh negative k (lanes ++ nobody n) (failing_at number row)) row ≡ option_and_then (λ row. if_fresh negative k lanes (failing_at number row)) row
fresh_by negative k number lanes n None = refl
fresh_by negative k number lanes n (Some row) =
    let held : Failing = failing_at number row in
    ap (λ (b : Bool). if is_failing negative k held then (if b then None else Some held) else None) (has_wide held.trigger lanes n)

fresh_wide : (number negative : ℕ) (k : KernelState) (lanes : List (Option Failing)) (n : ℕ) → fresh number negative k (lanes ++ nobody n) ≡ fresh number negative k lanes
fresh_wide number negative k lanes n = fresh_by negative k number lanes n (newest k.failures)

-- ---- the first lane that nobody holds

taken_among : (held : Failing) (lanes more : List (Option Failing)) → any_empty lanes ≡ true → with_failing held (lanes ++ more) ≡ with_failing held lanes ++ more
taken_among held [] more e = absurd cc
taken_among held (None ∷ lanes) more e = refl
taken_among held (Some other ∷ lanes) more e = ap (λ (t : List (Option Failing)). Some other ∷ t) (taken_among held lanes more e)

taken_behind : (held : Failing) (lanes more : List (Option Failing)) → any_empty lanes ≡ false → with_failing held (lanes ++ more) ≡ lanes ++ with_failing held more
taken_behind held [] more e = refl
taken_behind held (None ∷ lanes) more e = absurd cc
taken_behind held (Some other ∷ lanes) more e = ap (λ (t : List (Option Failing)). Some other ∷ t) (taken_behind held lanes more e)

length_taken : (held : Failing) (lanes : List (Option Failing)) → length (with_failing held lanes) ≡ length lanes
length_taken held [] = refl
length_taken held (None ∷ lanes) = refl
length_taken held (Some other ∷ lanes) = ap suc (length_taken held lanes)

-- ---- as many lanes as they come to are enough

longer_by : (lanes : List (Option Failing)) (o : Option Failing) → length lanes ≤ length (begun_lanes o (room_lanes o lanes))
longer_by lanes None = omega arith
longer_by lanes (Some held) = by (any_empty lanes) refl
  where
    by : (b : Bool) → any_empty lanes ≡ b → length lanes ≤ length (with_failing held (if any_empty lanes then lanes else lanes ++ None ∷ []))
    by true e = rw e (omega (arith, length_taken held lanes))
    by false e = rw e (omega (arith, length_taken held (lanes ++ None ∷ []), length-append lanes (None ∷ [])))

grows_longer : (negative : ℕ) (lanes : List (Option Failing)) (p : ℕ × KernelState) → length lanes ≤ length (grown_lanes negative lanes p)
grows_longer negative lanes p =
    omega (arith, longer_by (kept negative p.1 lanes) (fresh p.0 negative p.1 (kept negative p.1 lanes)), length-map lanes (kept_failing negative p.1))

all_longer : (negative : ℕ) (lanes : List (Option Failing)) (ps : List (ℕ × KernelState)) → length lanes ≤ length (all_grown negative lanes ps)
all_longer negative lanes [] = omega arith
all_longer negative lanes (p ∷ ps) = omega (arith, grows_longer negative lanes p, all_longer negative (grown_lanes negative lanes p) ps)

-- where one begins it takes the same lane
begun_wide : (most : ℕ) (lanes : List (Option Failing)) (o : Option Failing) → length (begun_lanes o (room_lanes o lanes)) ≤ most → begun_lanes o (padded most lanes) ≡ padded most (begun_lanes o (room_lanes o lanes))
begun_wide most lanes None fits = refl
begun_wide most lanes (Some held) fits = by (any_empty lanes) refl fits
  where
    among : any_empty lanes ≡ true → with_failing held (padded most lanes) ≡ padded most (with_failing held lanes)
    among e =
        taken_among held lanes (nobody (most - length lanes)) e
        ∙ ap (λ (n : ℕ). with_failing held lanes ++ nobody (most - n)) (sym (length_taken held lanes))

    behind : any_empty lanes ≡ false → length (with_failing held (lanes ++ None ∷ [])) ≤ most → with_failing held (padded most lanes) ≡ padded most (with_failing held (lanes ++ None ∷ []))
    behind e fits =
        let count : length (with_failing held (lanes ++ None ∷ [])) ≡ length lanes + 1 = length_taken held (lanes ++ None ∷ []) ∙ length-append lanes (None ∷ []) in
        let one : most - length lanes ≡ suc (most - (length lanes + 1)) = omega (arith, fits, count) in
        taken_behind held lanes (nobody (most - length lanes)) e
        ∙ ap (λ (n : ℕ). lanes ++ with_failing held (nobody n)) one
        ∙ sym (append_assoc lanes (Some held ∷ []) (nobody (most - (length lanes + 1))))
        ∙ ap (λ (t : List (Option Failing)). t ++ nobody (most - (length lanes + 1))) (sym (taken_behind held lanes (None ∷ []) e))
        ∙ ap (λ (n : ℕ). with_failing held (lanes ++ None ∷ []) ++ nobody (most - n)) (sym count)

    by : (b : Bool) → any_empty lanes ≡ b → length (with_failing held (if any_empty lanes then lanes else lanes ++ None ∷ [])) ≤ most →
        with_failing held (padded most lanes) ≡ padded most (with_failing held (if any_empty lanes then lanes else lanes ++ None ∷ []))
    by true e fits = rw e (among e)
    by false e fits = rw e (behind e (rw e at fits))

turned_wide : (negative most : ℕ) (lanes : List (Option Failing)) (p : ℕ × KernelState) → length (grown_lanes negative lanes p) ≤ most → turned_lanes negative (padded most lanes) p ≡ padded most (grown_lanes negative lanes p)
turned_wide negative most lanes p fits =
    let more : ℕ = most - length lanes in
    let those : List (Option Failing) = kept negative p.1 lanes in
    let wide : kept negative p.1 (padded most lanes) ≡ padded most those =
    kept_wide negative p.1 lanes more ∙ ap (λ (n : ℕ). those ++ nobody (most - n)) (sym (length-map lanes (kept_failing negative p.1))) in
    ap (λ (t : List (Option Failing)). begun_lanes (fresh p.0 negative p.1 t) t) wide
    ∙ ap (λ (o : Option Failing). begun_lanes o (padded most those)) (fresh_wide p.0 negative p.1 those (most - length those))
    ∙ begun_wide most those (fresh p.0 negative p.1 those) fits

all_wide : (negative most : ℕ) (lanes : List (Option Failing)) (ps later : List (ℕ × KernelState)) → length (all_grown negative lanes (ps ++ later)) ≤ most → all_turned negative (padded most lanes) ps ≡ padded most (all_grown negative lanes ps)
all_wide negative most lanes [] later fits = refl
all_wide negative most lanes (p ∷ ps) later fits =
    let next : List (Option Failing) = grown_lanes negative lanes p in
    let here : length next ≤ most = omega (arith, fits, all_longer negative next (ps ++ later)) in
    ap (λ (t : List (Option Failing)). all_turned negative t ps) (turned_wide negative most lanes p here)
    ∙ all_wide negative most next ps later fits

-- ---- what lasts

numbered : (error : FailNo) → fail_no_numbered (fail_number error) ≡ Some error
numbered ENOENT = refl
numbered EPERM = refl
numbered EBUSY = refl
numbered EEXIST = refl
numbered EINVAL = refl
numbered EAGAIN = refl
numbered ELOOP = refl
numbered ENAMETOOLONG = refl
numbered ENOSPC = refl

same_error : (a b : FailNo) → fail_number a ≡ fail_number b → a ≡ b
same_error a b e = some_injective (sym (numbered a) ∙ ap fail_no_numbered e ∙ numbered b)

abbrev failure_with : FailNo → ℕ → Failure
failure_with error moment = record { no = error; at = moment }

same_is : (a b : Failure) → same_failure a b ≡ true → a ≡ b
same_is a b e =
    let both = both_of_and _ _ e in
    ap (λ (n : FailNo). failure_with n a.at) (same_error a.no b.no (equal_by_test _ _ both.0))
    ∙ ap (λ (t : ℕ). failure_with b.no t) (equal_by_test _ _ both.1)

same_itself : (a : Failure) → same_failure a a ≡ true
same_itself a = and_of_both _ _ (eq-eqb (fail_number a.no) (fail_number a.no) refl) (eq-eqb a.at a.at refl)

that_is : (failure : Failure) (o : Option Failure) → is_that failure o ≡ true → o ≡ Some failure
that_is failure None e = absurd cc
that_is failure (Some other) e = ap Some (same_is other failure e)

failing_lasts : (negative : ℕ) (k : KernelState) (held : Failing) → is_failing negative k held ≡ true → lasting_in negative k held.trigger ≡ Some held.failure
failing_lasts negative k held e = that_is held.failure (lasting_in negative k held.trigger) e

lasts_failing : (negative : ℕ) (k : KernelState) (held : Failing) → lasting_in negative k held.trigger ≡ Some held.failure → is_failing negative k held ≡ true
lasts_failing negative k held e = ap (is_that held.failure) e ∙ same_itself held.failure

-- ---- what a lane says

in_lane : (g : Trigger) (held : Failing) (f : Failure) → failure_in g (Some held) ≡ Some f → (held.trigger ≡ g) × (held.failure ≡ f)
in_lane g held f e = by (same_trigger held.trigger g) refl
  where
    by : (b : Bool) → same_trigger held.trigger g ≡ b → (held.trigger ≡ g) × (held.failure ≡ f)
    by true t =
        let here : Some held.failure ≡ Some f = rw t at e in
        (equal_by_same_trigger held.trigger g t, some_injective here)
    by false t =
        let none : None ≡ Some f = rw t at e in
        absurd cc

says_own : (held : Failing) → failure_in held.trigger (Some held) ≡ Some held.failure
says_own held = rw (same_trigger_itself held.trigger) refl

kept_reads : (negative : ℕ) (k : KernelState) (lane : Option Failing) (g : Trigger) (f : Failure) → failure_in g (kept_failing negative k lane) ≡ Some f → (failure_in g lane ≡ Some f) × (lasting_in negative k g ≡ Some f)
kept_reads negative k None g f e = absurd cc
kept_reads negative k (Some held) g f e = by (is_failing negative k held) refl
  where
    by : (b : Bool) → is_failing negative k held ≡ b → (failure_in g (Some held) ≡ Some f) × (lasting_in negative k g ≡ Some f)
    by true t =
        let here : failure_in g (Some held) ≡ Some f = rw t at e in
        let own = in_lane g held f here in
        (here, ap (lasting_in negative k) (sym own.0) ∙ failing_lasts negative k held t ∙ ap Some own.1)
    by false t =
        let none : None ≡ Some f = rw t at e in
        absurd cc

kept_stays : (negative : ℕ) (k : KernelState) (lane : Option Failing) (g : Trigger) (f : Failure) → failure_in g lane ≡ Some f → lasting_in negative k g ≡ Some f → failure_in g (kept_failing negative k lane) ≡ Some f
kept_stays negative k None g f e last = absurd cc
kept_stays negative k (Some held) g f e last =
    let own = in_lane g held f e in
    let lasting : is_failing negative k held ≡ true = lasts_failing negative k held (ap (lasting_in negative k) own.0 ∙ last ∙ ap Some (sym own.1)) in
    rw lasting e

at_kept : (negative : ℕ) (k : KernelState) (lanes : List (Option Failing)) (i : ℕ) → get_or (kept negative k lanes) i None ≡ kept_failing negative k (get_or lanes i None)
at_kept negative k [] i = refl
at_kept negative k (lane ∷ lanes) zero = refl
at_kept negative k (lane ∷ lanes) (suc i) = at_kept negative k lanes i

-- ---- who has a lane

lane_has : (g : Trigger) (lane : Option Failing) (f : Failure) → failure_in g lane ≡ Some f → is_at g lane ≡ true
lane_has g None f e = absurd cc
lane_has g (Some held) f e = ap (λ (t : Trigger). same_trigger t g) (in_lane g held f e).0 ∙ same_trigger_itself g

has_by : (g : Trigger) (lanes : List (Option Failing)) (i : ℕ) (f : Failure) → failure_in g (get_or lanes i None) ≡ Some f → has_failing g lanes ≡ true
has_by g [] i f e = absurd cc
has_by g (lane ∷ lanes) zero f e = or_left (is_at g lane) (has_failing g lanes) (lane_has g lane f e)
has_by g (lane ∷ lanes) (suc i) f e = or_right (is_at g lane) (has_failing g lanes) (has_by g lanes i f e)

lane_says : (g : Trigger) (lane : Option Failing) → is_at g lane ≡ true → (f : Failure) × (failure_in g lane ≡ Some f)
lane_says g None e = absurd cc
lane_says g (Some held) e = (held.failure, rw e refl)

has_lane : (g : Trigger) (lanes : List (Option Failing)) → has_failing g lanes ≡ true → (i : ℕ) × (f : Failure) × (failure_in g (get_or lanes i None) ≡ Some f)
has_lane g [] e = absurd cc
has_lane g (lane ∷ lanes) e = by (has_lane g lanes) (is_at g lane) refl
  where
    by : (has_failing g lanes ≡ true → (i : ℕ) × (f : Failure) × (failure_in g (get_or lanes i None) ≡ Some f)) → (b : Bool) → is_at g lane ≡ b →
        (i : ℕ) × (f : Failure) × (failure_in g (get_or (lane ∷ lanes) i None) ≡ Some f)
    by more true t =
        let says = lane_says g lane t in
        (0, says.0, says.1)
    by more false t =
        let rest : has_failing g lanes ≡ true = rw t at e in
        let later = more rest in
        (suc later.0, later.1, later.2)

-- ---- the lane that is taken

abbrev first_empty : List (Option Failing) → ℕ
first_empty [] = 0
first_empty (None ∷ lanes) = 0
first_empty (Some held ∷ lanes) = suc (first_empty lanes)

at_taken : (held : Failing) (lanes : List (Option Failing)) (i : ℕ) → (get_or (with_failing held lanes) i None ≡ get_or lanes i None) ⊎ (i ≡ first_empty lanes)
at_taken held [] i = inl refl
at_taken held (None ∷ lanes) zero = inr refl
at_taken held (None ∷ lanes) (suc i) = inl refl
at_taken held (Some other ∷ lanes) zero = inl refl
at_taken held (Some other ∷ lanes) (suc i) = ⊎_elim (λ same. inl same) (λ here. inr (ap suc here)) (at_taken held lanes i)

there_taken : (held : Failing) (lanes : List (Option Failing)) → any_empty lanes ≡ true → get_or (with_failing held lanes) (first_empty lanes) None ≡ Some held
there_taken held [] e = absurd cc
there_taken held (None ∷ lanes) e = refl
there_taken held (Some other ∷ lanes) e = there_taken held lanes e

was_empty : (lanes : List (Option Failing)) → get_or lanes (first_empty lanes) None ≡ None
was_empty [] = refl
was_empty (None ∷ lanes) = refl
was_empty (Some held ∷ lanes) = was_empty lanes

at_more : (lanes : List (Option Failing)) (i : ℕ) → get_or (lanes ++ None ∷ []) i None ≡ get_or lanes i None
at_more [] zero = refl
at_more [] (suc i) = refl
at_more (lane ∷ lanes) zero = refl
at_more (lane ∷ lanes) (suc i) = at_more lanes i

at_empty : (lanes : List (Option Failing)) (i : ℕ) → get_or (with_empty lanes) i None ≡ get_or lanes i None
at_empty lanes i = by (any_empty lanes)
  where
    by : (b : Bool) → get_or (if b then lanes else lanes ++ None ∷ []) i None ≡ get_or lanes i None
    by true = refl
    by false = at_more lanes i

any_more : (lanes : List (Option Failing)) → any_empty (lanes ++ None ∷ []) ≡ true
any_more [] = refl
any_more (lane ∷ lanes) = or_right (is_none lane) (any_empty (lanes ++ None ∷ [])) (any_more lanes)

has_empty : (lanes : List (Option Failing)) → any_empty (with_empty lanes) ≡ true
has_empty lanes = by (any_empty lanes) refl
  where
    by : (b : Bool) → any_empty lanes ≡ b → any_empty (if any_empty lanes then lanes else lanes ++ None ∷ []) ≡ true
    by true e = rw e e
    by false e = rw e (any_more lanes)

-- ---- the failures that last have lanes

pub record Have (negative : ℕ) (lanes : List (Option Failing)) (k : KernelState) : Type 0 where
  pub there : (g : Trigger) (f : Failure) → lasting_in negative k g ≡ Some f → HasFailure g f lanes
  pub no_other : (g : Trigger) (f : Failure) → HasFailure g f lanes → lasting_in negative k g ≡ Some f
  pub once : (g : Trigger) (i j : ℕ) (f h : Failure) → failure_in g (get_or lanes i None) ≡ Some f → failure_in g (get_or lanes j None) ≡ Some h → i ≡ j

-- what failed at a trigger did so before, or it failed last of all; no moment goes back
pub record Goes (k made : KernelState) : Type 0 where
  pub newest : (g : Trigger) (f : Failure) → failure_of made.failures g ≡ Some f → (failure_of k.failures g ≡ Some f) ⊎ (newest made.failures ≡ Some (g, f))
  pub rises : k.latest ≤ made.latest
  pub negative : made.negative ≡ k.negative

still_is : (moment negative : ℕ) (o : Option Failure) (f : Failure) → still moment negative o ≡ Some f → (o ≡ Some f) × (lasts moment negative f ≡ true)
still_is moment negative None f e = absurd cc
still_is moment negative (Some h) f e = by (lasts moment negative h) refl
  where
    by : (b : Bool) → lasts moment negative h ≡ b → (Some h ≡ Some f) × (lasts moment negative f ≡ true)
    by true t =
        let here : Some h ≡ Some f = rw t at e in
        (here, ap (lasts moment negative) (sym (some_injective here)) ∙ t)
    by false t =
        let none : None ≡ Some f = rw t at e in
        absurd cc

is_still : (moment negative : ℕ) (o : Option Failure) (f : Failure) → o ≡ Some f → lasts moment negative f ≡ true → still moment negative o ≡ Some f
is_still moment negative o f e t = ap (still moment negative) e ∙ ap (λ (b : Bool). if b then Some f else None) t

-- what lasts did so before, or failed last of all
older : (negative : ℕ) (k made : KernelState) → Goes k made → (g : Trigger) (f : Failure) → lasting_in negative made g ≡ Some f → (lasting_in negative k g ≡ Some f) ⊎ (newest made.failures ≡ Some (g, f))
older negative k made goes g f e =
    let now = still_is made.latest negative (failure_of made.failures g) f e in
    let before : lasts k.latest negative f ≡ true = lt-ltb k.latest (f.at + negative) (omega (arith, ltb-true made.latest (f.at + negative) now.1, goes.rises)) in
    ⊎_elim (λ (same : failure_of k.failures g ≡ Some f). inl (is_still k.latest negative (failure_of k.failures g) f same before)) (λ (last : newest made.failures ≡ Some (g, f)). inr last) (goes.newest g f now.0)

fresh_is : (number negative : ℕ) (k : KernelState) (lanes : List (Option Failing)) (held : Failing) → fresh number negative k lanes ≡ Some held → (is_failing negative k held ≡ true) × (has_failing held.trigger lanes ≡ false)
fresh_is number negative k lanes held e = by (newest k.failures) e
  where
    which : (own : Failing) (b c : Bool) → is_failing negative k own ≡ b → has_failing own.trigger lanes ≡ c → (if b then (if c then None else Some own) else None) ≡ Some held → (is_failing negative k held ≡ true) × (has_failing held.trigger lanes ≡ false)
    which own true true s t e = absurd cc
    which own true false s t e =
        let same : own ≡ held = some_injective e in
        (ap (is_failing negative k) (sym same) ∙ s, ap (λ (x : Failing). has_failing x.trigger lanes) (sym same) ∙ t)
    which own false c s t e = absurd cc

    by : (row : Option (Trigger × Failure)) → option_and_then (λ row. if_fresh negative k lanes (failing_at number row)) row ≡ Some held → (is_failing negative k held ≡ true) × (has_failing held.trigger lanes ≡ false)
    by None e = absurd cc
    by (Some row) e = which (failing_at number row) (is_failing negative k (failing_at number row)) (has_failing row.0 lanes) refl refl e

fresh_there : (number negative : ℕ) (k : KernelState) (lanes : List (Option Failing)) (g : Trigger) (f : Failure) → newest k.failures ≡ Some (g, f) → lasting_in negative k g ≡ Some f → has_failing g lanes ≡ false → fresh number negative k lanes ≡ Some (failing_at number (g, f))
fresh_there number negative k lanes g f last lasting none =
    let held : Failing = failing_at number (g, f) in
    ap (option_and_then (λ row. if_fresh negative k lanes (failing_at number row))) last
    ∙ ap (λ (b : Bool). if b then (if has_failing g lanes then None else Some held) else None) (lasts_failing negative k held lasting)
    ∙ ap (λ (b : Bool). if b then None else Some held) none

-- those that last have the lanes that they had
kept_have : (negative : ℕ) (lanes : List (Option Failing)) (k made : KernelState) (g : Trigger) (f : Failure) → Have negative lanes k → lasting_in negative k g ≡ Some f → lasting_in negative made g ≡ Some f → HasFailure g f (kept negative made lanes)
kept_have negative lanes k made g f h before now =
    let had = h.there g f before in
    (had.0, ap (failure_in g) (at_kept negative made lanes had.0) ∙ kept_stays negative made (get_or lanes had.0 None) g f had.1 now)

kept_lasts : (negative : ℕ) (lanes : List (Option Failing)) (made : KernelState) (g : Trigger) (i : ℕ) (f : Failure) → failure_in g (get_or (kept negative made lanes) i None) ≡ Some f → (failure_in g (get_or lanes i None) ≡ Some f) × (lasting_in negative made g ≡ Some f)
kept_lasts negative lanes made g i f e =
    kept_reads negative made (get_or lanes i None) g f (sym (ap (failure_in g) (at_kept negative made lanes i)) ∙ e)

kept_once : (negative : ℕ) (lanes : List (Option Failing)) (k made : KernelState) → Have negative lanes k → (g : Trigger) (i j : ℕ) (f h : Failure) → failure_in g (get_or (kept negative made lanes) i None) ≡ Some f → failure_in g (get_or (kept negative made lanes) j None) ≡ Some h → i ≡ j
kept_once negative lanes k made have g i j f h e d =
    have.once g i j f h (kept_lasts negative lanes made g i f e).0 (kept_lasts negative lanes made g j h d).0

-- what no other lane tells
have_none : (number negative : ℕ) (lanes : List (Option Failing)) (k made : KernelState) → Goes k made → Have negative lanes k → fresh number negative made (kept negative made lanes) ≡ None → Have negative (kept negative made lanes) made
have_none number negative lanes k made goes have none = record {
  there = λ g f e. ⊎_elim (λ (before : lasting_in negative k g ≡ Some f). kept_have negative lanes k made g f have before e) (λ (last : newest made.failures ≡ Some (g, f)). by g f e last (has_failing g (kept negative made lanes)) refl) (older negative k made goes g f e);
  no_other = λ g f e. (kept_lasts negative lanes made g e.0 f e.1).1;
  once = kept_once negative lanes k made have;
}
  where
    by : (g : Trigger) (f : Failure) → lasting_in negative made g ≡ Some f → newest made.failures ≡ Some (g, f) → (b : Bool) → has_failing g (kept negative made lanes) ≡ b → HasFailure g f (kept negative made lanes)
    by g f e last true t =
        let has = has_lane g (kept negative made lanes) t in
        let same : has.1 ≡ f = some_injective (sym (kept_lasts negative lanes made g has.0 has.1 has.2).1 ∙ e) in
        (has.0, has.2 ∙ ap Some same)
    by g f e last false t =
        let some : None ≡ Some (failing_at number (g, f)) = sym none ∙ fresh_there number negative made (kept negative made lanes) g f last e t in
        absurd cc

have_begun : (number negative : ℕ) (lanes : List (Option Failing)) (k made : KernelState) (held : Failing) → Goes k made → Have negative lanes k → fresh number negative made (kept negative made lanes) ≡ Some held → Have negative (with_failing held (with_empty (kept negative made lanes))) made
have_begun number negative lanes k made held goes have some = record {
  there = λ g f e. ⊎_elim (λ (before : lasting_in negative k g ≡ Some f). still_has g f (kept_have negative lanes k made g f have before e)) (λ (last : newest made.failures ≡ Some (g, f)). by g f e last (has_failing g those) refl) (older negative k made goes g f e);
  no_other = λ g f e. ⊎_elim (λ (old : failure_in g (get_or those e.0 None) ≡ Some f). (kept_lasts negative lanes made g e.0 f old).1) (λ (own : (e.0 ≡ place) × (failure_in g (Some held) ≡ Some f)). lasts_at g f own.1) (reads g e.0 f e.1);
  once = once;
}
  where
    those : List (Option Failing)
    those = kept negative made lanes

    wide : List (Option Failing)
    wide = with_empty those

    place : ℕ
    place = first_empty wide

    own : (is_failing negative made held ≡ true) × (has_failing held.trigger those ≡ false)
    own = fresh_is number negative made those held some

    there : get_or (with_failing held wide) place None ≡ Some held
    there = there_taken held wide (has_empty those)

    lasts_at : (g : Trigger) (f : Failure) → failure_in g (Some held) ≡ Some f → lasting_in negative made g ≡ Some f
    lasts_at g f e =
        let is = in_lane g held f e in
        ap (lasting_in negative made) (sym is.0) ∙ failing_lasts negative made held own.0 ∙ ap Some is.1

    -- a lane tells what it did, or it is the one that was taken
    reads : (g : Trigger) (i : ℕ) (f : Failure) → failure_in g (get_or (with_failing held wide) i None) ≡ Some f → (failure_in g (get_or those i None) ≡ Some f) ⊎ ((i ≡ place) × (failure_in g (Some held) ≡ Some f))
    reads g i f e =
        ⊎_elim (λ (same : get_or (with_failing held wide) i None ≡ get_or wide i None). inl (ap (failure_in g) (sym (same ∙ at_empty those i)) ∙ e))
        (λ (here : i ≡ place). inr (here, ap (failure_in g) (sym (ap (λ (n : ℕ). get_or (with_failing held wide) n None) here ∙ there)) ∙ e))
        (at_taken held wide i)

    still_has : (g : Trigger) (f : Failure) → HasFailure g f those → HasFailure g f (with_failing held wide)
    still_has g f h = (h.0, ⊎_elim (λ (same : get_or (with_failing held wide) h.0 None ≡ get_or wide h.0 None). ap (failure_in g) (same ∙ at_empty those h.0) ∙ h.1) (λ (here : h.0 ≡ place). gone here) (at_taken held wide h.0))
      where
        gone : h.0 ≡ place → failure_in g (get_or (with_failing held wide) h.0 None) ≡ Some f
        gone here =
            let none : None ≡ Some f = sym (ap (failure_in g) (sym (at_empty those h.0) ∙ ap (λ (n : ℕ). get_or wide n None) here ∙ was_empty wide)) ∙ h.1 in
            absurd cc

    by : (g : Trigger) (f : Failure) → lasting_in negative made g ≡ Some f → newest made.failures ≡ Some (g, f) → (b : Bool) → has_failing g those ≡ b → HasFailure g f (with_failing held wide)
    by g f e last true t =
        let has = has_lane g those t in
        let same : has.1 ≡ f = some_injective (sym (kept_lasts negative lanes made g has.0 has.1 has.2).1 ∙ e) in
        still_has g f (has.0, has.2 ∙ ap Some same)
    by g f e last false t =
        let same : held ≡ failing_at number (g, f) = some_injective (sym some ∙ fresh_there number negative made those g f last e t) in
        (place, ap (failure_in g) (there ∙ ap Some same) ∙ says_own (failing_at number (g, f)))

    -- no lane told of the trigger before
    alone : (g : Trigger) (j : ℕ) (f h : Failure) → failure_in g (Some held) ≡ Some f → failure_in g (get_or those j None) ≡ Some h → ⊥
    alone g j f h e d =
        let is = in_lane g held f e in
        let has : has_failing held.trigger those ≡ true = ap (λ (t : Trigger). has_failing t those) is.0 ∙ has_by g those j h d in
        let no : true ≡ false = sym has ∙ own.1 in
        absurd cc

    once : (g : Trigger) (i j : ℕ) (f h : Failure) → failure_in g (get_or (with_failing held wide) i None) ≡ Some f → failure_in g (get_or (with_failing held wide) j None) ≡ Some h → i ≡ j
    once g i j f h e d = both (reads g i f e) (reads g j h d)
      where
        both : (failure_in g (get_or those i None) ≡ Some f) ⊎ ((i ≡ place) × (failure_in g (Some held) ≡ Some f)) → (failure_in g (get_or those j None) ≡ Some h) ⊎ ((j ≡ place) × (failure_in g (Some held) ≡ Some h)) → i ≡ j
        both (inl a) (inl b) = kept_once negative lanes k made have g i j f h a b
        both (inl a) (inr b) = absurd (alone g i h f b.1 a)
        both (inr a) (inl b) = absurd (alone g j f h a.1 b)
        both (inr a) (inr b) = a.0 ∙ sym b.0

have_step : (negative : ℕ) (lanes : List (Option Failing)) (k : KernelState) (p : ℕ × KernelState) → Goes k p.1 → Have negative lanes k → Have negative (grown_lanes negative lanes p) p.1
have_step negative lanes k p goes have = by (fresh p.0 negative p.1 (kept negative p.1 lanes)) refl
  where
    by : (o : Option Failing) → fresh p.0 negative p.1 (kept negative p.1 lanes) ≡ o → Have negative (begun_lanes (fresh p.0 negative p.1 (kept negative p.1 lanes)) (room_lanes (fresh p.0 negative p.1 (kept negative p.1 lanes)) (kept negative p.1 lanes))) p.1
    by None e = rw e (have_none p.0 negative lanes k p.1 goes have e)
    by (Some held) e = rw e (have_begun p.0 negative lanes k p.1 held goes have e)

-- ---- all of it

-- these kernels come one after another, up to the last
abbrev pub Follow : KernelState → List (ℕ × KernelState) → KernelState → Type 0
Follow k [] last = last ≡ k
Follow k (p ∷ ps) last = Goes k p.1 × Follow p.1 ps last

all_have : (negative : ℕ) (lanes : List (Option Failing)) (k last : KernelState) (ps : List (ℕ × KernelState)) → Follow k ps last → Have negative lanes k → Have negative (all_grown negative lanes ps) last
all_have negative lanes k last [] e have = subst (λ (made : KernelState). Have negative lanes made) (sym e) have
all_have negative lanes k last (p ∷ ps) follow have =
    all_have negative (grown_lanes negative lanes p) p.1 last ps follow.1 (have_step negative lanes k p follow.0 have)

same_negative : (k last : KernelState) (ps : List (ℕ × KernelState)) → Follow k ps last → last.negative ≡ k.negative
same_negative k last [] e = ap (λ (made : KernelState). made.negative) e
same_negative k last (p ∷ ps) follow = same_negative p.1 last ps follow.1 ∙ follow.0.negative

at_padded : (most : ℕ) (lanes : List (Option Failing)) (i : ℕ) → get_or (padded most lanes) i None ≡ get_or lanes i None
at_padded most lanes i = by (most - length lanes) lanes i
  where
    none : (n i : ℕ) → get_or (nobody n) i None ≡ None
    none zero i = refl
    none (suc n) zero = refl
    none (suc n) (suc i) = none n i

    by : (n : ℕ) (lanes : List (Option Failing)) (i : ℕ) → get_or (lanes ++ nobody n) i None ≡ get_or lanes i None
    by n [] i = none n i
    by n (lane ∷ lanes) zero = refl
    by n (lane ∷ lanes) (suc i) = by n lanes i

padded_have : (negative most : ℕ) (lanes : List (Option Failing)) (k : KernelState) → Have negative lanes k → Have negative (padded most lanes) k
padded_have negative most lanes k have = record {
  there = λ g f e.
      let has = have.there g f e in
      (has.0, ap (failure_in g) (at_padded most lanes has.0) ∙ has.1);
  no_other = λ g f e. have.no_other g f (e.0, ap (failure_in g) (sym (at_padded most lanes e.0)) ∙ e.1);
  once = λ g i j f h e d. have.once g i j f h (ap (failure_in g) (sym (at_padded most lanes i)) ∙ e) (ap (failure_in g) (sym (at_padded most lanes j)) ∙ d);
}

none_have : (negative : ℕ) (k : KernelState) → k.failures ≡ [] → Have negative [] k
none_have negative k e = record {
  there = λ g f last.
      let none : None ≡ Some f = sym (ap (λ (rows : FailureRows). still k.latest negative (failure_of rows g)) e) ∙ last in
      absurd cc;
  no_other = λ g f has.
      let none : None ≡ Some f = has.1 in
      absurd cc;
  once = λ g i j f h e d.
      let none : None ≡ Some f = e in
      absurd cc;
}

-- those that last behind all of these have lanes, where there are as many as more of them come to
pub failures_are_seen : (k last : KernelState) (ps later whole : List (ℕ × KernelState)) (count negative : ℕ) → whole ≡ ps ++ later → count ≡ length (all_grown k.negative [] whole) → negative ≡ k.negative → k.failures ≡ [] → Follow k ps last → HaveFailures (all_turned negative (replicate count None) ps) last
failures_are_seen k last ps later whole count negative parted wide same none follow =
    let fits : length (all_grown k.negative [] (ps ++ later)) ≤ count = omega (arith, wide, ap (λ (t : List (ℕ × KernelState)). length (all_grown k.negative [] t)) parted) in
    let lanes : all_turned negative (replicate count None) ps ≡ padded count (all_grown k.negative [] ps) =
    ap (λ (n : ℕ). all_turned n (replicate count None) ps) same
    ∙ ap (λ (n : ℕ). all_turned k.negative (replicate n None) ps) (omega arith)
    ∙ all_wide k.negative count [] ps later fits in
    let have = padded_have k.negative count _ last (all_have k.negative [] k last ps follow (none_have k.negative k none)) in
    let own = subst (λ (n : ℕ). Have n (padded count (all_grown k.negative [] ps)) last) (sym (same_negative k last ps follow)) have in
    subst (λ (t : List (Option Failing)). HaveFailures t last) (sym lanes)
    (record { there = own.there; no_other = own.no_other; once = own.once })

-- ---- where the first lane is that nobody holds

pub lane_within : (lanes : List (Option Failing)) → empty_lane lanes ≤ length lanes
lane_within [] = omega arith
lane_within (None ∷ lanes) = omega arith
lane_within (Some held ∷ lanes) = omega (arith, lane_within lanes)

pub taken_there : (held : Failing) (lanes : List (Option Failing)) → set lanes (empty_lane lanes) (Some held) ≡ with_failing held lanes
taken_there held [] = refl
taken_there held (None ∷ lanes) = refl
taken_there held (Some other ∷ lanes) =
    let is : empty_lane (Some other ∷ lanes) ≡ suc (empty_lane lanes) = omega arith in
    ap (λ (n : ℕ). set (Some other ∷ lanes) n (Some held)) is ∙ ap (λ (t : List (Option Failing)). Some other ∷ t) (taken_there held lanes)

pub taken_nowhere : (held : Failing) (lanes : List (Option Failing)) → length lanes ≤ empty_lane lanes → with_failing held lanes ≡ lanes
taken_nowhere held [] h = refl
taken_nowhere held (None ∷ lanes) h = absurd (omega (arith, h))
taken_nowhere held (Some other ∷ lanes) h = ap (λ (t : List (Option Failing)). Some other ∷ t) (taken_nowhere held lanes (omega (arith, h)))

not_below : (at len : ℕ) → cond (ltb at len) (Some at) None ≡ None → len ≤ at
not_below at len e = grind (arith, nat_tests)

pub none_empty : (lanes : List (Option Failing)) → position (λ lane. is_none lane) lanes ≡ None → length lanes ≤ empty_lane lanes
none_empty lanes e = not_below (empty_lane lanes) (length lanes) e

abbrev pub emptied : Option Failing → Option Failing
emptied lane = None

pub nobody_left : (lanes : List (Option Failing)) → map emptied lanes ≡ replicate (length lanes) None
nobody_left [] = refl
nobody_left (lane ∷ lanes) = ap (λ (t : List (Option Failing)). None ∷ t) (nobody_left lanes)
