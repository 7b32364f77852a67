-- One lane more, and one observation more, is drawn.
use Rattle.std.proofs.Common.{◌≡◌, ◌<◌, ◌≤◌, ℕ, zero, suc, ◌+◌, ◌-◌, Bool, false, if◌then◌else◌, refl, None, Some, List, [], ◌∷◌, ◌++◌, length, take, get_or, Option, sym, ap, ◌∙◌, append_assoc, append-nil, length-take-le, arith}
use Rattle.std.proofs.lemmas.List.{take_more}
use Rattle.std.proofs.Math.Seq.{take-length}
use Rattle.am_names.specs.{MountRow}
use Rattle.am_kernel.specs.{KernelState}
use Rattle.am_state.specs.{Obs}
use Rattle.am_draw.specs.declared.marks.LaneKind.TheVariants.{Narrow}
use Rattle.am_draw.specs.{Ending, Failing, Holder, LaneKind, Lasts, Until, changed, failing_bar, failing_bars_in, seen_behind, lane_x, bar, ends_lane, IsNextEnding, lane_bar, lane_bars, obs_drawn, seen_drawn}

bars_push : (lanes : LaneKind) (walkers : ℕ) (ending : Ending) (until : Until) (number : ℕ) (before : List (Option Holder)) (lane : Option Holder) → lane_bars lanes walkers ending until number (before ++ lane ∷ []) ≡ lane_bars lanes walkers ending until number before ++ lane_bar ending until lane (lane_x lanes walkers (number + length before))
bars_push lanes walkers ending until number [] lane =
    append-nil (lane_bar ending until lane (lane_x lanes walkers number)) ∙ ap (λ (n : ℕ). lane_bar ending until lane (lane_x lanes walkers n)) (omega arith)
bars_push lanes walkers ending until number (first ∷ before) lane =
    ap (λ (t : List ℕ). lane_bar ending until first (lane_x lanes walkers number) ++ t) (bars_push lanes walkers ending until (number + 1) before lane)
    ∙ sym (append_assoc (lane_bar ending until first (lane_x lanes walkers number)) (lane_bars lanes walkers ending until (number + 1) before) (lane_bar ending until lane (lane_x lanes walkers (number + 1 + length before))))
    ∙ ap (λ (n : ℕ). lane_bars lanes walkers ending until number (first ∷ before) ++ lane_bar ending until lane (lane_x lanes walkers n)) (omega arith)

bars_more : (lanes : LaneKind) (walkers : ℕ) (ending : Ending) (until : Until) (holders : List (Option Holder)) (i : ℕ) (lane : Option Holder) → i < length holders → lane_bars lanes walkers ending until 0 (take (i + 1) holders) ≡ lane_bars lanes walkers ending until 0 (take i holders) ++ lane_bar ending until (get_or holders i lane) (lane_x lanes walkers i)
bars_more lanes walkers ending until holders i lane inside =
    ap (lane_bars lanes walkers ending until 0) (take_more holders i lane inside)
    ∙ bars_push lanes walkers ending until 0 (take i holders) (get_or holders i lane)
    ∙ ap (λ (n : ℕ). lane_bars lanes walkers ending until 0 (take i holders) ++ lane_bar ending until (get_or holders i lane) (lane_x lanes walkers n)) (omega (arith, length-take-le i holders (omega (arith, inside))))

-- a lane whose bar doesn't end has none that ends
bare : (ending : Ending) (until : Until) (lane : Option Holder) (x : ℕ) → ends_lane ending lane ≡ false → lane_bar ending until lane x ≡ []
bare ending until None x e = refl
bare ending until (Some holder) x e = ap (λ (b : Bool). if b then bar holder.look until holder.since x else []) e

-- lanes in which no bar ends add none
passed : (kind : LaneKind) (walkers : ℕ) (ending : Ending) (until : Until) (lanes : List (Option Holder)) (from more : ℕ) → from + more ≤ length lanes → ((l : ℕ) → from ≤ l → l < from + more → ends_lane ending (get_or lanes l None) ≡ false) → lane_bars kind walkers ending until 0 (take (from + more) lanes) ≡ lane_bars kind walkers ending until 0 (take from lanes)
passed kind walkers ending until lanes from zero fits none = ap (λ (n : ℕ). lane_bars kind walkers ending until 0 (take n lanes)) (omega arith)
passed kind walkers ending until lanes from (suc more) fits none =
    let last : ℕ = from + more in
    let within : last < length lanes = omega (arith, fits) in
    let e : lane_bar ending until (get_or lanes last None) (lane_x kind walkers last) ≡ [] =
    bare ending until (get_or lanes last None) (lane_x kind walkers last) (none last (omega arith) (omega arith)) in
    ap (λ (n : ℕ). lane_bars kind walkers ending until 0 (take n lanes)) (omega arith)
    ∙ bars_more kind walkers ending until lanes last None within
    ∙ ap (λ (t : List ℕ). lane_bars kind walkers ending until 0 (take last lanes) ++ t) e
    ∙ append-nil (lane_bars kind walkers ending until 0 (take last lanes))
    ∙ passed kind walkers ending until lanes from more (omega (arith, fits)) (λ l p q. none l p (omega (arith, q)))

passed_to : (kind : LaneKind) (walkers : ℕ) (ending : Ending) (until : Until) (lanes : List (Option Holder)) (from to : ℕ) → from ≤ to → to ≤ length lanes → ((l : ℕ) → from ≤ l → l < to → ends_lane ending (get_or lanes l None) ≡ false) → lane_bars kind walkers ending until 0 (take to lanes) ≡ lane_bars kind walkers ending until 0 (take from lanes)
passed_to kind walkers ending until lanes from to le fits none =
    let is : from + (to - from) ≡ to = omega (arith, le) in
    ap (λ (n : ℕ). lane_bars kind walkers ending until 0 (take n lanes)) (sym is)
    ∙ passed kind walkers ending until lanes from (to - from) (omega (arith, le, fits)) (λ l p q. none l p (omega (arith, q, le)))

-- the next bar that ends is drawn
pub bars_next : (kind : LaneKind) (walkers : ℕ) (ending : Ending) (until : Until) (x : ℕ) (lanes : List (Option Holder)) (from lane : ℕ) → IsNextEnding ending from lanes (Some lane) → x ≡ lane_x kind walkers lane → lane_bars kind walkers ending until 0 (take from lanes) ++ lane_bar ending until (get_or lanes lane None) x ≡ lane_bars kind walkers ending until 0 (take (lane + 1) lanes)
bars_next kind walkers ending until x lanes from lane next at =
    ap (λ (t : List ℕ). t ++ lane_bar ending until (get_or lanes lane None) x)
    (sym (passed_to kind walkers ending until lanes from lane next.beyond (omega (arith, next.there)) next.first))
    ∙ ap (λ (n : ℕ). lane_bars kind walkers ending until 0 (take lane lanes) ++ lane_bar ending until (get_or lanes lane None) n) at
    ∙ sym (bars_more kind walkers ending until lanes lane None next.there)

-- no bar is left that ends
pub bars_done : (kind : LaneKind) (walkers : ℕ) (ending : Ending) (until : Until) (lanes : List (Option Holder)) (from : ℕ) → from ≤ length lanes → IsNextEnding ending from lanes None → lane_bars kind walkers ending until 0 (take from lanes) ≡ lane_bars kind walkers ending until 0 lanes
bars_done kind walkers ending until lanes from le none =
    sym (passed_to kind walkers ending until lanes from (length lanes) le (omega arith) none)
    ∙ ap (lane_bars kind walkers ending until 0) (take-length lanes)

-- the bar of a failure in one lane more is drawn, if it ends
pub failing_bars_next : (negative : ℕ) (ending : Option KernelState) (until : Until) (first : ℕ) (lanes : List (Option Failing)) (n x : ℕ) → x ≡ lane_x Narrow first n → failing_bars_in negative ending until first lanes n ++ failing_bar negative ending until (get_or lanes n None) x ≡ failing_bars_in negative ending until first lanes (n + 1)
failing_bars_next negative ending until first lanes n x at =
    let is : suc n ≡ n + 1 = omega arith in
    ap (λ (m : ℕ). failing_bars_in negative ending until first lanes n ++ failing_bar negative ending until (get_or lanes n None) m) at
    ∙ ap (failing_bars_in negative ending until first lanes) is

drawn_push : (before : List MountRow) (after : KernelState) (until : Until) (lasts : Lasts) (seen : List Obs) (obs : Obs) → seen_drawn before after until lasts (seen ++ obs ∷ []) ≡ seen_drawn before after until lasts seen ++ obs_drawn before after until (seen_behind until.number lasts seen) obs
drawn_push before after until lasts [] obs = append-nil (obs_drawn before after until lasts obs)
drawn_push before after until lasts (first ∷ seen) obs =
    ap (λ (t : List ℕ). obs_drawn before after until lasts first ++ t) (drawn_push before after until (changed until.number lasts first) seen obs)
    ∙ sym (append_assoc (obs_drawn before after until lasts first) (seen_drawn before after until (changed until.number lasts first) seen) (obs_drawn before after until (seen_behind until.number (changed until.number lasts first) seen) obs))

drawn_more : (before : List MountRow) (after : KernelState) (until : Until) (lasts : Lasts) (seen : List Obs) (i : ℕ) (obs : Obs) → i < length seen → seen_drawn before after until lasts (take (i + 1) seen) ≡ seen_drawn before after until lasts (take i seen) ++ obs_drawn before after until (seen_behind until.number lasts (take i seen)) (get_or seen i obs)
drawn_more before after until lasts seen i obs inside =
    ap (seen_drawn before after until lasts) (take_more seen i obs inside) ∙ drawn_push before after until lasts (take i seen) (get_or seen i obs)

pub drawn_next : (before : List MountRow) (after : KernelState) (until : Until) (lasts now : Lasts) (seen : List Obs) (i : ℕ) (obs : Obs) → i < length seen → obs ≡ get_or seen i obs → now ≡ seen_behind until.number lasts (take i seen) → seen_drawn before after until lasts (take i seen) ++ obs_drawn before after until now obs ≡ seen_drawn before after until lasts (take (i + 1) seen)
drawn_next before after until lasts now seen i obs inside item is =
    ap (λ (l : Lasts). seen_drawn before after until lasts (take i seen) ++ obs_drawn before after until l obs) is
    ∙ ap (λ (o : Obs). seen_drawn before after until lasts (take i seen) ++ obs_drawn before after until (seen_behind until.number lasts (take i seen)) o) item
    ∙ sym (drawn_more before after until lasts seen i obs inside)
