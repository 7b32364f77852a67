-- The tests decide the laws.
use Rattle.std.proofs.Common.{◌≡◌, ℕ, Bool, true, false, List, [], ◌∷◌, ◌++◌, Option, Some, None, refl, sym, ap, subst, ◌∙◌, append_assoc, inl, inr, arith}
use Rattle.std.specs.Prelude.{◌==◌, ◌⊎◌, ◌&&◌, ◌||◌, not, if◌then◌else◌, All, pos}
use Rattle.std.specs.List.{list_any, list_all, count_by}
use Rattle.std.proofs.lemmas.Bool.Decides.{nat_tests}
use Rattle.std.proofs.lemmas.List.{append-nil}
use Rattle.std.proofs.lemmas.List.Elements.{All-nil, All-cons, All-head, All-tail}
use Rattle.am_state.specs.{Obs}
use Rattle.am_state.specs.declared.obs.Obs.TheVariants.{Queued, Waits, Answered, Catatonic, Released, Passed, Unmounted, Delivered}
use Rattle.am_names.specs.{Status}
use Rattle.am_wire.specs.{Packet}
use Rattle.am_names.specs.declared.trigger.Trigger.{Trigger}
use Rattle.am_names.proofs.Basics.{neither_of_or, or_right, or_left, both_of_and, and_of_both, false_where_not, not_where_false, false_unless_true}
use Rattle.am_laws.specs.{queues, waits, delivers, releases, is_released, closes, closes_as, enters, leaves, is_fs, packet_of, fs_of_token, IsOpen, IsExpiring, uses, EndsInRow, MayBeReleased, AllReleased, Lawful, IsLawfulAt, AreLawful, HasNo, HasSince, since, is_open, is_in_queue, is_unused, asks, is_expiry, is_cause, ends_in_row, may_be_released, is_let_go, all_released, is_closed, is_lawful_at, are_lawful, is_in_row}
use Rattle.am_laws.proofs.Words.{is_fs_true, fs_from_test, waits_true, waits_from_test, never_queued_test, never_queued_from_test, never_delivered_test, never_delivered_from_test, delivered_test, delivered_from_test, once_test, once_from_test, since_from_open, open_from_since, since_from_queued, queued_from_since, closes_true, closes_from_test, in_row_true, in_row_from_test, uses_zero, zero_uses}
use Rattle.am_laws.proofs.Packets.{expires_true, expires_from_test}
use Rattle.am_laws.proofs.Places.{lawful_from_front, front_from_lawful}
use Rattle.am_laws.proofs.Lists.{if_of, if_then, any_at, any_some, all_each, all_at}

-- since

since_cons : (these those : Obs → Bool) (o : Obs) (later : List Obs) → HasSince these those later → HasSince these those (o ∷ later)
since_cons these those o later h = record {
  before = o ∷ h.before;
  this = h.this;
  later = h.later;
  splits = ap (λ (xs : List Obs). o ∷ xs) h.splits;
  is_one = h.is_one;
  none_later = h.none_later;
}

since_here : (these those : Obs → Bool) (b : Bool) (o : Obs) (later : List Obs) (t d : Bool) → these o ≡ t → those o ≡ d → (if t then true else if d then false else b) ≡ true → HasNo those later → ((b ≡ true) × HasNo those (o ∷ later)) ⊎ HasSince these those (o ∷ later)
since_here these those b o later true d is_t is_d h none = inr (record { before = []; this = o; later = later; splits = refl; is_one = is_t; none_later = none })
since_here these those b o later false true is_t is_d h none = absurd cc
since_here these those b o later false false is_t is_d h none = inl (h, ap (λ (x : Bool). x || list_any those later) is_d ∙ none)

since_split : (these those : Obs → Bool) (b : Bool) (seen : List Obs) → since these those b seen ≡ true → ((b ≡ true) × HasNo those seen) ⊎ HasSince these those seen
since_split these those b [] h = inl (h, refl)
since_split these those b (o ∷ later) h =
    elim (since_split these those (if these o then true else if those o then false else b) later h) [
      | inl w ↦ since_here these those b o later (these o) (those o) refl refl w.0 w.1
      | inr s ↦ inr (since_cons these those o later s)
    ]

stays_true : (t d : Bool) → d ≡ false → (if t then true else if d then false else true) ≡ true
stays_true true d h = refl
stays_true false true h = absurd cc
stays_true false false h = refl

since_stays : (these those : Obs → Bool) (later : List Obs) → HasNo those later → since these those true later ≡ true
since_stays these those [] h = refl
since_stays these those (o ∷ later) h =
    let no = neither_of_or (those o) (list_any those later) h in
    subst (λ (b : Bool). since these those b later ≡ true) (sym (stays_true (these o) (those o) no.0)) (since_stays these those later no.1)

since_at : (these those : Obs → Bool) (b : Bool) (before : List Obs) (this : Obs) (later : List Obs) → these this ≡ true → HasNo those later → since these those b (before ++ this ∷ later) ≡ true
since_at these those b [] this later is_one none =
    subst (λ (t : Bool). since these those (if t then true else if those this then false else b) later ≡ true) (sym is_one) (since_stays these those later none)
since_at these those b (o ∷ before) this later is_one none = since_at these those _ before this later is_one none

pub has_since : (these those : Obs → Bool) (seen : List Obs) → since these those false seen ≡ true → HasSince these those seen
has_since these those seen h = elim (since_split these those false seen h) [ inl w ↦ absurd cc | inr s ↦ s ]

pub since_true : (these those : Obs → Bool) (seen : List Obs) → HasSince these those seen → since these those false seen ≡ true
since_true these those seen h =
    subst (λ (s : List Obs). since these those false s ≡ true) (sym h.splits) (since_at these those false h.before h.this h.later h.is_one h.none_later)

pub is_open_true : (seen : List Obs) (token : ℕ) → IsOpen seen token → is_open token seen ≡ true
is_open_true seen token h = since_true (queues token) (closes token (fs_of_token token seen)) seen (since_from_open seen token h)

pub open_from_test : (seen : List Obs) (token : ℕ) → is_open token seen ≡ true → IsOpen seen token
open_from_test seen token h = open_from_since seen token (has_since (queues token) (closes token (fs_of_token token seen)) seen h)

-- expiring

expiry_true : (seen : List Obs) (trigger : Trigger) → IsExpiring seen trigger → list_any (is_expiry seen trigger) seen ≡ true
expiry_true seen trigger h =
    let a : asks trigger (packet_of h.token seen) ≡ true = ap (asks trigger) h.is_its ∙ expires_true trigger h.packet h.asks in
    let o : Obs = Queued h.token h.is_open.attach h.is_open.packet in
    let here : is_expiry seen trigger o ≡ true = and_of_both _ _ a (is_open_true seen h.token h.is_open) in
    subst (λ (s : List Obs). list_any (is_expiry seen trigger) s ≡ true) (sym h.is_open.queued) (any_at (is_expiry seen trigger) h.is_open.before o h.is_open.later here)

expiring_of : (seen : List Obs) (trigger : Trigger) (token : ℕ) (found : Option Packet) → packet_of token seen ≡ found → asks trigger found ≡ true → IsOpen seen token → IsExpiring seen trigger
expiring_of seen trigger token None e a p = absurd cc
expiring_of seen trigger token (Some packet) e a p = record { token = token; packet = packet; is_its = e; asks = expires_from_test trigger packet a; is_open = p }

expiring_at : (seen : List Obs) (trigger : Trigger) (o : Obs) → is_expiry seen trigger o ≡ true → IsExpiring seen trigger
expiring_at seen trigger (Queued k attach packet) h =
    let both = both_of_and (asks trigger (packet_of k seen)) (is_open k seen) h in
    expiring_of seen trigger k (packet_of k seen) refl both.0 (open_from_test seen k both.1)
expiring_at seen trigger _ h = absurd cc

pub expiring_from_test : (seen : List Obs) (trigger : Trigger) → list_any (is_expiry seen trigger) seen ≡ true → IsExpiring seen trigger
expiring_from_test seen trigger h = let found = any_some (is_expiry seen trigger) seen h in expiring_at seen trigger found.0 found.2

-- releases

let_go_of : (token : ℕ) (rest : List Obs) (o : Obs) → ((walker : ℕ) → waits walker token o ≡ true → is_in_row (releases walker token) rest ≡ true) → is_let_go token rest o ≡ true
let_go_of token rest (Waits walker k) h = if_of (k == token) (is_in_row (releases walker token) rest) (λ same. h walker (grind (arith, nat_tests, same)))
let_go_of token rest _ h = refl

let_go_at : (token : ℕ) (rest : List Obs) (walker : ℕ) (o : Obs) → is_let_go token rest o ≡ true → waits walker token o ≡ true → is_in_row (releases walker token) rest ≡ true
let_go_at token rest walker (Waits w k) h q =
    let both = both_of_and (w == walker) (k == token) q in
    let same : w ≡ walker = grind (arith, nat_tests, both.0) in
    subst (λ (x : ℕ). is_in_row (releases x token) rest ≡ true) same (if_then (k == token) (is_in_row (releases w token) rest) both.1 h)
let_go_at token rest walker _ h q = absurd cc

abbrev AllInRow : ℕ → List Obs → List Obs → Type 0
AllInRow token rest seen = (walker : ℕ) → list_any (waits walker token) seen ≡ true → is_in_row (releases walker token) rest ≡ true

rows_true : (token : ℕ) (rest seen : List Obs) → AllInRow token rest seen → all_released seen token rest ≡ true
rows_true token rest [] h = refl
rows_true token rest (o ∷ seen) h =
    and_of_both (is_let_go token rest o) (all_released seen token rest) (let_go_of token rest o (λ walker q. h walker (or_left (waits walker token o) (list_any (waits walker token) seen) q))) (rows_true token rest seen (λ walker q. h walker (or_right (waits walker token o) (list_any (waits walker token) seen) q)))

rows_at : (token : ℕ) (rest seen : List Obs) (walker : ℕ) (o : Obs) (b : Bool) → waits walker token o ≡ b → all_released (o ∷ seen) token rest ≡ true → (all_released seen token rest ≡ true → AllInRow token rest seen) → (b || list_any (waits walker token) seen) ≡ true → is_in_row (releases walker token) rest ≡ true
rows_at token rest seen walker o true e h later q = let_go_at token rest walker o (both_of_and (is_let_go token rest o) (all_released seen token rest) h).0 e
rows_at token rest seen walker o false e h later q = later (both_of_and (is_let_go token rest o) (all_released seen token rest) h).1 walker q

rows_from_test : (token : ℕ) (rest seen : List Obs) → all_released seen token rest ≡ true → AllInRow token rest seen
rows_from_test token rest [] h = λ walker q. absurd cc
rows_from_test token rest (o ∷ seen) h = λ walker q. rows_at token rest seen walker o (waits walker token o) refl h (rows_from_test token rest seen) q

pub released_true : (token : ℕ) (rest seen : List Obs) → AllReleased seen token rest → all_released seen token rest ≡ true
released_true token rest seen h = rows_true token rest seen (λ walker q. in_row_true walker token rest (h walker (waits_from_test walker token seen q)))

released_from_test : (token : ℕ) (rest seen : List Obs) → all_released seen token rest ≡ true → AllReleased seen token rest
released_from_test token rest seen h = λ walker c. in_row_from_test walker token rest (rows_from_test token rest seen h walker (waits_true walker token seen c))

-- catatonic mode

closed_of : (fs : ℕ) (before rest : List Obs) → ((token : ℕ) → fs_of_token token before ≡ Some fs → IsOpen before token → AllReleased before token rest) → (o : Obs) → is_closed fs before rest o ≡ true
closed_of fs before rest h (Queued k attach packet) =
    if_of (is_fs (fs_of_token k before) fs && is_open k before) (all_released before k rest) (λ both. let two = both_of_and (is_fs (fs_of_token k before) fs) (is_open k before) both in released_true k rest before (h k (fs_from_test fs (fs_of_token k before) two.0) (open_from_test before k two.1)))
closed_of fs before rest h _ = refl

closed_true : (fs : ℕ) (before rest : List Obs) → ((token : ℕ) → fs_of_token token before ≡ Some fs → IsOpen before token → AllReleased before token rest) → list_all (is_closed fs before rest) before ≡ true
closed_true fs before rest h = all_each (is_closed fs before rest) before (closed_of fs before rest h)

closed_from_test : (fs : ℕ) (before rest : List Obs) → list_all (is_closed fs before rest) before ≡ true → (token : ℕ) → fs_of_token token before ≡ Some fs → IsOpen before token → AllReleased before token rest
closed_from_test fs before rest h = λ token e p.
    let here = all_at (is_closed fs before rest) p.before (Queued token p.attach p.packet) p.later (subst (λ (s : List Obs). list_all (is_closed fs before rest) s ≡ true) p.queued h) in
    released_from_test token rest before (if_then (is_fs (fs_of_token token before) fs && is_open token before) (all_released before token rest) (and_of_both _ _ (is_fs_true fs (fs_of_token token before) e) (is_open_true before token p)) here)

-- rows

row_found : (front before : List Obs) (cause : Obs) (row : List Obs) (token : ℕ) (status : Status) → is_cause (front ++ before) cause row token status ≡ true → ends_in_row front (before ++ cause ∷ row) token status ≡ true
row_found front [] cause row token status h =
    or_left (is_cause front cause row token status) _ (subst (λ (b : List Obs). is_cause b cause row token status ≡ true) (append-nil front) h)
row_found front (o ∷ before) cause row token status h =
    or_right (is_cause front o (before ++ cause ∷ row) token status) _ (row_found (front ++ o ∷ []) before cause row token status (subst (λ (b : List Obs). is_cause b cause row token status ≡ true) (sym (append_assoc front (o ∷ []) before)) h))

pub row_true : (seen : List Obs) (token : ℕ) (status : Status) → EndsInRow seen token status → ends_in_row [] seen token status ≡ true
row_true seen token status h =
    subst (λ (s : List Obs). ends_in_row [] s token status ≡ true) (sym h.splits) (row_found [] h.before h.cause h.row token status (and_of_both _ _ (and_of_both _ _ (closes_true h.before token status h.cause h.closed) h.unbroken) (is_open_true h.before token h.was_open)))

row_here : (front : List Obs) (o : Obs) (row : List Obs) (token : ℕ) (status : Status) → is_cause front o row token status ≡ true → EndsInRow (front ++ o ∷ row) token status
row_here front o row token status h =
    let both = both_of_and (closes_as token (fs_of_token token front) status o && list_all is_released row) (is_open token front) h in
    let two = both_of_and (closes_as token (fs_of_token token front) status o) (list_all is_released row) both.0 in
    record { before = front; cause = o; row = row; splits = refl; unbroken = two.1; closed = closes_from_test front token status o two.0; was_open = open_from_test front token both.1 }

row_either : (front : List Obs) (o : Obs) (row : List Obs) (token : ℕ) (status : Status) (b : Bool) → is_cause front o row token status ≡ b → (ends_in_row (front ++ o ∷ []) row token status ≡ true → EndsInRow ((front ++ o ∷ []) ++ row) token status) → (b || ends_in_row (front ++ o ∷ []) row token status) ≡ true → EndsInRow (front ++ o ∷ row) token status
row_either front o row token status true e later h = row_here front o row token status e
row_either front o row token status false e later h = subst (λ (s : List Obs). EndsInRow s token status) (append_assoc front (o ∷ []) row) (later h)

pub row_split : (front rest : List Obs) (token : ℕ) (status : Status) → ends_in_row front rest token status ≡ true → EndsInRow (front ++ rest) token status
row_split front [] token status h = absurd cc
row_split front (o ∷ rest) token status h = row_either front o rest token status (is_cause front o rest token status) refl (row_split (front ++ o ∷ []) rest token status) h

may_be_released_passes : (before : List Obs) (walker token : ℕ) (status : Status) → MayBeReleased before walker token status → may_be_released before walker token status ≡ true
may_be_released_passes before walker token status h = and_of_both _ _ (and_of_both _ _ (waits_true walker token before h.waited) (not_where_false _ (once_test walker token before h.once))) (row_true before token status h.in_row)

may_from_test : (before : List Obs) (walker token : ℕ) (status : Status) → may_be_released before walker token status ≡ true → MayBeReleased before walker token status
may_from_test before walker token status h =
    let both = both_of_and (list_any (waits walker token) before && not (list_any (releases walker token) before)) (ends_in_row [] before token status) h in
    let two = both_of_and (list_any (waits walker token) before) (not (list_any (releases walker token) before)) both.0 in
    record { in_row = row_split [] before token status both.1; waited = waits_from_test walker token before two.0; once = once_from_test walker token before (false_where_not _ two.1) }

-- mounts

unused_true : (before : List Obs) (mounts : List ℕ) → All (λ m. uses before m ≡ pos 0) mounts → list_all (is_unused before) mounts ≡ true
unused_true before [] h = refl
unused_true before (m ∷ mounts) h =
    let here = uses_zero (count_by (enters m) before) (count_by (leaves m) before) (All-head (λ m. uses before m ≡ pos 0) m mounts h) in
    and_of_both (is_unused before m) _ (grind (arith, nat_tests, here)) (unused_true before mounts (All-tail (λ m. uses before m ≡ pos 0) m mounts h))

unused_from_test : (before : List Obs) (mounts : List ℕ) → list_all (is_unused before) mounts ≡ true → All (λ m. uses before m ≡ pos 0) mounts
unused_from_test before [] h = All-nil (λ m. uses before m ≡ pos 0)
unused_from_test before (m ∷ mounts) h =
    let both = both_of_and (is_unused before m) (list_all (is_unused before) mounts) h in
    let same : count_by (enters m) before ≡ count_by (leaves m) before = grind (arith, nat_tests, both.0) in
    All-cons (λ m. uses before m ≡ pos 0) m mounts (zero_uses _ _ same) (unused_from_test before mounts both.1)

-- the laws

pub lawful_at_passes : (before : List Obs) (o : Obs) (rest : List Obs) → IsLawfulAt before o rest → is_lawful_at before o rest ≡ true
lawful_at_passes before (Queued token attach packet) rest h = not_where_false _ (never_queued_test token before h)
lawful_at_passes before (Waits walker token) rest h = is_open_true before token h
lawful_at_passes before (Answered token status) rest h = and_of_both _ _ (and_of_both _ _ (is_open_true before token h.0) (delivered_test token before h.1)) (released_true token rest before h.2)
lawful_at_passes before (Catatonic fs) rest h = closed_true fs before rest h
lawful_at_passes before (Released walker token status) rest h = may_be_released_passes before walker token status h
lawful_at_passes before (Passed walker trigger) rest h = not_where_false _ (false_unless_true (list_any (is_expiry before trigger) before) (λ e. h (expiring_from_test before trigger e)))
lawful_at_passes before (Unmounted mounts) rest h = unused_true before mounts h
lawful_at_passes before (Delivered token attach packet) rest h = and_of_both _ _ (since_true _ _ before (since_from_queued before token attach packet h.0)) (not_where_false _ (never_delivered_test token before h.1))
lawful_at_passes before _ rest h = refl

pub at_from_test : (before : List Obs) (o : Obs) (rest : List Obs) → is_lawful_at before o rest ≡ true → IsLawfulAt before o rest
at_from_test before (Queued token attach packet) rest h = never_queued_from_test token before (false_where_not _ h)
at_from_test before (Waits walker token) rest h = open_from_test before token h
at_from_test before (Answered token status) rest h =
    let both = both_of_and (is_open token before && list_any (delivers token) before) (all_released before token rest) h in
    let two = both_of_and (is_open token before) (list_any (delivers token) before) both.0 in
    (open_from_test before token two.0, delivered_from_test token before two.1, released_from_test token rest before both.1)
at_from_test before (Catatonic fs) rest h = closed_from_test fs before rest h
at_from_test before (Released walker token status) rest h = may_from_test before walker token status h
at_from_test before (Passed walker trigger) rest h = λ e. let yes = expiry_true before trigger e in let no = false_where_not (list_any (is_expiry before trigger) before) h in absurd cc
at_from_test before (Unmounted mounts) rest h = unused_from_test before mounts h
at_from_test before (Delivered token attach packet) rest h =
    let both = both_of_and (is_in_queue token attach packet before) (not (list_any (delivers token) before)) h in
    (queued_from_since before token attach packet (has_since _ _ before both.0), never_delivered_from_test token before (false_where_not _ both.1))
at_from_test before _ rest h = tt

lawful_passes : (before rest : List Obs) → AreLawful before rest → are_lawful before rest ≡ true
lawful_passes before [] h = refl
lawful_passes before (o ∷ rest) h = and_of_both (is_lawful_at before o rest) _ (lawful_at_passes before o rest h.0) (lawful_passes (before ++ o ∷ []) rest h.1)

are_from_test : (before rest : List Obs) → are_lawful before rest ≡ true → AreLawful before rest
are_from_test before [] h = tt
are_from_test before (o ∷ rest) h =
    let both = both_of_and (is_lawful_at before o rest) (are_lawful (before ++ o ∷ []) rest) h in
    (at_from_test before o rest both.0, are_from_test (before ++ o ∷ []) rest both.1)

pub lawful_true : (trace : List Obs) → Lawful trace → are_lawful [] trace ≡ true
lawful_true trace h = lawful_passes [] trace (lawful_from_front trace h)

pub lawful_from_test : (trace : List Obs) → are_lawful [] trace ≡ true → Lawful trace
lawful_from_test trace h = front_from_lawful trace (are_from_test [] trace h)
