-- Each place is judged alike by all that was seen and by what was seen lately.
use Rattle.std.proofs.Common.{◌≡◌, ℕ, Bool, true, false, List, [], ◌∷◌, ◌++◌, Option, Some, None, refl, sym, ap, subst, ◌∙◌, append_assoc, inl, inr, arith}
use Rattle.std.specs.Prelude.{◌==◌, ◌&&◌, ◌||◌, not, if◌then◌else◌}
use Rattle.std.specs.List.{list_any, list_all, Contains}
use Rattle.std.proofs.lemmas.Bool.Decides.{nat_tests}
use Rattle.std.proofs.lemmas.List.{append-nil}
use Rattle.std.proofs.lemmas.List.Folds.{list_any-append, list_all-append}
use Rattle.am_state.specs.{Obs}
use Rattle.am_state.specs.declared.obs.Obs.TheVariants.{Queued, Waits, Answered, Catatonic, Released, Passed, Delivered}
use Rattle.am_names.specs.{Status}
use Rattle.am_names.specs.declared.trigger.Trigger.{Trigger}
use Rattle.am_names.proofs.Basics.{neither_of_or, false_unless_true, equal_to_itself, and_where_left_is_false}
use Rattle.am_wire.specs.{Packet}
use Rattle.am_laws.specs.{queues, queues_as, waits, delivers, releases, closes, closes_as, unqueues, is_fs, is_released, first_of, packet_of, dev_of, fs_of_token, IsOpen, IsQueued, Closes, HasNo, is_open, is_in_queue, all_released, asks, is_expiry, is_cause, ends_in_row, may_be_released, is_closed, is_lawful_at, WereLawful, AreSettled, WereSettled, can_close, is_lawful_lately}
use Rattle.am_laws.proofs.Lists.{all_split, none_split, all_same, any_same, since_no, any_at, none_in}
use Rattle.am_laws.proofs.Words.{never_queued_test, never_delivered_test, delivered_test, queued_from_since}
use Rattle.am_laws.proofs.Decided.{is_open_true, row_split, has_since}
use Rattle.am_laws.proofs.Late.{packet_late, fs_late, open_late, never_open, not_queued_as, in_queue_late, open_queued, queued_in_part, none_old, waits_behind, delivers_behind, releases_behind, released_late, any_late, queued_once, open_same}

and_no_right : (a b : Bool) → b ≡ false → (a && b) ≡ false
and_no_right true b h = h
and_no_right false b h = refl

if_neither : (f o x : Bool) → o ≡ false → (if f && o then x else true) ≡ true
if_neither true true x h = absurd cc
if_neither true false x h = refl
if_neither false o x h = refl

-- an acknowledgement

answer_by_cases : (token : ℕ) (row old lately : List Obs) (b : Bool) → list_any (queues token) old ≡ b → WereLawful (old ++ lately) → AreSettled old (old ++ lately) →
    (is_open token (old ++ lately) && list_any (delivers token) (old ++ lately) && all_released (old ++ lately) token row)
    ≡ (is_open token lately && list_any (delivers token) lately && all_released lately token row)
answer_by_cases token row old lately true e were settled =
    and_where_left_is_false _ _ (and_where_left_is_false _ _ (settled token e)) ∙ sym (and_where_left_is_false _ _ (and_where_left_is_false _ _ (never_open token lately (queued_once token old lately were e))))
answer_by_cases token row old lately false e were settled =
    ap (λ (b : Bool). b && list_any (delivers token) (old ++ lately) && all_released (old ++ lately) token row) (open_late token old lately e)
    ∙ ap (λ (b : Bool). is_open token lately && b && all_released (old ++ lately) token row) (any_late token (delivers token) (delivers_behind token) old lately were e)
    ∙ ap (λ (b : Bool). is_open token lately && list_any (delivers token) lately && b) (released_late token row old lately were e)

-- catatonic mode

closed_by_cases : (fs : ℕ) (rest : List Obs) (token attach : ℕ) (packet : Packet) (old lately : List Obs) (b : Bool) → list_any (queues token) old ≡ b → WereLawful (old ++ lately) → AreSettled old (old ++ lately) → is_closed fs (old ++ lately) rest (Queued token attach packet) ≡ is_closed fs lately rest (Queued token attach packet)
closed_by_cases fs rest token attach packet old lately true e were settled =
    if_neither (is_fs (fs_of_token token (old ++ lately)) fs) (is_open token (old ++ lately)) (all_released (old ++ lately) token rest) (settled token e)
    ∙ sym (if_neither (is_fs (fs_of_token token lately) fs) (is_open token lately) (all_released lately token rest) (never_open token lately (queued_once token old lately were e)))
closed_by_cases fs rest token attach packet old lately false e were settled =
    ap (λ (f : Option ℕ). if is_fs f fs && is_open token (old ++ lately) then all_released (old ++ lately) token rest else true) (fs_late token old lately e)
    ∙ ap (λ (b : Bool). if is_fs (fs_of_token token lately) fs && b then all_released (old ++ lately) token rest else true) (open_late token old lately e)
    ∙ ap (λ (b : Bool). if is_fs (fs_of_token token lately) fs && is_open token lately then b else true) (released_late token rest old lately were e)

closed_same : (fs : ℕ) (rest old lately : List Obs) → WereLawful (old ++ lately) → AreSettled old (old ++ lately) → (o : Obs) → is_closed fs (old ++ lately) rest o ≡ is_closed fs lately rest o
closed_same fs rest old lately were settled (Queued k a p) = closed_by_cases fs rest k a p old lately (list_any (queues k) old) refl were settled
closed_same fs rest old lately were settled _ = refl

closed_old : (fs : ℕ) (rest old lately : List Obs) → AreSettled old (old ++ lately) → (before : List Obs) (o : Obs) (later : List Obs) → old ≡ before ++ o ∷ later → is_closed fs (old ++ lately) rest o ≡ true
closed_old fs rest old lately settled before (Queued k a p) later e =
    let has = subst (λ (s : List Obs). list_any (queues k) s ≡ true) (sym e) (any_at (queues k) before (Queued k a p) later (equal_to_itself k)) in
    if_neither (is_fs (fs_of_token k (old ++ lately)) fs) (is_open k (old ++ lately)) (all_released (old ++ lately) k rest) (settled k has)
closed_old fs rest old lately settled before _ later e = refl

catatonic_same : (fs : ℕ) (rest old lately : List Obs) → WereLawful (old ++ lately) → AreSettled old (old ++ lately) → list_all (is_closed fs (old ++ lately) rest) (old ++ lately) ≡ list_all (is_closed fs lately rest) lately
catatonic_same fs rest old lately were settled =
    list_all-append (is_closed fs (old ++ lately) rest) old lately
    ∙ ap (λ (b : Bool). b && list_all (is_closed fs (old ++ lately) rest) lately) (all_split (is_closed fs (old ++ lately) rest) old (closed_old fs rest old lately settled))
    ∙ all_same (is_closed fs (old ++ lately) rest) (is_closed fs lately rest) (closed_same fs rest old lately were settled) lately

-- expiring triggers

expiry_by_cases : (trigger : Trigger) (token attach : ℕ) (packet : Packet) (old lately : List Obs) (b : Bool) → list_any (queues token) old ≡ b → WereLawful (old ++ lately) → AreSettled old (old ++ lately) → is_expiry (old ++ lately) trigger (Queued token attach packet) ≡ is_expiry lately trigger (Queued token attach packet)
expiry_by_cases trigger token attach packet old lately true e were settled =
    and_no_right (asks trigger (packet_of token (old ++ lately))) (is_open token (old ++ lately)) (settled token e)
    ∙ sym (and_no_right (asks trigger (packet_of token lately)) (is_open token lately) (never_open token lately (queued_once token old lately were e)))
expiry_by_cases trigger token attach packet old lately false e were settled =
    ap (λ (p : Option Packet). asks trigger p && is_open token (old ++ lately)) (packet_late token old lately e)
    ∙ ap (λ (b : Bool). asks trigger (packet_of token lately) && b) (open_late token old lately e)

expiry_same : (trigger : Trigger) (old lately : List Obs) → WereLawful (old ++ lately) → AreSettled old (old ++ lately) → (o : Obs) → is_expiry (old ++ lately) trigger o ≡ is_expiry lately trigger o
expiry_same trigger old lately were settled (Queued k a p) = expiry_by_cases trigger k a p old lately (list_any (queues k) old) refl were settled
expiry_same trigger old lately were settled _ = refl

expiry_old : (trigger : Trigger) (old lately : List Obs) → AreSettled old (old ++ lately) → (before : List Obs) (o : Obs) (later : List Obs) → old ≡ before ++ o ∷ later → is_expiry (old ++ lately) trigger o ≡ false
expiry_old trigger old lately settled before (Queued k a p) later e =
    let has = subst (λ (s : List Obs). list_any (queues k) s ≡ true) (sym e) (any_at (queues k) before (Queued k a p) later (equal_to_itself k)) in
    and_no_right (asks trigger (packet_of k (old ++ lately))) (is_open k (old ++ lately)) (settled k has)
expiry_old trigger old lately settled before _ later e = refl

passed_same : (trigger : Trigger) (old lately : List Obs) → WereLawful (old ++ lately) → AreSettled old (old ++ lately) → list_any (is_expiry (old ++ lately) trigger) (old ++ lately) ≡ list_any (is_expiry lately trigger) lately
passed_same trigger old lately were settled =
    list_any-append (is_expiry (old ++ lately) trigger) old lately
    ∙ ap (λ (b : Bool). b || list_any (is_expiry (old ++ lately) trigger) lately) (none_split (is_expiry (old ++ lately) trigger) old (expiry_old trigger old lately settled))
    ∙ any_same (is_expiry (old ++ lately) trigger) (is_expiry lately trigger) (expiry_same trigger old lately were settled) lately

-- a delivery

undelivered_front : (token attach : ℕ) (packet : Packet) (before front rest : List Obs) (later : List Obs) → later ≡ front ++ rest → WereLawful (before ++ Queued token attach packet ∷ later) → HasNo (queues token) before → HasNo (delivers token) later → list_any (delivers token) (before ++ Queued token attach packet ∷ front) ≡ false
undelivered_front token attach packet before front rest later e were none un =
    list_any-append (delivers token) before (Queued token attach packet ∷ front)
    ∙ ap (λ (b : Bool). b || list_any (delivers token) front) (none_old token (delivers token) (delivers_behind token) before (Queued token attach packet ∷ later) were none)
    ∙ (neither_of_or (list_any (delivers token) front) (list_any (delivers token) rest) (sym (list_any-append (delivers token) front rest) ∙ subst (λ (s : List Obs). list_any (delivers token) s ≡ false) e un)).0

answers_no : (token attach : ℕ) (packet : Packet) (before later : List Obs) → WereLawful (before ++ Queued token attach packet ∷ later) → HasNo (queues token) before → HasNo (delivers token) later → (front : List Obs) (o : Obs) (rest : List Obs) → later ≡ front ++ o ∷ rest → closes token None o ≡ false
answers_no token attach packet before later were none un front (Answered k s) rest e =
    false_unless_true (k == token) (λ so.
    let same : k ≡ token = grind (arith, nat_tests, so) in
    let at = were (before ++ Queued token attach packet ∷ front) (Answered k s) rest (ap (λ (x : List Obs). before ++ (Queued token attach packet ∷ x)) e ∙ sym (append_assoc before (Queued token attach packet ∷ front) (Answered k s ∷ rest))) in
    let was : list_any (delivers k) (before ++ Queued token attach packet ∷ front) ≡ true = delivered_test k (before ++ Queued token attach packet ∷ front) at.1.1 in
    let has = subst (λ (x : ℕ). list_any (delivers x) (before ++ Queued token attach packet ∷ front) ≡ true) same was in
    let no = undelivered_front token attach packet before front (Answered k s ∷ rest) later e were none un in
    absurd cc)
answers_no token attach packet before later were none un front _ rest e = refl

first_packet : (token attach : ℕ) (packet : Packet) (before later : List Obs) → HasNo (queues token) before → fs_of_token token (before ++ Queued token attach packet ∷ later) ≡ Some packet.dev
first_packet token attach packet before later none =
    fs_late token before (Queued token attach packet ∷ later) none
    ∙ ap (λ (b : Bool). dev_of (first_of (if b then Some packet else None) (packet_of token later))) (equal_to_itself token)

-- a packet that waits in the queue has an open token: it would be answered after its delivery only
queued_open : (seen : List Obs) (token attach : ℕ) (packet : Packet) → WereLawful seen → IsQueued seen token attach packet → IsOpen seen token
queued_open seen token attach packet were q =
    let here = subst (λ (s : List Obs). WereLawful s) q.queued were in
    let never = here q.before (Queued token attach packet) q.later refl in
    let none : list_any (queues token) q.before ≡ false = never_queued_test token q.before never.1 in
    let un : list_any (delivers token) q.later ≡ false = never_delivered_test token q.later q.undelivered in
    let closes_none : list_any (closes token None) q.later ≡ false = none_split (closes token None) q.later (answers_no token attach packet q.before q.later here none un) in
    let fs : fs_of_token token seen ≡ Some packet.dev = subst (λ (s : List Obs). fs_of_token token s ≡ Some packet.dev) (sym q.queued) (first_packet token attach packet q.before q.later none) in
    record {
      before = q.before;
      attach = attach;
      packet = packet;
      later = q.later;
      queued = q.queued;
      unanswered = λ status. none_in (closes token None) q.later closes_none (Answered token status) (equal_to_itself token);
      not_catatonic = λ f e. let same : f ≡ packet.dev = cc in subst (λ (x : ℕ). ¬ Contains q.later (Catatonic x)) (sym same) q.not_catatonic;
    }

in_queue_settled : (token attach : ℕ) (packet : Packet) (old lately : List Obs) → WereLawful (old ++ lately) → AreSettled old (old ++ lately) → list_any (queues token) old ≡ true → is_in_queue token attach packet (old ++ lately) ≡ false
in_queue_settled token attach packet old lately were settled e =
    false_unless_true _ (λ so.
    let q = queued_from_since (old ++ lately) token attach packet (has_since _ _ (old ++ lately) so) in
    let is = is_open_true (old ++ lately) token (queued_open (old ++ lately) token attach packet were q) in
    let no = settled token e in
    absurd cc)

delivery_by_cases : (token attach : ℕ) (packet : Packet) (old lately : List Obs) (b : Bool) → list_any (queues token) old ≡ b → WereLawful (old ++ lately) → AreSettled old (old ++ lately) →
    (is_in_queue token attach packet (old ++ lately) && not (list_any (delivers token) (old ++ lately)))
    ≡ (is_in_queue token attach packet lately && not (list_any (delivers token) lately))
delivery_by_cases token attach packet old lately true e were settled =
    and_where_left_is_false _ _ (in_queue_settled token attach packet old lately were settled e)
    ∙ sym (and_where_left_is_false _ _ (since_no (queues_as token attach packet) (unqueues token packet.dev) lately (not_queued_as token attach packet lately (queued_once token old lately were e))))
delivery_by_cases token attach packet old lately false e were settled =
    ap (λ (b : Bool). b && not (list_any (delivers token) (old ++ lately))) (in_queue_late token attach packet old lately e)
    ∙ ap (λ (b : Bool). is_in_queue token attach packet lately && not b) (any_late token (delivers token) (delivers_behind token) old lately were e)

-- a release

cause_late : (old front : List Obs) (cause : Obs) (row : List Obs) (token : ℕ) (status : Status) → HasNo (queues token) old → is_cause (old ++ front) cause row token status ≡ is_cause front cause row token status
cause_late old front cause row token status none =
    ap (λ (f : Option ℕ). closes_as token f status cause && list_all is_released row && is_open token (old ++ front)) (fs_late token old front none)
    ∙ ap (λ (b : Bool). closes_as token (fs_of_token token front) status cause && list_all is_released row && b) (open_late token old front none)

row_late : (old front rest : List Obs) (token : ℕ) (status : Status) → HasNo (queues token) old → ends_in_row (old ++ front) rest token status ≡ ends_in_row front rest token status
row_late old front [] token status none = refl
row_late old front (o ∷ rest) token status none =
    ap (λ (b : Bool). b || ends_in_row ((old ++ front) ++ o ∷ []) rest token status) (cause_late old front o rest token status none)
    ∙ ap (λ (s : List Obs). is_cause front o rest token status || ends_in_row s rest token status) (append_assoc old front (o ∷ []))
    ∙ ap (λ (b : Bool). is_cause front o rest token status || b) (row_late old (front ++ o ∷ []) rest token status none)

row_skips : (front old lately : List Obs) (token : ℕ) (status : Status) → HasNo (queues token) (front ++ old) → ends_in_row front (old ++ lately) token status ≡ ends_in_row (front ++ old) lately token status
row_skips front [] lately token status none = ap (λ (s : List Obs). ends_in_row s lately token status) (sym (append-nil front))
row_skips front (o ∷ old) lately token status none =
    let no = (neither_of_or _ _ (sym (list_any-append (queues token) front (o ∷ old)) ∙ none)).0 in
    ap (λ (b : Bool). b || ends_in_row (front ++ o ∷ []) (old ++ lately) token status) (and_no_right (closes_as token (fs_of_token token front) status o && list_all is_released (old ++ lately)) (is_open token front) (never_open token front no))
    ∙ row_skips (front ++ o ∷ []) old lately token status (subst (λ (s : List Obs). list_any (queues token) s ≡ false) (sym (append_assoc front (o ∷ []) old)) none)
    ∙ ap (λ (s : List Obs). ends_in_row s lately token status) (append_assoc front (o ∷ []) old)

row_same : (old lately : List Obs) (token : ℕ) (status : Status) → HasNo (queues token) old → ends_in_row [] (old ++ lately) token status ≡ ends_in_row [] lately token status
row_same old lately token status none =
    row_skips [] old lately token status none
    ∙ ap (λ (s : List Obs). ends_in_row s lately token status) (sym (append-nil old))
    ∙ row_late old [] lately token status none

row_never : (seen : List Obs) (token : ℕ) (status : Status) → HasNo (queues token) seen → ends_in_row [] seen token status ≡ false
row_never seen token status none =
    false_unless_true _ (λ so.
    let row = row_split [] seen token status so in
    let has = queued_in_part token row.before (row.cause ∷ row.row) (open_queued row.before token row.was_open) in
    let all = subst (λ (s : List Obs). list_any (queues token) s ≡ true) (sym row.splits) has in
    absurd cc)

closes_can : (before : List Obs) (token : ℕ) (status : Status) (cause : Obs) → Closes before token status cause → can_close cause ≡ true
closes_can before token status cause (inl e) = ap can_close e
closes_can before token status cause (inr h) = ap can_close h.1

row_settled : (old seen : List Obs) (token : ℕ) (status : Status) → WereSettled old seen → list_any (queues token) old ≡ true → ends_in_row [] seen token status ≡ false
row_settled old seen token status settled e =
    false_unless_true _ (λ so.
    let row = row_split [] seen token status so in
    let no = settled row.before row.cause row.row row.splits row.unbroken (closes_can row.before token status row.cause row.closed) token e in
    let is = is_open_true row.before token row.was_open in
    absurd cc)

release_by_cases : (walker token : ℕ) (status : Status) (old lately : List Obs) (b : Bool) → list_any (queues token) old ≡ b → WereLawful (old ++ lately) → WereSettled old (old ++ lately) → may_be_released (old ++ lately) walker token status ≡ may_be_released lately walker token status
release_by_cases walker token status old lately true e were settled =
    and_no_right _ _ (row_settled old (old ++ lately) token status settled e)
    ∙ sym (and_no_right _ _ (row_never lately token status (queued_once token old lately were e)))
release_by_cases walker token status old lately false e were settled =
    ap (λ (b : Bool). b && not (list_any (releases walker token) (old ++ lately)) && ends_in_row [] (old ++ lately) token status) (any_late token (waits walker token) (waits_behind walker token) old lately were e)
    ∙ ap (λ (b : Bool). list_any (waits walker token) lately && not b && ends_in_row [] (old ++ lately) token status) (any_late token (releases walker token) (releases_behind walker token) old lately were e)
    ∙ ap (λ (b : Bool). list_any (waits walker token) lately && not (list_any (releases walker token) lately) && b) (row_same old lately token status e)

-- each place

pub lately_same : (old lately : List Obs) (o : Obs) (rest : List Obs) → WereLawful (old ++ lately) → AreSettled old (old ++ lately) → (can_close o ≡ false → WereSettled old (old ++ lately)) → is_lawful_lately (old ++ lately) lately o rest ≡ is_lawful_at (old ++ lately) o rest
lately_same old lately (Waits walker token) rest were settled row = sym (open_same token old lately were settled)
lately_same old lately (Answered token status) rest were settled row = sym (answer_by_cases token rest old lately (list_any (queues token) old) refl were settled)
lately_same old lately (Catatonic fs) rest were settled row = sym (catatonic_same fs rest old lately were settled)
lately_same old lately (Released walker token status) rest were settled row = sym (release_by_cases walker token status old lately (list_any (queues token) old) refl were (row refl))
lately_same old lately (Passed walker trigger) rest were settled row = ap not (sym (passed_same trigger old lately were settled))
lately_same old lately (Delivered token attach packet) rest were settled row = sym (delivery_by_cases token attach packet old lately (list_any (queues token) old) refl were settled)
lately_same old lately _ rest were settled row = refl
