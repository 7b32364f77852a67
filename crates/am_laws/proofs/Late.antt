-- What is known of a token that wasn't queued long ago, and of one that was.
use Rattle.std.proofs.Common.{◌≡◌, ℕ, Bool, true, false, List, [], ◌∷◌, ◌++◌, Option, Some, None, refl, sym, ap, subst, ◌∙◌, append_assoc, arith}
use Rattle.std.specs.Prelude.{◌==◌, ◌&&◌, ◌||◌, if◌then◌else◌}
use Rattle.std.specs.List.{list_any, list_all}
use Rattle.std.proofs.lemmas.Bool.Decides.{nat_tests}
use Rattle.std.proofs.lemmas.List.Folds.{list_any-append, list_all-append}
use Rattle.am_names.proofs.Basics.{neither_of_or, or_left, false_unless_true, equal_to_itself}
use Rattle.am_state.specs.{Obs}
use Rattle.am_state.specs.declared.obs.Obs.TheVariants.{Queued, Waits, Released, Delivered}
use Rattle.am_wire.specs.{Packet}
use Rattle.am_laws.specs.{queues, queues_as, waits, delivers, releases, closes, unqueues, packet_in, first_of, packet_of, dev_of, fs_of_token, IsOpen, IsLawfulAt, Has, HasNo, since, is_open, is_in_queue, is_let_go, all_released, is_in_row, WereLawful, AreSettled}
use Rattle.am_laws.proofs.Lists.{all_split, none_split, since-append, since_no, if_of, any_at}
use Rattle.am_laws.proofs.Words.{queues_is, queues_as_is, never_queued_test}

-- ---- a token that wasn't queued long ago

no_packet : (token : ℕ) (o : Obs) → queues token o ≡ false → packet_in token o ≡ None
no_packet token (Queued k a p) h = ap (λ (b : Bool). if b then Some p else None) h
no_packet token _ h = refl

pub packet_late : (token : ℕ) (old lately : List Obs) → HasNo (queues token) old → packet_of token (old ++ lately) ≡ packet_of token lately
packet_late token [] lately h = refl
packet_late token (o ∷ old) lately h =
    let no = neither_of_or (queues token o) (list_any (queues token) old) h in
    ap (λ (p : Option Packet). first_of p (packet_of token (old ++ lately))) (no_packet token o no.0) ∙ packet_late token old lately no.1

pub fs_late : (token : ℕ) (old lately : List Obs) → HasNo (queues token) old → fs_of_token token (old ++ lately) ≡ fs_of_token token lately
fs_late token old lately h = ap dev_of (packet_late token old lately h)

pub open_late : (token : ℕ) (old lately : List Obs) → HasNo (queues token) old → is_open token (old ++ lately) ≡ is_open token lately
open_late token old lately h =
    ap (λ (fs : Option ℕ). since (queues token) (closes token fs) false (old ++ lately)) (fs_late token old lately h)
    ∙ since-append (queues token) (closes token (fs_of_token token lately)) false old lately
    ∙ ap (λ (b : Bool). since (queues token) (closes token (fs_of_token token lately)) b lately) (since_no (queues token) (closes token (fs_of_token token lately)) old h)

pub never_open : (token : ℕ) (seen : List Obs) → HasNo (queues token) seen → is_open token seen ≡ false
never_open token seen h = since_no (queues token) (closes token (fs_of_token token seen)) seen h

queues_as_queues : (token attach : ℕ) (packet : Packet) (o : Obs) → queues_as token attach packet o ≡ true → queues token o ≡ true
queues_as_queues token attach packet o h = ap (queues token) (queues_as_is token attach packet o h) ∙ equal_to_itself token

pub not_queued_as : (token attach : ℕ) (packet : Packet) (seen : List Obs) → HasNo (queues token) seen → HasNo (queues_as token attach packet) seen
not_queued_as token attach packet seen h =
    none_split (queues_as token attach packet) seen (λ before o later e. false_unless_true _ (λ so.
    let has = subst (λ (s : List Obs). list_any (queues token) s ≡ true) (sym e) (any_at (queues token) before o later (queues_as_queues token attach packet o so)) in
    absurd cc))

pub in_queue_late : (token attach : ℕ) (packet : Packet) (old lately : List Obs) → HasNo (queues token) old → is_in_queue token attach packet (old ++ lately) ≡ is_in_queue token attach packet lately
in_queue_late token attach packet old lately h =
    since-append (queues_as token attach packet) (unqueues token packet.dev) false old lately
    ∙ ap (λ (b : Bool). since (queues_as token attach packet) (unqueues token packet.dev) b lately) (since_no (queues_as token attach packet) (unqueues token packet.dev) old (not_queued_as token attach packet old h))

-- ---- what comes only behind a token's Queued

pub open_queued : (seen : List Obs) (token : ℕ) → IsOpen seen token → Has (queues token) seen
open_queued seen token h = subst (λ (s : List Obs). list_any (queues token) s ≡ true) (sym h.queued) (any_at (queues token) h.before (Queued token h.attach h.packet) h.later (equal_to_itself token))

pub queued_in_part : (token : ℕ) (front rest : List Obs) → Has (queues token) front → Has (queues token) (front ++ rest)
queued_in_part token front rest h = list_any-append (queues token) front rest ∙ or_left _ (list_any (queues token) rest) h

-- the place of an observation, in a longer list
pub splits_longer : (seen rest before : List Obs) (o : Obs) (later : List Obs) → seen ≡ before ++ o ∷ later → seen ++ rest ≡ before ++ (o ∷ (later ++ rest))
splits_longer seen rest before o later e = ap (λ (s : List Obs). s ++ rest) e ∙ append_assoc before (o ∷ later) rest

-- an observation that comes only behind the token's Queued was not seen before it
pub none_old : (token : ℕ) (test : Obs → Bool) → ((before : List Obs) (o : Obs) (rest : List Obs) → IsLawfulAt before o rest → test o ≡ true → Has (queues token) before) → (old lately : List Obs) → WereLawful (old ++ lately) → HasNo (queues token) old → HasNo test old
none_old token test behind old lately were none =
    none_split test old (λ before o later e. false_unless_true (test o) (λ so.
    let at = were before o (later ++ lately) (splits_longer old lately before o later e) in
    let has = subst (λ (s : List Obs). list_any (queues token) s ≡ true) (sym e) (queued_in_part token before (o ∷ later) (behind before o at.0 at.1 so)) in
    absurd cc))

pub waits_behind : (walker token : ℕ) (before : List Obs) (o : Obs) (rest : List Obs) → IsLawfulAt before o rest → waits walker token o ≡ true → Has (queues token) before
waits_behind walker token before (Waits w k) rest at so =
    let same : k ≡ token = grind (arith, nat_tests, so) in
    subst (λ (x : ℕ). list_any (queues x) before ≡ true) same (open_queued before k at)
waits_behind walker token before _ rest at so = absurd cc

pub delivers_behind : (token : ℕ) (before : List Obs) (o : Obs) (rest : List Obs) → IsLawfulAt before o rest → delivers token o ≡ true → Has (queues token) before
delivers_behind token before (Delivered k a p) rest at so =
    let same : k ≡ token = grind (arith, nat_tests, so) in
    let q = at.0 in
    let has : list_any (queues k) before ≡ true = subst (λ (s : List Obs). list_any (queues k) s ≡ true) (sym q.queued) (any_at (queues k) q.before (Queued k a p) q.later (equal_to_itself k)) in
    subst (λ (x : ℕ). list_any (queues x) before ≡ true) same has
delivers_behind token before _ rest at so = absurd cc

pub releases_behind : (walker token : ℕ) (before : List Obs) (o : Obs) (rest : List Obs) → IsLawfulAt before o rest → releases walker token o ≡ true → Has (queues token) before
releases_behind walker token before (Released w k s) rest at so =
    let same : k ≡ token = grind (arith, nat_tests, so) in
    let row = at.in_row in
    let has : list_any (queues k) before ≡ true = subst (λ (x : List Obs). list_any (queues k) x ≡ true) (sym row.splits) (queued_in_part k row.before (row.cause ∷ row.row) (open_queued row.before k row.was_open)) in
    subst (λ (x : ℕ). list_any (queues x) before ≡ true) same has
releases_behind walker token before _ rest at so = absurd cc

let_go_behind : (token : ℕ) (row before : List Obs) (o : Obs) (rest : List Obs) → IsLawfulAt before o rest → HasNo (queues token) before → is_let_go token row o ≡ true
let_go_behind token row before (Waits w k) rest at none =
    if_of (k == token) (is_in_row (releases w token) row) (λ e.
    let same : k ≡ token = grind (arith, nat_tests, e) in
    let has = subst (λ (x : ℕ). list_any (queues x) before ≡ true) same (open_queued before k at) in
    absurd cc)
let_go_behind token row before _ rest at none = refl

not_queued_in_part : (token : ℕ) (front rest : List Obs) → HasNo (queues token) (front ++ rest) → HasNo (queues token) front
not_queued_in_part token front rest h = (neither_of_or _ _ (sym (list_any-append (queues token) front rest) ∙ h)).0

pub released_late : (token : ℕ) (row old lately : List Obs) → WereLawful (old ++ lately) → HasNo (queues token) old → all_released (old ++ lately) token row ≡ all_released lately token row
released_late token row old lately were none =
    list_all-append (is_let_go token row) old lately
    ∙ ap (λ (b : Bool). b && list_all (is_let_go token row) lately) (all_split (is_let_go token row) old (λ before o later e.
    let at = were before o (later ++ lately) (splits_longer old lately before o later e) in
    let_go_behind token row before o at.0 at.1 (not_queued_in_part token before (o ∷ later) (subst (λ (s : List Obs). list_any (queues token) s ≡ false) e none))))

-- any test that only finds what comes behind the token's Queued
pub any_late : (token : ℕ) (test : Obs → Bool) → ((before : List Obs) (o : Obs) (rest : List Obs) → IsLawfulAt before o rest → test o ≡ true → Has (queues token) before) → (old lately : List Obs) → WereLawful (old ++ lately) → HasNo (queues token) old → list_any test (old ++ lately) ≡ list_any test lately
any_late token test behind old lately were none =
    list_any-append test old lately ∙ ap (λ (b : Bool). b || list_any test lately) (none_old token test behind old lately were none)

-- ---- a token that was queued long ago

-- it isn't queued again
pub queued_once : (token : ℕ) (old lately : List Obs) → WereLawful (old ++ lately) → Has (queues token) old → HasNo (queues token) lately
queued_once token old lately were has =
    none_split (queues token) lately (λ before o later e. false_unless_true (queues token o) (λ so.
    let is = queues_is token o so in
    let here : old ++ lately ≡ (old ++ before) ++ (Queued token is.0 is.1 ∷ later) = ap (λ (s : List Obs). old ++ s) e ∙ ap (λ (x : Obs). old ++ (before ++ (x ∷ later))) is.2 ∙ sym (append_assoc old before (Queued token is.0 is.1 ∷ later)) in
    let at = were (old ++ before) (Queued token is.0 is.1) later here in
    let none = never_queued_test token (old ++ before) at.1 in
    let has_been = queued_in_part token old before has in
    absurd cc))

-- ---- what is open

open_by_cases : (token : ℕ) (old lately : List Obs) (b : Bool) → list_any (queues token) old ≡ b → WereLawful (old ++ lately) → AreSettled old (old ++ lately) → is_open token (old ++ lately) ≡ is_open token lately
open_by_cases token old lately true e were settled = settled token e ∙ sym (never_open token lately (queued_once token old lately were e))
open_by_cases token old lately false e were settled = open_late token old lately e

-- whether a token is open can be told from what was seen lately
pub open_same : (token : ℕ) (old lately : List Obs) → WereLawful (old ++ lately) → AreSettled old (old ++ lately) → is_open token (old ++ lately) ≡ is_open token lately
open_same token old lately were settled = open_by_cases token old lately (list_any (queues token) old) refl were settled
