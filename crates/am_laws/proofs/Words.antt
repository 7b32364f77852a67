-- The words of the laws, and the tests that decide them.
use Rattle.std.proofs.Common.{◌≡◌, ℕ, Bool, true, false, List, [], ◌∷◌, ◌++◌, Option, Some, None, refl, sym, ap, subst, ◌∙◌, inl, inr, arith}
use Rattle.std.specs.Prelude.{◌==◌, ◌&&◌, ◌||◌, pos, ◌-ℤ◌}
use Rattle.std.specs.List.{list_any, list_all, Contains}
use Rattle.std.proofs.lemmas.Bool.Decides.{nat_tests}
use Rattle.std.proofs.lemmas.Int.{ints}
use Rattle.std.proofs.lemmas.List.Elements.{Contains-push, Contains-append_right}
use Rattle.am_state.specs.{Obs}
use Rattle.am_state.specs.declared.obs.Obs.TheVariants.{Queued, Waits, Answered, Catatonic, Released, Delivered}
use Rattle.am_wire.specs.{Packet}
use Rattle.am_names.specs.{fail_number, Status}
use Rattle.am_names.specs.declared.fail_no.FailNo.{FailNo}
use Rattle.am_names.specs.declared.fail_no.FailNo.TheVariants.{ENOENT}
use Rattle.am_names.proofs.FailNumbers.{fail_is}
use Rattle.am_names.specs.declared.trigger.Status.TheVariants.{Ready, Fail}
use Rattle.am_names.proofs.Basics.{both_of_and, and_of_both, equal_to_itself}
use Rattle.am_laws.specs.{queues, queues_as, closes, closes_as, unqueues, waits, delivers, releases, is_released, is_same_packet, is_same_status, is_no_entry_fail, is_fs, fs_of_token, IsOpen, IsQueued, IsInRow, Closes, HasSince, is_in_row}
use Rattle.am_laws.proofs.Packets.{packet_is, packet_same}
use Rattle.am_laws.proofs.Lists.{any_some, any_in, any_none, none_in}

-- one observation

pub waits_is : (walker token : ℕ) (o : Obs) → waits walker token o ≡ true → o ≡ Waits walker token
waits_is walker token (Waits w k) h = grind (arith, nat_tests, h)
waits_is walker token _ h = absurd cc

pub queues_is : (token : ℕ) (o : Obs) → queues token o ≡ true → (attach : ℕ) × (packet : Packet) × (o ≡ Queued token attach packet)
queues_is token (Queued k attach packet) h = (attach, packet, grind (arith, nat_tests, h))
queues_is token _ h = absurd cc

pub releases_is : (walker token : ℕ) (o : Obs) → releases walker token o ≡ true → (status : Status) × (o ≡ Released walker token status)
releases_is walker token (Released w k status) h = (status, grind (arith, nat_tests, h))
releases_is walker token _ h = absurd cc

status_is : (a b : Status) → is_same_status a b ≡ true → a ≡ b
status_is Ready Ready h = refl
status_is (Fail a) (Fail b) h =
    let same : fail_number a ≡ fail_number b = grind (arith, nat_tests, h) in
    ap (λ (error : FailNo). Fail error) (fail_is a b same)
status_is _ _ h = absurd cc

status_same : (a : Status) → is_same_status a a ≡ true
status_same Ready = refl
status_same (Fail a) = equal_to_itself (fail_number a)

no_entry_is : (a : Status) → is_no_entry_fail a ≡ true → a ≡ Fail ENOENT
no_entry_is (Fail ENOENT) h = refl
no_entry_is _ h = absurd cc

pub is_fs_true : (fs : ℕ) (known : Option ℕ) → known ≡ Some fs → is_fs known fs ≡ true
is_fs_true fs None e = absurd cc
is_fs_true fs (Some other) e = let same : other ≡ fs = cc in grind (arith, nat_tests, same)

pub fs_from_test : (fs : ℕ) (known : Option ℕ) → is_fs known fs ≡ true → known ≡ Some fs
fs_from_test fs None h = absurd cc
fs_from_test fs (Some other) h = let same : other ≡ fs = grind (arith, nat_tests, h) in ap (λ (x : ℕ). Some x) same

pub delivers_is : (token : ℕ) (o : Obs) → delivers token o ≡ true → (attach : ℕ) × (packet : Packet) × (o ≡ Delivered token attach packet)
delivers_is token (Delivered k attach packet) h = (attach, packet, grind (arith, nat_tests, h))
delivers_is token _ h = absurd cc

pub queues_as_is : (token attach : ℕ) (packet : Packet) (o : Obs) → queues_as token attach packet o ≡ true → o ≡ Queued token attach packet
queues_as_is token attach packet (Queued k a p) h =
    let both = both_of_and (k == token && a == attach) (is_same_packet p packet) h in
    let two = both_of_and (k == token) (a == attach) both.0 in
    let t : k ≡ token = grind (arith, nat_tests, two.0) in
    let n : a ≡ attach = grind (arith, nat_tests, two.1) in
    let same : p ≡ packet = packet_is p packet both.1 in
    cc
queues_as_is token attach packet _ h = absurd cc

pub queues_as_same : (token attach : ℕ) (packet : Packet) → queues_as token attach packet (Queued token attach packet) ≡ true
queues_as_same token attach packet = and_of_both _ _ (grind (arith, nat_tests)) (packet_same packet)

-- lists

pub waits_true : (walker token : ℕ) (seen : List Obs) → Contains seen (Waits walker token) → list_any (waits walker token) seen ≡ true
waits_true walker token seen c = any_in (waits walker token) seen (Waits walker token) c (and_of_both _ _ (equal_to_itself walker) (equal_to_itself token))

pub waits_from_test : (walker token : ℕ) (seen : List Obs) → list_any (waits walker token) seen ≡ true → Contains seen (Waits walker token)
waits_from_test walker token seen h =
    let x = any_some (waits walker token) seen h in
    subst (λ (o : Obs). Contains seen o) (waits_is walker token x.0 x.2) x.1

pub never_queued_test : (token : ℕ) (seen : List Obs) → ((a : ℕ) (p : Packet) → ¬ Contains seen (Queued token a p)) → list_any (queues token) seen ≡ false
never_queued_test token seen h = any_none (queues token) seen (λ o t c. let is = queues_is token o t in h is.0 is.1 (subst (λ (x : Obs). Contains seen x) is.2 c))

pub never_queued_from_test : (token : ℕ) (seen : List Obs) → list_any (queues token) seen ≡ false → (a : ℕ) (p : Packet) → ¬ Contains seen (Queued token a p)
never_queued_from_test token seen h = λ a p. none_in (queues token) seen h (Queued token a p) (equal_to_itself token)

pub never_delivered_test : (token : ℕ) (seen : List Obs) → ((a : ℕ) (p : Packet) → ¬ Contains seen (Delivered token a p)) → list_any (delivers token) seen ≡ false
never_delivered_test token seen h = any_none (delivers token) seen (λ o t c. let is = delivers_is token o t in h is.0 is.1 (subst (λ (x : Obs). Contains seen x) is.2 c))

pub never_delivered_from_test : (token : ℕ) (seen : List Obs) → list_any (delivers token) seen ≡ false → (a : ℕ) (p : Packet) → ¬ Contains seen (Delivered token a p)
never_delivered_from_test token seen h = λ a p. none_in (delivers token) seen h (Delivered token a p) (equal_to_itself token)

pub delivered_test : (token : ℕ) (seen : List Obs) → ((a : ℕ) × (p : Packet) × Contains seen (Delivered token a p)) → list_any (delivers token) seen ≡ true
delivered_test token seen h = any_in (delivers token) seen (Delivered token h.0 h.1) h.2 (equal_to_itself token)

pub delivered_from_test : (token : ℕ) (seen : List Obs) → list_any (delivers token) seen ≡ true → (a : ℕ) × (p : Packet) × Contains seen (Delivered token a p)
delivered_from_test token seen h =
    let x = any_some (delivers token) seen h in
    let is = delivers_is token x.0 x.2 in
    (is.0, is.1, subst (λ (o : Obs). Contains seen o) is.2 x.1)

pub once_test : (walker token : ℕ) (seen : List Obs) → ((s : Status) → ¬ Contains seen (Released walker token s)) → list_any (releases walker token) seen ≡ false
once_test walker token seen h = any_none (releases walker token) seen (λ o t c. let is = releases_is walker token o t in h is.0 (subst (λ (x : Obs). Contains seen x) is.1 c))

pub once_from_test : (walker token : ℕ) (seen : List Obs) → list_any (releases walker token) seen ≡ false → (s : Status) → ¬ Contains seen (Released walker token s)
once_from_test walker token seen h = λ s. none_in (releases walker token) seen h (Released walker token s) (and_of_both _ _ (equal_to_itself walker) (equal_to_itself token))

-- open

no_close : (token : ℕ) (fs : Option ℕ) (later : List Obs) → ((status : Status) → ¬ Contains later (Answered token status)) → ((f : ℕ) → fs ≡ Some f → ¬ Contains later (Catatonic f)) → (o : Obs) → closes token fs o ≡ true → ¬ Contains later o
no_close token fs later u n (Answered k status) h = let same : k ≡ token = grind (arith, nat_tests, h) in subst (λ (x : ℕ). ¬ Contains later (Answered x status)) (sym same) (u status)
no_close token fs later u n (Catatonic f) h = n f (fs_from_test f fs h)
no_close token fs later u n _ h = absurd cc

pub since_from_open : (seen : List Obs) (token : ℕ) → IsOpen seen token → HasSince (queues token) (closes token (fs_of_token token seen)) seen
since_from_open seen token h = record {
  before = h.before;
  this = Queued token h.attach h.packet;
  later = h.later;
  splits = h.queued;
  is_one = equal_to_itself token;
  none_later = any_none (closes token (fs_of_token token seen)) h.later (no_close token (fs_of_token token seen) h.later h.unanswered h.not_catatonic);
}

pub open_from_since : (seen : List Obs) (token : ℕ) → HasSince (queues token) (closes token (fs_of_token token seen)) seen → IsOpen seen token
open_from_since seen token h =
    let is = queues_is token h.this h.is_one in
    record {
      before = h.before;
      attach = is.0;
      packet = is.1;
      later = h.later;
      queued = h.splits ∙ ap (λ (o : Obs). h.before ++ o ∷ h.later) is.2;
      unanswered = λ status. none_in (closes token (fs_of_token token seen)) h.later h.none_later (Answered token status) (equal_to_itself token);
      not_catatonic = λ fs e. none_in (closes token (fs_of_token token seen)) h.later h.none_later (Catatonic fs) (is_fs_true fs (fs_of_token token seen) e);
    }

no_unqueue : (token fs : ℕ) (later : List Obs) → ((a : ℕ) (p : Packet) → ¬ Contains later (Delivered token a p)) → (¬ Contains later (Catatonic fs)) → (o : Obs) → unqueues token fs o ≡ true → ¬ Contains later o
no_unqueue token fs later u n (Delivered k a p) h = let same : k ≡ token = grind (arith, nat_tests, h) in subst (λ (x : ℕ). ¬ Contains later (Delivered x a p)) (sym same) (u a p)
no_unqueue token fs later u n (Catatonic f) h = let same : f ≡ fs = grind (arith, nat_tests, h) in subst (λ (x : ℕ). ¬ Contains later (Catatonic x)) (sym same) n
no_unqueue token fs later u n _ h = absurd cc

pub since_from_queued : (seen : List Obs) (token attach : ℕ) (packet : Packet) → IsQueued seen token attach packet → HasSince (queues_as token attach packet) (unqueues token packet.dev) seen
since_from_queued seen token attach packet h = record {
  before = h.before;
  this = Queued token attach packet;
  later = h.later;
  splits = h.queued;
  is_one = queues_as_same token attach packet;
  none_later = any_none (unqueues token packet.dev) h.later (no_unqueue token packet.dev h.later h.undelivered h.not_catatonic);
}

pub queued_from_since : (seen : List Obs) (token attach : ℕ) (packet : Packet) → HasSince (queues_as token attach packet) (unqueues token packet.dev) seen → IsQueued seen token attach packet
queued_from_since seen token attach packet h = record {
  before = h.before;
  later = h.later;
  queued = h.splits ∙ ap (λ (o : Obs). h.before ++ o ∷ h.later) (queues_as_is token attach packet h.this h.is_one);
  undelivered = λ a p. none_in (unqueues token packet.dev) h.later h.none_later (Delivered token a p) (equal_to_itself token);
  not_catatonic = none_in (unqueues token packet.dev) h.later h.none_later (Catatonic packet.dev) (equal_to_itself packet.dev);
}

-- closing

pub closes_true : (before : List Obs) (token : ℕ) (status : Status) (cause : Obs) → Closes before token status cause → closes_as token (fs_of_token token before) status cause ≡ true
closes_true before token status cause (inl e) = subst (λ (o : Obs). closes_as token (fs_of_token token before) status o ≡ true) (sym e) (and_of_both _ _ (equal_to_itself token) (status_same status))
closes_true before token status cause (inr h) =
    subst (λ (o : Obs). closes_as token (fs_of_token token before) status o ≡ true) (sym h.1) (and_of_both _ _ (is_fs_true h.0 (fs_of_token token before) h.2) (ap is_no_entry_fail h.3))

pub closes_from_test : (before : List Obs) (token : ℕ) (status : Status) (cause : Obs) → closes_as token (fs_of_token token before) status cause ≡ true → Closes before token status cause
closes_from_test before token status (Answered k s) h =
    let both = both_of_and (k == token) (is_same_status s status) h in
    let t : k ≡ token = grind (arith, nat_tests, both.0) in
    let same : s ≡ status = status_is s status both.1 in
    inl cc
closes_from_test before token status (Catatonic f) h =
    let both = both_of_and (is_fs (fs_of_token token before) f) (is_no_entry_fail status) h in
    inr (f, refl, fs_from_test f (fs_of_token token before) both.0, no_entry_is status both.1)
closes_from_test before token status _ h = absurd cc

-- rows

row_first : (b c d : Bool) → (b || c) ≡ true → (c ≡ true → d ≡ true) → (b || d) ≡ true
row_first true c d h later = refl
row_first false c d h later = later h

row_found : (test : Obs → Bool) (row others : List Obs) → list_all is_released row ≡ true → list_any test row ≡ true → is_in_row test (row ++ others) ≡ true
row_found test [] others a h = absurd cc
row_found test (o ∷ row) others a h =
    let both = both_of_and (is_released o) (list_all is_released row) a in
    and_of_both (is_released o) _ both.0 (row_first (test o) (list_any test row) (is_in_row test (row ++ others)) h (row_found test row others both.1))

pub in_row_true : (walker token : ℕ) (rest : List Obs) → IsInRow walker token rest → is_in_row (releases walker token) rest ≡ true
in_row_true walker token rest h =
    subst (λ (r : List Obs). is_in_row (releases walker token) r ≡ true) (sym h.splits) (row_found (releases walker token) h.row h.others h.unbroken (any_in (releases walker token) h.row (Released walker token h.status) h.is_in (and_of_both _ _ (equal_to_itself walker) (equal_to_itself token))))

in_row_later : (walker token : ℕ) (o : Obs) (rest : List Obs) → is_released o ≡ true → IsInRow walker token rest → IsInRow walker token (o ∷ rest)
in_row_later walker token o rest r h = record {
  row = o ∷ h.row;
  others = h.others;
  splits = ap (λ (xs : List Obs). o ∷ xs) h.splits;
  unbroken = and_of_both (is_released o) _ r h.unbroken;
  status = h.status;
  is_in = Contains-append_right (o ∷ []) h.row (Released walker token h.status) h.is_in;
}

in_row_here : (walker token : ℕ) (o : Obs) (rest : List Obs) (b : Bool) → releases walker token o ≡ b → is_released o ≡ true → (is_in_row (releases walker token) rest ≡ true → IsInRow walker token rest) → (b || is_in_row (releases walker token) rest) ≡ true → IsInRow walker token (o ∷ rest)
in_row_here walker token o rest true e r later h =
    let is = releases_is walker token o e in
    record { row = o ∷ []; others = rest; splits = refl; unbroken = and_of_both (is_released o) _ r refl; status = is.0; is_in = subst (λ (x : Obs). Contains (o ∷ []) x) is.1 (Contains-push [] o) }
in_row_here walker token o rest false e r later h = in_row_later walker token o rest r (later h)

pub in_row_from_test : (walker token : ℕ) (rest : List Obs) → is_in_row (releases walker token) rest ≡ true → IsInRow walker token rest
in_row_from_test walker token [] h = absurd cc
in_row_from_test walker token (o ∷ rest) h =
    let both = both_of_and (is_released o) (releases walker token o || is_in_row (releases walker token) rest) h in
    in_row_here walker token o rest (releases walker token o) refl both.0 (in_row_from_test walker token rest) both.1

-- uses

pub uses_zero : (a b : ℕ) → pos a -ℤ pos b ≡ pos 0 → a ≡ b
uses_zero a b h = omega (arith, ints)

pub zero_uses : (a b : ℕ) → a ≡ b → pos a -ℤ pos b ≡ pos 0
zero_uses a b h = omega (arith, ints)
