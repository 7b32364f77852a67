-- A file system becomes catatonic: its open tokens close, and all their waiters are released.
use Rattle.std.proofs.Common.{◌≡◌, ℕ, ◌<◌, ◌≤◌, Bool, true, false, ◌==◌, List, [], ◌∷◌, ◌++◌, Option, Some, None, refl, sym, ap, ◌∙◌, arith, inr}
use Rattle.std.specs.Prelude.{filter, ◌&&◌, ◌||◌, not, if◌then◌else◌}
use Rattle.std.specs.Option.{option_map}
use Rattle.std.specs.List.{list_any, count_by}
use Rattle.std.proofs.lemmas.Bool.Decides.{nat_tests}
use Rattle.am_names.specs.declared.fail_no.FailNo.TheVariants.{ENOENT}
use Rattle.am_names.specs.{Status, OpenToken}
use Rattle.am_names.specs.declared.trigger.Status.TheVariants.{Fail}
use Rattle.am_names.proofs.Basics.{or_right, or_left, both_of_and, false_unless_true, equal_to_itself, equal_by_test}
use Rattle.am_wire.specs.{Packet}
use Rattle.am_state.specs.{QueuedRow, Obs}
use Rattle.am_state.specs.declared.obs.Obs.TheVariants as seen
use Rattle.am_wait.specs.{token_of, waiters_in, waiters_of, fs_released}
use Rattle.am_wait.proofs.FindLemmas.{unless_of, tokens_off}
use Rattle.am_wait.proofs.AgreeLemmas.{released_sound}
use Rattle.am_kernel.specs.{is_packet_of}
use Rattle.am_laws.specs.{is_fs, waits, delivers, queues, closes, queues_as, unqueues, enters, leaves, IsOpen, packet_of, fs_of_token, dev_of, AllReleased, IsLawfulAt, AreLawful, since, is_open}
use Rattle.am_laws.proofs.Words.{waits_true, waits_from_test, once_from_test}
use Rattle.am_laws.proofs.Decided.{is_open_true, open_from_test}
use Rattle.am_laws.proofs.Lists.{since-append}
use Rattle.am_machine.specs.{Rows, names, Asked, asked_in, asked_by, opened, has, WaitersFit, PacketFits, FitsTrace}
use Rattle.am_machine.proofs.Traces.Counts.{any_same, packet_same, is_open-append, opened_by_cases, packet_known, waiters_more}
use Rattle.am_machine.proofs.Traces.Unchanged.{delivered_more, inside_still, queue_kept}
use Rattle.am_machine.proofs.Traces.Join.{row_opened}
use Rattle.am_machine.proofs.Traces.Releases.{Waiter, row_of, is_waiter, AreNew, AllMayGo, released_in_row, row_lawful, row_releases}
use Rattle.am_machine.proofs.Traces.Closing.{is_its}

-- what is seen of it
abbrev pub quits : ℕ → List Waiter → List Obs
quits fs waiters = seen.Catatonic fs ∷ row_of (Fail ENOENT) waiters

-- these are the waiters of the open tokens of the file system, each once
pub record Quits (tokens : List OpenToken) (fs : ℕ) (waiters : List Waiter) : Type 0 where
  pub released : (w k : ℕ) → list_any (is_waiter w k) waiters ≡ (is_its fs (token_of tokens k) && has w (waiters_of tokens k))
  pub new : AreNew [] waiters

-- ---- the row of releases

row_names : (k : ℕ) (status : Status) (ws : List Waiter) → list_any (names k) (row_of status ws) ≡ list_any (λ (w : Waiter). w.token == k) ws
row_names k status [] = refl
row_names k status (w ∷ ws) = ap (λ (b : Bool). w.token == k || b) (row_names k status ws)

row_waits : (v k : ℕ) (status : Status) (ws : List Waiter) → list_any (waits v k) (row_of status ws) ≡ false
row_waits v k status [] = refl
row_waits v k status (w ∷ ws) = row_waits v k status ws

row_delivers : (k : ℕ) (status : Status) (ws : List Waiter) → list_any (delivers k) (row_of status ws) ≡ false
row_delivers k status [] = refl
row_delivers k status (w ∷ ws) = row_delivers k status ws

row_packet : (k : ℕ) (status : Status) (ws : List Waiter) → packet_of k (row_of status ws) ≡ None
row_packet k status [] = refl
row_packet k status (w ∷ ws) = row_packet k status ws

row_since : (k : ℕ) (fs : Option ℕ) (b : Bool) (status : Status) (ws : List Waiter) → since (queues k) (closes k fs) b (row_of status ws) ≡ b
row_since k fs b status [] = refl
row_since k fs b status (w ∷ ws) = row_since k fs b status ws

row_queued : (k attach : ℕ) (packet : Packet) (b : Bool) (status : Status) (ws : List Waiter) → since (queues_as k attach packet) (unqueues k packet.dev) b (row_of status ws) ≡ b
row_queued k attach packet b status [] = refl
row_queued k attach packet b status (w ∷ ws) = row_queued k attach packet b status ws

row_enters : (mount : ℕ) (status : Status) (ws : List Waiter) → count_by (enters mount) (row_of status ws) ≡ 0
row_enters mount status [] = refl
row_enters mount status (w ∷ ws) = row_enters mount status ws

row_leaves : (mount : ℕ) (status : Status) (ws : List Waiter) → count_by (leaves mount) (row_of status ws) ≡ 0
row_leaves mount status [] = refl
row_leaves mount status (w ∷ ws) = row_leaves mount status ws

-- ---- tokens

nat_both : (w : Waiter) → is_waiter w.walker w.token w ≡ true
nat_both w = rw (equal_to_itself w.walker, equal_to_itself w.token) refl

first_waiter : (k : ℕ) (w : Waiter) (ws : List Waiter) (b : Bool) → (w.token == k) ≡ b → (b || list_any (λ (r : Waiter). r.token == k) ws) ≡ true → (list_any (λ (r : Waiter). r.token == k) ws ≡ true → (v : ℕ) × (list_any (is_waiter v k) ws ≡ true)) → (v : ℕ) × (list_any (is_waiter v k) (w ∷ ws) ≡ true)
first_waiter k w ws true e is later = (w.walker, rw (equal_to_itself w.walker, e) refl)
first_waiter k w ws false e is later = let v = later is in (v.0, or_right (is_waiter v.0 k w) (list_any (is_waiter v.0 k) ws) v.1)

its_row : (fs : ℕ) (o : Option OpenToken) → is_its fs o ≡ true → (row : OpenToken) × (o ≡ Some row) × (row.trigger.fs ≡ fs)
its_row fs None is = absurd cc
its_row fs (Some row) is = (row, refl, equal_by_test row.trigger.fs fs is)

kept_row : (b : Bool) (old row : OpenToken) → (if b then None else Some old) ≡ Some row → (b ≡ false) × (old ≡ row)
kept_row true old row e = absurd cc
kept_row false old row e = (refl, cc)

same_fs : (a b : ℕ) → Some a ≡ Some b → (a == b) ≡ true
same_fs a b e = let same : a ≡ b = cc in rw same (equal_to_itself b)

none_open : (b : Bool) (p : Option Packet) (fs : ℕ) → b ≡ true → dev_of p ≡ Some fs → (if b then option_map asked_in p else None) ≡ None → ⊥
none_open true (Some packet) fs is dev none = absurd cc
none_open true None fs is dev none = absurd cc
none_open false p fs is dev none = absurd cc

-- some waiter of a token is a waiter by its own number too
some_waiter : (k : ℕ) (ws : List Waiter) → list_any (λ (w : Waiter). w.token == k) ws ≡ true → (v : ℕ) × (list_any (is_waiter v k) ws ≡ true)
some_waiter k [] is = absurd cc
some_waiter k (w ∷ ws) is = first_waiter k w ws (w.token == k) refl is (some_waiter k ws)

-- a token that closes isn't above the latest
its_known : (r : Rows) (trace : List Obs) (k fs : ℕ) → FitsTrace r trace → is_its fs (token_of r.waits.tokens k) ≡ true → k ≤ r.waits.last_token
its_known r trace k fs h is =
    let row = its_row fs (token_of r.waits.tokens k) is in
    let its = (row_opened r.waits.tokens trace k row.0 h.opens row.1).1 in
    packet_known r.waits.last_token k trace its.0 h.known its.1

not_named : (r : Rows) (trace : List Obs) (fs : ℕ) (ws : List Waiter) (k : ℕ) → Quits r.waits.tokens fs ws → FitsTrace r trace → r.waits.last_token < k → list_any (names k) (row_of (Fail ENOENT) ws) ≡ false
not_named r trace fs ws k q h above =
    row_names k (Fail ENOENT) ws ∙ false_unless_true (list_any (λ (w : Waiter). w.token == k) ws) (λ is.
    let v = some_waiter k ws is in
    let both = both_of_and (is_its fs (token_of r.waits.tokens k)) _ (sym (q.released v.0 k) ∙ v.1) in
    let most = its_known r trace k fs h both.0 in
    absurd (omega (arith, most, above)))

-- ---- what is open

abbrev asked_if : Bool → Option Packet → Option Asked
asked_if b packet = if b then option_map asked_in packet else None

if_if : (c was : Bool) (p : Option Packet) → asked_if (if c then false else was) p ≡ (if c then None else asked_if was p)
if_if true was p = refl
if_if false was p = refl

quits_opened : (k fs : ℕ) (ws : List Waiter) (trace : List Obs) → opened k (trace ++ quits fs ws) ≡ (if is_fs (fs_of_token k trace) fs then None else opened k trace)
quits_opened k fs ws trace =
    let same = packet_same k trace (quits fs ws) (row_packet k (Fail ENOENT) ws) in
    opened_by_cases k trace (trace ++ quits fs ws) (if is_fs (fs_of_token k trace) fs then false else is_open k trace)
    (is_open-append k trace (quits fs ws) ∙ row_since k _ _ (Fail ENOENT) ws ∙ ap (λ (p : Option Packet). if is_fs (dev_of p) fs then false else is_open k trace) same) same
    ∙ if_if (is_fs (fs_of_token k trace) fs) (is_open k trace) (packet_of k trace)

if_none : (b : Bool) (o : Option Asked) → o ≡ None → (if b then None else o) ≡ None
if_none true o e = refl
if_none false o e = e

mapped_if : (b : Bool) (row : OpenToken) → (if b then None else Some (asked_by row)) ≡ option_map asked_by (if b then None else Some row)
mapped_if true row = refl
mapped_if false row = refl

opens_by_cases : (r : Rows) (trace : List Obs) (k fs : ℕ) (found : Option OpenToken) → FitsTrace r trace → token_of r.waits.tokens k ≡ found →
    (if is_fs (fs_of_token k trace) fs then None else opened k trace) ≡ option_map asked_by (unless_of fs found)
opens_by_cases r trace k fs None h e = if_none (is_fs (fs_of_token k trace) fs) (opened k trace) (h.opens k ∙ ap (option_map asked_by) e)
opens_by_cases r trace k fs (Some row) h e =
    let its = (row_opened r.waits.tokens trace k row h.opens e).1 in
    let dev : fs_of_token k trace ≡ Some row.trigger.fs = ap dev_of its.1 ∙ ap (λ (a : Asked). Some a.trigger.fs) its.2 in
    let is : opened k trace ≡ Some (asked_by row) = h.opens k ∙ ap (option_map asked_by) e in
    ap (λ (o : Option ℕ). if is_fs o fs then None else opened k trace) dev ∙ ap (λ (o : Option Asked). if row.trigger.fs == fs then None else o) is ∙ mapped_if (row.trigger.fs == fs) row

-- ---- all clauses

waiters_by_cases : (r : Rows) (trace : List Obs) (fs : ℕ) (ws : List Waiter) (k : ℕ) (row : OpenToken) (found : Option OpenToken) → Quits r.waits.tokens fs ws → FitsTrace r trace → token_of r.waits.tokens k ≡ found → unless_of fs found ≡ Some row → WaitersFit (trace ++ quits fs ws) k row.waiters
waiters_by_cases r trace fs ws k row None q h is left = absurd cc
waiters_by_cases r trace fs ws k row (Some old) q h is left =
    let stays = kept_row (old.trigger.fs == fs) old row left in
    let fits = h.waiters k row (is ∙ ap (λ (r : OpenToken). Some r) stays.1) in
    let none : (v : ℕ) → list_any (is_waiter v k) ws ≡ false = λ v. q.released v k ∙ ap (λ (o : Option OpenToken). is_its fs o && has v (waiters_in o)) is ∙ ap (λ (b : Bool). b && has v old.waiters) stays.0 in
    waiters_more k trace (quits fs ws) row.waiters (λ v. row_waits v k (Fail ENOENT) ws) (λ v. row_releases v k (Fail ENOENT) ws ∙ none v) fits

-- a packet of another file system
packet_stays : (trace : List Obs) (fs : ℕ) (ws : List Waiter) (row : QueuedRow) → is_packet_of fs row ≡ false → PacketFits trace row → PacketFits (trace ++ quits fs ws) row
packet_stays trace fs ws row other h =
    let more = quits fs ws in
    let k = row.token in
    let not_its : (fs == row.packet.dev) ≡ false = grind (arith, nat_tests, other) in
    record {
      numbered = h.numbered;
      in_queue = since-append (queues_as k row.attach row.packet) (unqueues k row.packet.dev) false trace more ∙ row_queued k row.attach row.packet _ (Fail ENOENT) ws ∙ rw not_its h.in_queue;
      packet = packet_same k trace more (row_packet k (Fail ENOENT) ws) ∙ h.packet;
      undelivered = any_same (delivers k) trace more (row_delivers k (Fail ENOENT) ws) ∙ h.undelivered;
    }

pub catatonic_fits : (r : Rows) (trace : List Obs) (fs : ℕ) (ws : List Waiter) → Quits r.waits.tokens fs ws → FitsTrace r trace →
    FitsTrace (record r { waits = fs_released fs r.waits; queue = filter (λ row. not (is_packet_of fs row)) r.queue }) (trace ++ quits fs ws)
catatonic_fits r trace fs ws q h =
    let more = quits fs ws in
    let left : (k : ℕ) → token_of (fs_released fs r.waits).tokens k ≡ unless_of fs (token_of r.waits.tokens k) = λ k. tokens_off fs k 0 r.waits.tokens h.sound.tokens in
    record {
      sound = released_sound r.waits fs h.sound;
      single = h.single;
      known = λ k above. any_same (names k) trace more (not_named r trace fs ws k q h above) ∙ h.known k above;
      opens = λ k. quits_opened k fs ws trace ∙ opens_by_cases r trace k fs (token_of r.waits.tokens k) h refl ∙ ap (option_map asked_by) (sym (left k));
      waiters = λ k row e. waiters_by_cases r trace fs ws k row (token_of r.waits.tokens k) q h refl (sym (left k) ∙ e);
      inside = inside_still r.uses trace more (record { enters = λ m. row_enters m (Fail ENOENT) ws; leaves = λ m. row_leaves m (Fail ENOENT) ws }) h.inside;
      queued = queue_kept (PacketFits trace) (PacketFits (trace ++ more)) (is_packet_of fs) r.queue (packet_stays trace fs ws) h.queued;
      delivered = delivered_more r.jobs trace more h.delivered;
    }

-- ---- it is lawful

-- who waits on a token that closes may go
all_may_go : (r : Rows) (trace : List Obs) (fs : ℕ) (all ws : List Waiter) → Quits r.waits.tokens fs all → FitsTrace r trace → ((w k : ℕ) → list_any (is_waiter w k) ws ≡ true → list_any (is_waiter w k) all ≡ true) → AllMayGo trace (seen.Catatonic fs) (Fail ENOENT) ws
all_may_go r trace fs all [] q h sub = tt
all_may_go r trace fs all (w ∷ ws) q h sub =
    let in_all = sub w.walker w.token (or_left (is_waiter w.walker w.token w) (list_any (is_waiter w.walker w.token) ws) (nat_both w)) in
    let both = both_of_and (is_its fs (token_of r.waits.tokens w.token)) _ (sym (q.released w.walker w.token) ∙ in_all) in
    let row = its_row fs (token_of r.waits.tokens w.token) both.0 in
    let opened = row_opened r.waits.tokens trace w.token row.0 h.opens row.1 in
    let fits = h.waiters w.token row.0 row.1 in
    let dev : fs_of_token w.token trace ≡ Some fs = ap dev_of opened.1.1 ∙ ap (λ (a : Asked). Some a.trigger.fs) opened.1.2 ∙ ap (λ (n : ℕ). Some n) row.2 in
    let waited = fits.waited w.walker ∙ ap (λ (o : Option OpenToken). has w.walker (waiters_in o)) (sym row.1) ∙ both.1 in (
      record { closed = inr (fs, refl, dev, refl); was_open = open_from_test trace w.token opened.0; waited = waits_from_test w.walker w.token trace waited; not_yet = once_from_test w.walker w.token trace (fits.unreleased w.walker) },
      all_may_go r trace fs all ws q h (λ v k is. sub v k (or_right (is_waiter v k w) (list_any (is_waiter v k) ws) is)),
    )

every_released : (r : Rows) (trace : List Obs) (fs : ℕ) (ws : List Waiter) (k : ℕ) (found : Option OpenToken) → Quits r.waits.tokens fs ws → FitsTrace r trace → token_of r.waits.tokens k ≡ found → fs_of_token k trace ≡ Some fs → IsOpen trace k → AllReleased trace k (row_of (Fail ENOENT) ws)
every_released r trace fs ws k None q h e dev is = λ w waited.
    let open_test = is_open_true trace k is in
    let none : opened k trace ≡ None = h.opens k ∙ ap (option_map asked_by) e in
    absurd (none_open (is_open k trace) (packet_of k trace) fs open_test dev none)
every_released r trace fs ws k (Some row) q h e dev is = λ w waited.
    let opened = row_opened r.waits.tokens trace k row h.opens e in
    let own : fs_of_token k trace ≡ Some row.trigger.fs = ap dev_of opened.1.1 ∙ ap (λ (a : Asked). Some a.trigger.fs) opened.1.2 in
    let same : (row.trigger.fs == fs) ≡ true = same_fs row.trigger.fs fs (sym own ∙ dev) in
    let fits = h.waiters k row e in
    let has_it : has w row.waiters ≡ true = sym (fits.waited w) ∙ waits_true w k trace waited in
    released_in_row w k (Fail ENOENT) ws (q.released w k ∙ ap (λ (o : Option OpenToken). is_its fs o && has w (waiters_in o)) e ∙ ap (λ (b : Bool). b && has w row.waiters) same ∙ has_it)

pub catatonic_lawful : (r : Rows) (trace : List Obs) (fs : ℕ) (ws : List Waiter) → Quits r.waits.tokens fs ws → FitsTrace r trace → AreLawful trace (quits fs ws)
catatonic_lawful r trace fs ws q h =
    let here : IsLawfulAt trace (seen.Catatonic fs) (row_of (Fail ENOENT) ws) = (λ k dev is. every_released r trace fs ws k (token_of r.waits.tokens k) q h refl dev is) in
    (here, row_lawful trace (seen.Catatonic fs) (Fail ENOENT) [] ws (λ w k. refl) (all_may_go r trace fs ws ws q h (λ w k is. is)) q.new)
