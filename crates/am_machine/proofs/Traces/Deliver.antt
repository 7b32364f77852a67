-- The daemon takes a queued packet from the pipe, and begins its job; and jobs that go on or end.
use Rattle.std.proofs.Common.{◌≡◌, ℕ, ◌≤◌, Bool, true, false, cond, ◌==◌, List, [], ◌∷◌, ◌++◌, Option, Some, None, refl, sym, ap, ◌∙◌, subst, arith}
use Rattle.std.specs.Prelude.{filter, is_some, ◌||◌, not, if◌then◌else◌}
use Rattle.std.specs.Option.{option_or}
use Rattle.std.specs.List.{list_any}
use Rattle.std.proofs.lemmas.Bool.Decides.{nat_tests}
use Rattle.std.proofs.lemmas.List.Folds.{find-append, list_any-append}
use Rattle.std.proofs.lemmas.List.Elements.{All-head, All-tail}
use Rattle.am_names.specs.{OpenToken}
use Rattle.am_wire.specs.{Packet}
use Rattle.am_state.specs.{QueuedRow, Obs}
use Rattle.am_state.specs.declared.obs.Obs.TheVariants as seen
use Rattle.am_kernel.specs.{queued_of}
use Rattle.am_job.specs.{Outcome}
use Rattle.am_daemon.specs.{JobPlan, job_of, walked, is_ended, going, finished_in}
use Rattle.am_laws.specs.{delivers, queues_as, unqueues, is_open}
use Rattle.am_laws.proofs.Lists.{since-append}
use Rattle.am_machine.specs.{Rows, names, KnowsTokens, opened, AgreeOnWaiters, PacketFits, AgreeOnQueue, AgreeOnJobs, FitsTrace}
use Rattle.am_machine.proofs.Traces.Counts.{any_same, any_stays, packet_same, is_open-append, opened_by_cases, packet_known, waiters_more}
use Rattle.am_machine.proofs.Traces.Unchanged.{inside_still, queue_kept}

delivered_known : (last token attach : ℕ) (packet : Packet) (trace : List Obs) → token ≤ last → KnowsTokens last trace → KnowsTokens last (trace ++ seen.Delivered token attach packet ∷ [])
delivered_known last token attach packet trace most h = λ k above.
    let other : (token == k) ≡ false = grind (arith, nat_tests, most, above) in
    any_same (names k) trace (seen.Delivered token attach packet ∷ []) (rw other refl) ∙ h k above

delivered_opened : (k token attach : ℕ) (packet : Packet) (trace : List Obs) → opened k (trace ++ seen.Delivered token attach packet ∷ []) ≡ opened k trace
delivered_opened k token attach packet trace =
    opened_by_cases k trace (trace ++ seen.Delivered token attach packet ∷ []) (is_open k trace) (is_open-append k trace (seen.Delivered token attach packet ∷ [])) (packet_same k trace (seen.Delivered token attach packet ∷ []) refl)

delivered_waiters : (token attach : ℕ) (packet : Packet) (tokens : List OpenToken) (trace : List Obs) → AgreeOnWaiters tokens trace → AgreeOnWaiters tokens (trace ++ seen.Delivered token attach packet ∷ [])
delivered_waiters token attach packet tokens trace h = λ k row e.
    waiters_more k trace (seen.Delivered token attach packet ∷ []) row.waiters (λ v. refl) (λ v. refl) (h k row e)

-- ---- the queue

found_by_cases : (trace : List Obs) (first row : QueuedRow) (queue : List QueuedRow) (token : ℕ) (b : Bool) → PacketFits trace first → (queued_of queue token ≡ Some row → PacketFits trace row) → cond b (Some first) (queued_of queue token) ≡ Some row → PacketFits trace row
found_by_cases trace first row queue token true h later e = let same : first ≡ row = cc in subst (PacketFits trace) same h
found_by_cases trace first row queue token false h later e = later e

-- a packet that is found in the queue
pub found_fits : (trace : List Obs) (queue : List QueuedRow) (token : ℕ) (row : QueuedRow) → AgreeOnQueue queue trace → queued_of queue token ≡ Some row → PacketFits trace row
found_fits trace [] token row h e = absurd cc
found_fits trace (first ∷ queue) token row h e =
    found_by_cases trace first row queue token (first.token == token) (All-head (PacketFits trace) first queue h) (found_fits trace queue token row (All-tail (PacketFits trace) first queue h)) e

other_packet : (token attach : ℕ) (packet : Packet) (trace : List Obs) (row : QueuedRow) → (row.token == token) ≡ false → PacketFits trace row → PacketFits (trace ++ seen.Delivered token attach packet ∷ []) row
other_packet token attach packet trace row other h =
    let more = seen.Delivered token attach packet ∷ [] in
    let e : (token == row.token) ≡ false = grind (arith, nat_tests, other) in
    record {
      numbered = h.numbered;
      in_queue = since-append (queues_as row.token row.attach row.packet) (unqueues row.token row.packet.dev) false trace more ∙ rw e h.in_queue;
      packet = packet_same row.token trace more refl ∙ h.packet;
      undelivered = any_same (delivers row.token) trace more (rw e refl) ∙ h.undelivered;
    }

-- ---- jobs

or_last : (a b : Bool) → b ≡ true → (a || (b || false)) ≡ true
or_last true b e = refl
or_last false b e = rw e refl

jobs_by_cases : (job : JobPlan) (k attach : ℕ) (packet : Packet) (trace : List Obs) (old : Option JobPlan) (b : Bool) → (job.token == k) ≡ b → (is_some old ≡ true → list_any (delivers k) trace ≡ true) →
    is_some (option_or old (cond b (Some job) None)) ≡ true → list_any (delivers k) (trace ++ seen.Delivered job.token attach packet ∷ []) ≡ true
jobs_by_cases job k attach packet trace (Some old) b e h is = any_stays (delivers k) trace (seen.Delivered job.token attach packet ∷ []) (h refl)
jobs_by_cases job k attach packet trace None true e h is = list_any-append (delivers k) trace (seen.Delivered job.token attach packet ∷ []) ∙ or_last (list_any (delivers k) trace) (job.token == k) e
jobs_by_cases job k attach packet trace None false e h is = absurd cc

delivered_jobs : (job : JobPlan) (attach : ℕ) (packet : Packet) (jobs : List JobPlan) (trace : List Obs) → AgreeOnJobs jobs trace → AgreeOnJobs (jobs ++ job ∷ []) (trace ++ seen.Delivered job.token attach packet ∷ [])
delivered_jobs job attach packet jobs trace h = λ k is.
    jobs_by_cases job k attach packet trace (job_of jobs k) (job.token == k) refl (h k) (ap is_some (sym (find-append (λ (r : JobPlan). r.token == k) jobs (job ∷ []))) ∙ is)

-- ---- all clauses

-- the packet of a queued row is delivered, and a job of its number begins
pub deliver_fits : (r : Rows) (trace : List Obs) (row : QueuedRow) (job : JobPlan) → job.token ≡ row.token → PacketFits trace row → FitsTrace r trace →
    FitsTrace (record r { queue = filter (λ (other : QueuedRow). not (other.token == row.token)) r.queue; jobs = r.jobs ++ job ∷ [] }) (trace ++ seen.Delivered row.token row.attach row.packet ∷ [])
deliver_fits r trace row job its fits h =
    let token = row.token in
    let more = seen.Delivered token row.attach row.packet ∷ [] in
    let most = packet_known r.waits.last_token token trace row.packet h.known fits.packet in
    record {
      sound = h.sound;
      single = h.single;
      known = delivered_known r.waits.last_token token row.attach row.packet trace most h.known;
      opens = λ k. delivered_opened k token row.attach row.packet trace ∙ h.opens k;
      waiters = delivered_waiters token row.attach row.packet r.waits.tokens trace h.waiters;
      inside = inside_still r.uses trace more (record { enters = λ m. refl; leaves = λ m. refl }) h.inside;
      queued = queue_kept (PacketFits trace) (PacketFits (trace ++ more)) (λ (other : QueuedRow). other.token == token) r.queue (other_packet token row.attach row.packet trace) h.queued;
      delivered = subst (λ (n : ℕ). AgreeOnJobs (r.jobs ++ job ∷ []) (trace ++ seen.Delivered n row.attach row.packet ∷ [])) its (delivered_jobs job row.attach row.packet r.jobs trace h.delivered);
    }

-- ---- jobs that go on

or_some : (b : Bool) (row : JobPlan) (o : Option JobPlan) → is_some o ≡ true → is_some (cond b (Some row) o) ≡ true
or_some true row o is = refl
or_some false row o is = is

going_by_cases : (outcome : Outcome) (row : JobPlan) (o : Option JobPlan) (b : Bool) → is_some (cond b (Some (walked outcome row)) o) ≡ true → is_some (cond b (Some row) o) ≡ true
going_by_cases outcome row o true is = refl
going_by_cases outcome row o false is = is

going_some : (ended : Bool) (outcome : Outcome) (row : JobPlan) (jobs : List JobPlan) (k : ℕ) → is_some (job_of (if ended then jobs else walked outcome row ∷ jobs) k) ≡ true → is_some (job_of (row ∷ jobs) k) ≡ true
going_some true outcome row jobs k is = or_some (row.token == k) row (job_of jobs k) is
going_some false outcome row jobs k is = going_by_cases outcome row (job_of jobs k) (row.token == k) is

behind : (b : Bool) (row : JobPlan) (o p : Option JobPlan) → (is_some o ≡ true → is_some p ≡ true) → is_some (cond b (Some row) o) ≡ true → is_some (cond b (Some row) p) ≡ true
behind true row o p h is = refl
behind false row o p h is = h is

finished_by_cases : (job : ℕ) (outcome : Outcome) (row : JobPlan) (jobs : List JobPlan) (k : ℕ) (b : Bool) → (is_some (job_of (finished_in job outcome jobs) k) ≡ true → is_some (job_of jobs k) ≡ true) →
    is_some (job_of (if b then going (walked outcome row) jobs else row ∷ finished_in job outcome jobs) k) ≡ true → is_some (job_of (row ∷ jobs) k) ≡ true
finished_by_cases job outcome row jobs k true later is = going_some (is_ended (walked outcome row)) outcome row jobs k is
finished_by_cases job outcome row jobs k false later is = behind (row.token == k) row (job_of (finished_in job outcome jobs) k) (job_of jobs k) later is

finished_some : (job : ℕ) (outcome : Outcome) (jobs : List JobPlan) (k : ℕ) → is_some (job_of (finished_in job outcome jobs) k) ≡ true → is_some (job_of jobs k) ≡ true
finished_some job outcome [] k is = is
finished_some job outcome (row ∷ jobs) k is = finished_by_cases job outcome row jobs k (row.token == job) (finished_some job outcome jobs k) is

-- no job is new
pub finish_fits : (r : Rows) (trace : List Obs) (job : ℕ) (outcome : Outcome) → FitsTrace r trace → FitsTrace (record r { jobs = finished_in job outcome r.jobs }) trace
finish_fits r trace job outcome h = record {
  sound = h.sound;
  single = h.single;
  known = h.known;
  opens = h.opens;
  waiters = h.waiters;
  inside = h.inside;
  queued = h.queued;
  delivered = λ k is. h.delivered k (finished_some job outcome r.jobs k is);
}
