-- The daemon is free for each packet that is in a pipe, and knows what it is asked about.
use Rattle.std.proofs.Common.{◌≡◌, ℕ, Bool, true, false, List, Option, Some, None, refl, sym, ap, subst, ◌∙◌}
use Rattle.std.specs.Prelude.{◌==◌, ◌||◌, ◌&&◌, not, is_some, find, if◌then◌else◌}
use Rattle.std.specs.Option.{option_map}
use Rattle.am_names.specs.declared.errno.Errno.{Errno}
use Rattle.am_names.specs.declared.errno.Errno.TheVariants.{ENOENT, EBUSY, EINVAL}
use Rattle.am_names.specs.{same_trigger, WaitRow}
use Rattle.am_names.specs.declared.trigger.Trigger.{Trigger}
use Rattle.am_trigger.specs.{Autofs, autofs_of}
use Rattle.am_names.specs.declared.row.TokenKind.TheVariants.{Missing}
use Rattle.am_wait.specs.{wait_of}
use Rattle.am_state.specs.{Record, QueuedRow}
use Rattle.am_state.specs.declared.daemon_row.Record.TheVariants.{Mounting, Mounted, Unmounting}
use Rattle.am_job.specs.{record_of}
use Rattle.am_names.proofs.SameTriggers.{same_trigger_itself}
use Rattle.am_names.proofs.Basics.{equal_to_itself, true_where_not_false}
use Rattle.am_kernel.specs.{KernelState, Attached, WalkRow, is_live, is_live_row, attach_of, latest_attach, attach_refusal, or_else, pipe_refusal, walk_in, queued_of}
use Rattle.am_daemon.specs.declared.fault.DaemonFault.TheVariants.{UnknownFs, OldAttach, Busy}
use Rattle.am_daemon.specs.{DaemonState, knows, holds, reattach_refusal, job_of, is_busy, delivery_fault, trigger_of, is_pending}
use Rattle.am_machine.specs.State.{State}
use Rattle.am_machine.specs.{has_bytes, was_attached, HasWalk, WalksFit, IsInPipe, TokensAgree, IsServed, is_pending_for, BookAgrees, AreOfTheirTokens, FailuresAgree, IsConsistent, AreInStep, RefusesInStep}
use Rattle.am_machine.proofs.Lists.Different.{all_found, true_is_not_false}
use Rattle.am_machine.proofs.Attachments.Known.{any_found, autofs_is, held_is}
use Rattle.am_machine.proofs.Tests.{test_passed}
use Rattle.am_machine.proofs.Tokens.Catatonic.{dev_of}
use Rattle.am_machine.proofs.Tokens.Names.{reads}
use Rattle.am_machine.proofs.Books.Jobs.{holds_one}
use Rattle.am_machine.proofs.Agreement.Tokens.{token_named, in_pipe, pending_here}

-- a packet for which the daemon is busy is of an attachment that it holds
busy_by_cases : (known held busy : Bool) → (if not known then Some UnknownFs else if not held then Some OldAttach else if busy then Some Busy else None) ≡ Some Busy → (held ≡ true) × (busy ≡ true)
busy_by_cases true true true h = (refl, refl)
busy_by_cases true true false h = absurd cc
busy_by_cases true false busy h = absurd cc
busy_by_cases false held busy h = absurd cc

-- a pending record is pending for a token
record IsFor (o : Option Record) : Type 0 where
  entry : Record
  is : o ≡ Some entry
  token : ℕ
  pending : is_pending_for token (Some entry) ≡ true

for_token : (o : Option Record) → is_pending o ≡ true → IsFor o
for_token None h = absurd cc
for_token (Some (Mounting token)) h = record { entry = Mounting token; is = refl; token = token; pending = equal_to_itself token }
for_token (Some (Mounted mount)) h = absurd cc
for_token (Some (Unmounting token mount)) h = record { entry = Unmounting token mount; is = refl; token = token; pending = equal_to_itself token }

same_itself : (a b : Trigger) → a ≡ b → same_trigger a b ≡ true
same_itself a b e = subst (λ (g : Trigger). same_trigger a g ≡ true) e (same_trigger_itself a)

either_busy : (a b : Bool) → (a || b) ≡ true → (a ≡ true → ⊥) → (b ≡ true → ⊥) → ⊥
either_busy true b h first second = first refl
either_busy false b h first second = second h

module _ (k : KernelState) (d : DaemonState) (tokens : TokensAgree k d.jobs) (book : BookAgrees k d) (records : AreOfTheirTokens k.waits d.book) (named : WalksFit k) where
  -- no job has the packet's token
  no_job : (row : QueuedRow) → IsInPipe k d.jobs row → is_some (job_of d.jobs row.packet.token) ≡ true → ⊥
  no_job row p h = true_is_not_false (is_some (job_of d.jobs row.packet.token)) h (ap is_some (ap (job_of d.jobs) p.numbered ∙ p.untaken))

  -- and none is at work on its trigger, since another token of it would be open
  no_record : (row : QueuedRow) → IsInPipe k d.jobs row → holds d row.packet.dev row.attach ≡ true → is_pending (record_of d.book (trigger_of row.packet)) ≡ true → ⊥
  no_record row p held h =
      let g = trigger_of row.packet in
      let own = token_named k named row.token p.token p.is_open in
      let about : g ≡ p.token.trigger = reads row.packet p.token p.asks own in
      let served : IsServed k d row.packet.dev row.attach = record {
        current = ap (attach_of k) (dev_of row.packet p.token p.asks) ∙ p.current;
        held = holds_one row.packet.dev row.attach d.held book.held held;
      } in
      let f = for_token (record_of d.book g) h in
      let w = pending_here k d tokens row.packet.dev row.attach served book records named g f.entry f.token refl f.is f.pending in
      let same : w.row.trigger ≡ p.token.trigger = w.asks ∙ about in
      let one : f.token ≡ row.token = tokens.once f.token row.token w.row p.token w.is_open p.is_open (same_itself w.row.trigger p.token.trigger same) in
      let taken : job_of d.jobs row.token ≡ Some w.job = ap (job_of d.jobs) (sym one) ∙ w.is_job in
      let untaken = p.untaken in
      absurd cc

  never_busy : (token : ℕ) (row : QueuedRow) → queued_of k.queue token ≡ Some row → delivery_fault row.attach row.packet d ≡ Some Busy → ⊥
  never_busy token row is e =
      let p = in_pipe k d tokens token row is in
      let both = busy_by_cases (knows d row.packet.dev) (holds d row.packet.dev row.attach) (is_busy d row.packet) e in
      either_busy (is_pending (record_of d.book (trigger_of row.packet))) (is_some (job_of d.jobs row.packet.token)) both.1 (no_record row p both.0) (no_job row p)

-- ---- whom the daemon knows

some_map : {X Y : Type 0} (f : X → Y) (o : Option X) → is_some o ≡ true → is_some (option_map f o) ≡ true
some_map f None h = absurd cc
some_map f (Some x) h = refl

latest_is : (rows : List Attached) (fs : ℕ) → was_attached rows fs ≡ true → is_some (latest_attach rows fs) ≡ true
latest_is rows fs h =
    let test : Attached → Bool = λ row. row.fs == fs in
    some_map (λ (row : Attached). row.attach) (find test rows) (any_found test rows h)

walk_is : (k : KernelState) → WalksFit k → (walker : ℕ) (row : WaitRow) → wait_of k.waits.waits walker ≡ Some row → row.kind ≡ Missing → is_some (walk_in k.walks row.walker) ≡ true
walk_is k h walker row is missing =
    any_found (λ (r : WalkRow). r.walker == row.walker) k.walks (all_found (HasWalk k.walks) (λ (r : WaitRow). r.walker == walker) k.waits.waits row h.began is missing)

-- a consistent state that walkers left so is in step
pub in_step : (s : State) → IsConsistent s → WalksFit s.kernel → FailuresAgree s.kernel s.daemon → AreInStep s
in_step s h named failures =
    let halves = h.agreed in
    let k = s.kernel in
    let d = s.daemon in
    let familiar = halves.given.familiar in
    record {
      named = token_named k named;
      free = never_busy k d halves.tokens halves.book halves.records named;
      known = λ fs is. (autofs_is k.triggers.autofs k.attached d.known d.held familiar fs is).0;
      held = held_is d.known d.held familiar.held_known;
      attached = λ fs is. latest_is k.attached fs (autofs_is k.triggers.autofs k.attached d.known d.held familiar fs is).1;
      walks = walk_is k named;
      once = halves.tokens.once;
      one = halves.places.one;
      mended = failures.mended;
    }

-- ---- tests that never fail

-- the kernel has the autofs to which a pipe may be set
has_autofs : (k : KernelState) (fs : ℕ) → pipe_refusal k fs ≡ None → is_some (autofs_of k.triggers fs) ≡ true
has_autofs k fs may =
    let there = is_some (autofs_of k.triggers fs) in
    true_where_not_false there (test_passed (not there) EINVAL (if is_live k fs then Some EBUSY else attach_refusal k) may).0

refused_by_the_kernel_alone : (k : KernelState) (d : DaemonState) (fs : ℕ) (o : Option Errno) → pipe_refusal k fs ≡ o → (is_some (autofs_of k.triggers fs) ≡ true → knows d fs ≡ true) → or_else o (reattach_refusal fs d) ≡ o
refused_by_the_kernel_alone k d fs (Some e) is known = refl
refused_by_the_kernel_alone k d fs None is known = ap (λ (b : Bool). if b then None else Some ENOENT) (known (has_autofs k fs is))

taken_where_not_busy : (known held busy : Bool) → (held ≡ true → known ≡ true) → ((if not known then Some UnknownFs else if not held then Some OldAttach else if busy then Some Busy else None) ≡ Some Busy → ⊥) →
    not (is_some (if not known then Some UnknownFs else if not held then Some OldAttach else if busy then Some Busy else None)) ≡ held
taken_where_not_busy true true true h free = absurd (free refl)
taken_where_not_busy true true false h free = refl
taken_where_not_busy true false busy h free = refl
taken_where_not_busy false true busy h free = absurd (let no : false ≡ true = h refl in cc)
taken_where_not_busy false false busy h free = refl

live_is_there : (row : Option Autofs) → is_live_row row ≡ true → is_some row ≡ true
live_is_there None live = absurd cc
live_is_there (Some row) live = refl

attach_found : (k : KernelState) (fs : ℕ) → is_live k fs ≡ true → is_some (latest_attach k.attached fs) ≡ true → is_some (attach_of k fs) ≡ true
attach_found k fs live found = rw live found

pub refuses_in_step : (s : State) → AreInStep s → RefusesInStep s
refuses_in_step s h =
    let d = s.daemon in
    record {
      reattach = λ fs. refused_by_the_kernel_alone s.kernel d fs (pipe_refusal s.kernel fs) refl (h.known fs);
      deliver = λ token row bytes is. ap (λ (b : Bool). has_bytes bytes row && b)
          (taken_where_not_busy (knows d row.packet.dev) (holds d row.packet.dev row.attach) (is_busy d row.packet) (h.held row.packet.dev row.attach) (h.free token row is));
      attached = λ fs live. attach_found s.kernel fs live (h.attached fs (live_is_there (autofs_of s.kernel.triggers fs) live));
      resume = h.walks;
    }
