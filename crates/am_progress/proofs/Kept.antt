-- What others do leaves the record of a job's trigger, as long as the daemon serves its file system.
use Rattle.std.proofs.Common.{◌≡◌, ◌≤◌, ℕ, ◌+◌, Bool, true, false, cond, List, [], ◌∷◌, Option, Some, None, refl, sym, ap, subst, inl, inr, ◌∙◌, arith}
use Rattle.std.specs.Prelude.{◌==◌, not, filter, find, if◌then◌else◌}
use Rattle.std.specs.Option.{option_map}
use Rattle.std.specs.List.{list_any}
use Rattle.std.proofs.lemmas.List.Elements.{All-head, All-tail}
use Rattle.am_names.specs.{same_trigger, OpenToken, Status, TokenKind, WaitRow}
use Rattle.am_names.specs.declared.trigger.Status.TheVariants.{Ready, Fail}
use Rattle.am_names.specs.declared.row.TokenKind.TheVariants.{Missing, Expire}
use Rattle.am_names.specs.declared.trigger.Trigger.{Trigger}
use Rattle.am_names.proofs.SameTriggers.{equal_by_same_trigger, same_trigger_itself}
use Rattle.am_names.proofs.Basics.{differ_the_other_way, equal_by_test, equal_to_itself, false_unless_true, neither_of_or, none_where_mapped_none, some_injective}
use Rattle.am_state.specs.{Obs, QueuedRow, Record, RecordRow}
use Rattle.am_trigger.specs.{Failure, FailureRows, failure_of, with_failure, without_failure}
use Rattle.am_wait.proofs.FindLemmas.{find_append}
use Rattle.am_wait.specs.{token_of}
use Rattle.am_kernel.specs.{KernelState, attach_of, made_catatonic, settled_by, standing, wait_collected_from, with_latest, with_pipe}
use Rattle.am_kernel.specs.Requests.{settled}
use Rattle.am_job.specs.{Outcome, is_reply, next_of, record_of, recorded, without_fs}
use Rattle.am_job.specs.declared.act.Outcome.TheVariants as came
use Rattle.am_job.proofs.BookLemmas.{forgotten}
use Rattle.am_daemon.specs.{JobPlan, Writing, attach_held, book_after, holds, job_of, line_timeout, next_in, pending_of, plan_of_packet, reattached, trigger_of, writes, writing_of}
use Rattle.am_machine.specs.{Answer, Event, HasPaths, HavePaths, IsServed, Run, Step, after, outcome_of}
use Rattle.am_machine.specs.State.{State}
use Rattle.am_machine.proofs.Agreement.Tokens.{in_pipe, token_named}
use Rattle.am_machine.proofs.Attachments.Held.{held_new, held_others}
use Rattle.am_machine.proofs.Books.Acts.{held_is}
use Rattle.am_machine.proofs.Books.Changes.{its_job}
use Rattle.am_machine.proofs.Books.Changes as books
use Rattle.am_machine.proofs.Books.Pending.{recorded_is}
use Rattle.am_machine.proofs.Books.Standing.{mounted_others, standing_fs}
use Rattle.am_machine.proofs.Books.Unchanged.{Narrows, closed_narrows, narrows_itself, narrows_latest, pipe_others, same_attachments, timeout_narrows}
use Rattle.am_machine.proofs.Lists.Different.{all_found}
use Rattle.am_machine.proofs.Planned.Rests.{left_written}
use Rattle.am_machine.proofs.Tokens.Names.{reads}
use Rattle.am_machine.proofs.Tour.Walks as tour
use Rattle.am_machine.proofs.Tour.Walks.{AnyPath}
use Rattle.am_machine.proofs.Tour.Events as tours
use Rattle.am_machine.proofs.Tour.Events.{IsTaken, going, with_half}
use Rattle.am_progress.specs.{is_act_of}
use Rattle.am_progress.proofs.Directories.{above, new_attach_others}
use Rattle.am_progress.proofs.Jobs.{Acting, its_token, job_number, on_its_token}
use Rattle.am_progress.proofs.Packets.{holds_held}
use Rattle.am_progress.proofs.Others.{IsOther, jobs_stay, other_acts}
use Rattle.am_progress.proofs.Worlds.{IsWorld, step_world}

-- ---- failures that are taken away

kept_by_cases : {X : Type 0} (test keep : X → Bool) (x : X) (rows : List X) (b c : Bool) → (find test rows ≡ None → find test (filter keep rows) ≡ None) → test x ≡ b → cond b (Some x) (find test rows) ≡ None → find test (cond c (x ∷ filter keep rows) (filter keep rows)) ≡ None
kept_by_cases test keep x rows true c later t e = absurd cc
kept_by_cases test keep x rows false true later t e = rw t (later e)
kept_by_cases test keep x rows false false later t e = later e

none_kept : {X : Type 0} (test keep : X → Bool) (rows : List X) → find test rows ≡ None → find test (filter keep rows) ≡ None
none_kept test keep [] e = refl
none_kept test keep (x ∷ rows) e = kept_by_cases test keep x rows (test x) (keep x) (none_kept test keep rows) refl e

abbrev at_trigger : Trigger → (Trigger × Failure) → Bool
at_trigger g row = same_trigger row.0 g

still_good : (keep : (Trigger × Failure) → Bool) (g : Trigger) (rows : FailureRows) → failure_of rows g ≡ None → failure_of (filter keep rows) g ≡ None
still_good keep g rows none =
    ap (option_map (λ (r : Trigger × Failure). r.1)) (none_kept (at_trigger g) keep rows (none_where_mapped_none (λ (r : Trigger × Failure). r.1) (find (at_trigger g) rows) none))

fails_elsewhere : (trigger g : Trigger) (failure : Failure) (rows : FailureRows) → same_trigger trigger g ≡ false → failure_of rows g ≡ None → failure_of (with_failure trigger failure rows) g ≡ None
fails_elsewhere trigger g failure rows other none =
    let left : FailureRows = without_failure trigger rows in
    let gone = none_kept (at_trigger g) (λ (r : Trigger × Failure). not (same_trigger r.0 trigger)) rows (none_where_mapped_none (λ (r : Trigger × Failure). r.1) (find (at_trigger g) rows) none) in
    let none_there : find (at_trigger g) (with_failure trigger failure rows) ≡ None = find_append (at_trigger g) left ((trigger, failure) ∷ []) ∙ (rw (gone, other) refl) in
    ap (option_map (λ (r : Trigger × Failure). r.1)) none_there

-- ---- a job that others leave

-- the job of this number, under the attachment, in a world
pub record HasOwn (s : State) (fs attach number : ℕ) (row : JobPlan) : Type 0 where
  pub world : IsWorld s
  pub is_job : job_of s.daemon.jobs number ≡ Some row
  pub fs_is : row.trigger.fs ≡ fs
  pub attach_is : row.attach ≡ attach

-- the daemon served the file system before, the record of the job's trigger is as it was, and none of its
-- failures is new
pub record IsKept (s t : State) (fs attach : ℕ) (g : Trigger) : Type 0 where
  pub served : IsServed s.kernel s.daemon fs attach
  pub written : record_of t.daemon.book g ≡ record_of s.daemon.book g
  pub good : failure_of s.kernel.failures g ≡ None → failure_of t.kernel.failures g ≡ None

-- so it is where the daemon serves it afterwards, and the job that may act is another
record Keeps (Acts : ℕ → Type 0) (s : State) (shown : List Obs) (t : State) : Type 0 where
  keeps : (fs attach number : ℕ) (row : JobPlan) → HasOwn s fs attach number row → ((job : ℕ) → Acts job → (job == number) ≡ false) → IsServed t.kernel t.daemon fs attach → IsKept s t fs attach row.trigger

-- numbers that were given
module _ (s : State) (fs attach number : ℕ) (row : JobPlan) (h : HasOwn s fs attach number row) where
  given : (row.attach ≤ s.kernel.last_attach)
  given = (all_found (λ (r : JobPlan). (r.attach ≤ s.kernel.last_attach) × (r.trigger.fs ≤ s.kernel.last_fs)) (λ (r : JobPlan). r.token == number) s.daemon.jobs row h.world.consistent.agreed.given.jobs h.is_job).0

  given_fs : (row.trigger.fs ≤ s.kernel.last_fs)
  given_fs = (all_found (λ (r : JobPlan). (r.attach ≤ s.kernel.last_attach) × (r.trigger.fs ≤ s.kernel.last_fs)) (λ (r : JobPlan). r.token == number) s.daemon.jobs row h.world.consistent.agreed.given.jobs h.is_job).1

  -- it acts, where the daemon serves the file system
  acts_then : IsServed s.kernel s.daemon fs attach → Acting s number row
  acts_then served = record {
    world = h.world;
    is_job = h.is_job;
    current = ap (attach_of s.kernel) h.fs_is ∙ served.current ∙ ap (λ (n : ℕ). Some n) (sym h.attach_is);
    held = holds_held s.daemon row.trigger.fs row.attach (ap (attach_held s.daemon) h.fs_is ∙ served.held ∙ ap (λ (n : ℕ). Some n) (sym h.attach_is));
  }

-- no file system is served that wasn't, and nothing fails
record Stays (k made : KernelState) : Type 0 where
  narrows : Narrows k made
  good : (g : Trigger) → failure_of k.failures g ≡ None → failure_of made.failures g ≡ None

-- failures are as before
abbrev same_failures : (k made : KernelState) → Narrows k made → made.failures ≡ k.failures → Stays k made
same_failures k made n same = record { narrows = n; good = λ g none. ap (λ (rows : FailureRows). failure_of rows g) same ∙ none }

closed_stays : (k : KernelState) (fs : ℕ) → Stays k (made_catatonic fs k)
closed_stays k fs = record { narrows = closed_narrows k fs; good = λ g none. still_good (λ (r : Trigger × Failure). not (r.0.fs == fs)) g k.failures none }

-- the book stays too
quiet : (Acts : ℕ → Type 0) (s t : State) (shown : List Obs) → Stays s.kernel t.kernel → ((fs : ℕ) → attach_held t.daemon fs ≡ attach_held s.daemon fs) → ((g : Trigger) → record_of t.daemon.book g ≡ record_of s.daemon.book g) → Keeps Acts s shown t
quiet Acts s t shown n held book = record {
  keeps = λ fs attach number row h other served. record {
    served = record { current = n.narrows.current fs attach served.current; held = sym (held fs) ∙ served.held };
    written = book row.trigger;
    good = n.good row.trigger;
  };
}

half : (Acts : ℕ → Type 0) (s : State) (shown : List Obs) (k : KernelState) → Stays s.kernel k → Keeps Acts s shown (with_half k s)
half Acts s shown k n = quiet Acts s (with_half k s) shown n (λ fs. refl) (λ g. refl)

-- attachments stay
plain : (Acts : ℕ → Type 0) (s : State) (shown : List Obs) (k : KernelState) → ((fs : ℕ) → attach_of k fs ≡ attach_of s.kernel fs) → s.kernel.last_fs ≤ k.last_fs → k.failures ≡ s.kernel.failures → Keeps Acts s shown (with_half k s)
plain Acts s shown k same last failures = half Acts s shown k (same_failures s.kernel k (same_attachments s.kernel k same last) failures)

-- ---- what walkers do

abbrev StaysBy : KernelState → List Obs → KernelState → Type 0
StaysBy k shown made = Stays k made

freed_failures : (kind : TokenKind) (wait : WaitRow) (moment : ℕ) (k : KernelState) → (wait_collected_from kind wait moment k).failures ≡ k.failures
freed_failures Missing wait moment k = refl
freed_failures Expire wait moment k = refl

walks : tour.Keeps AnyPath StaysBy
walks = record {
  nothing = λ k. same_failures k k (narrows_itself k) refl;
  arrived = λ k attempt at passed w. same_failures k _ (books.walks.arrived k attempt at passed w) refl;
  joined = λ k attempt token passed w. same_failures k _ (books.walks.joined k attempt token passed w) refl;
  notified = λ k attempt trigger attach passed w is. same_failures k _ (books.walks.notified k attempt trigger attach passed w is) refl;
  expiring = λ k walker fs moment immediate trigger attach x. same_failures k _ (books.walks.expiring k walker fs moment immediate trigger attach x) refl;
  made_catatonic = closed_stays;
  collected = λ k kind wait status moment shown made g later. record {
    narrows = books.walks.collected k kind wait status moment shown made g later.narrows;
    good = λ t none. later.good t (ap (λ (rows : FailureRows). failure_of rows t) (freed_failures kind wait moment k) ∙ none);
  };
}

-- ---- a job goes on

-- what its next act writes
writing_is : (s : State) (row : JobPlan) (w : Option Writing) → job_of s.daemon.jobs row.token ≡ Some row → writes (next_of row.plan) ≡ w → writing_of row.token s.daemon ≡ w
writing_is s row w is e = ap (λ (o : Option JobPlan). writes (next_in o)) is ∙ e

-- it writes nothing
goes : (Acts : ℕ → Type 0) (s : State) (shown : List Obs) (row : JobPlan) (outcome : Outcome) (k : KernelState) → job_of s.daemon.jobs row.token ≡ Some row → writes (next_of row.plan) ≡ None → Stays s.kernel k → Keeps Acts s shown (going row outcome k s)
goes Acts s shown row outcome k is none n =
    quiet Acts s (going row outcome k s) shown n (λ fs. refl) (λ g. ap (λ (w : Option Writing). record_of (book_after w s.daemon.book) g) (writing_is s row None is none))

-- a job of the attachment that the daemon holds, on the trigger of another, is that one
module _ (s : State) (fs attach number : ℕ) (row : JobPlan) (h : HasOwn s fs attach number row) (served : IsServed s.kernel s.daemon fs attach) where
  other_trigger : (other : JobPlan) → job_of s.daemon.jobs other.token ≡ Some other → holds s.daemon other.trigger.fs other.attach ≡ true → (other.token == number) ≡ false → same_trigger other.trigger row.trigger ≡ false
  other_trigger other is held differs =
      false_unless_true (same_trigger other.trigger row.trigger)
      (λ both.
      let on : other.trigger ≡ row.trigger = equal_by_same_trigger other.trigger row.trigger both in
      let system : other.trigger.fs ≡ fs = ap (λ (t : Trigger). t.fs) on ∙ h.fs_is in
      let under : other.attach ≡ attach = held_is s.daemon other.trigger.fs attach other.attach h.world.consistent.agreed.book.held held (ap (attach_held s.daemon) system ∙ served.held) in
      let acts = acts_then s fs attach number row h served in
      let its = acts_then s fs attach other.token other (record { world = h.world; is_job = is; fs_is = system; attach_is = under }) served in
      let mine = its_token s number row acts in
      let theirs = its_token s other.token other its in
      let same : same_trigger theirs.token.trigger mine.token.trigger ≡ true =
      subst (λ (t : Trigger). same_trigger t mine.token.trigger ≡ true) (sym (sym (on_its_token s other.token other its) ∙ on ∙ on_its_token s number row acts)) (same_trigger_itself mine.token.trigger) in
      let one : other.token ≡ row.token = h.world.consistent.agreed.tokens.once other.token row.token theirs.token mine.token theirs.is_open mine.is_open same in
      let equal : (other.token == number) ≡ true = subst (λ (n : ℕ). (other.token == n) ≡ true) (one ∙ job_number s number row acts) (equal_to_itself other.token) in
      absurd cc)

  -- nor is another open token
  other_token : (token : ℕ) (its : OpenToken) → token_of s.kernel.waits.tokens token ≡ Some its → (token == number) ≡ false → same_trigger its.trigger row.trigger ≡ false
  other_token token its is differs =
      false_unless_true (same_trigger its.trigger row.trigger)
      (λ both.
      let acts = acts_then s fs attach number row h served in
      let mine = its_token s number row acts in
      let on : its.trigger ≡ mine.token.trigger = equal_by_same_trigger its.trigger row.trigger both ∙ on_its_token s number row acts in
      let same : same_trigger its.trigger mine.token.trigger ≡ true = subst (λ (t : Trigger). same_trigger t mine.token.trigger ≡ true) (sym on) (same_trigger_itself mine.token.trigger) in
      let one : token ≡ row.token = h.world.consistent.agreed.tokens.once token row.token its mine.token is mine.is_open same in
      let equal : (token == number) ≡ true = subst (λ (n : ℕ). (token == n) ≡ true) (one ∙ job_number s number row acts) (equal_to_itself token) in
      absurd cc)

  -- nor is a packet in the pipe about it
  other_packet : (queued : QueuedRow) (token : ℕ) → IsTaken s token queued → same_trigger (trigger_of queued.packet) row.trigger ≡ false
  other_packet queued token taken =
      false_unless_true (same_trigger (trigger_of queued.packet) row.trigger)
      (λ both.
      let tokens = h.world.consistent.agreed.tokens in
      let acts = acts_then s fs attach number row h served in
      let mine = its_token s number row acts in
      let pipe = in_pipe s.kernel s.daemon tokens token queued taken.queued in
      let on : pipe.token.trigger ≡ mine.token.trigger =
      sym (reads queued.packet pipe.token pipe.asks (token_named s.kernel h.world.named queued.token pipe.token pipe.is_open))
      ∙ equal_by_same_trigger (trigger_of queued.packet) row.trigger both ∙ on_its_token s number row acts in
      let same : same_trigger pipe.token.trigger mine.token.trigger ≡ true = subst (λ (t : Trigger). same_trigger t mine.token.trigger ≡ true) (sym on) (same_trigger_itself mine.token.trigger) in
      let one : queued.token ≡ row.token = tokens.once queued.token row.token pipe.token mine.token pipe.is_open mine.is_open same in
      let none : job_of s.daemon.jobs number ≡ None = ap (job_of s.daemon.jobs) (sym (job_number s number row acts) ∙ sym one) ∙ pipe.untaken in
      let some = h.is_job in
      absurd cc)

-- ---- the book

told_other : (reply : Bool) (book : List RecordRow) (t g : Trigger) (entry : Option Record) → same_trigger t g ≡ false → record_of (if reply then book else recorded t entry book) g ≡ record_of book g
told_other true book t g entry other = refl
told_other false book t g entry other = recorded_is t entry book g ∙ ap (λ (b : Bool). if b then entry else record_of book g) other

piped_by_cases : (s : State) (f fs attach number : ℕ) (row : JobPlan) (h : HasOwn s fs attach number row) (b : Bool) → (f == fs) ≡ b → IsServed (with_pipe f s.kernel) (reattached f (s.kernel.last_attach + 1) (standing s.kernel f) s.daemon) fs attach →
    IsKept s (record s { kernel = with_pipe f s.kernel; daemon = reattached f (s.kernel.last_attach + 1) (standing s.kernel f) s.daemon }) fs attach row.trigger
piped_by_cases s f fs attach number row h true is served =
    let held : attach_held (reattached f (s.kernel.last_attach + 1) (standing s.kernel f) s.daemon) f ≡ Some attach =
    subst (λ (n : ℕ). attach_held (reattached f (s.kernel.last_attach + 1) (standing s.kernel f) s.daemon) n ≡ Some attach) (sym (equal_by_test f fs is)) served.held in
    let new : s.kernel.last_attach + 1 ≡ attach = some_injective (sym (held_new s.daemon.held f (s.kernel.last_attach + 1)) ∙ held) in
    let least = given s fs attach number row h in
    let own = h.attach_is in
    absurd (omega (arith, new, least, own))
piped_by_cases s f fs attach number row h false other served =
    let stays : attach_held (reattached f (s.kernel.last_attach + 1) (standing s.kernel f) s.daemon) fs ≡ attach_held s.daemon fs = held_others s.daemon.held f (s.kernel.last_attach + 1) fs other in
    let g = row.trigger in
    let away : (f == g.fs) ≡ false = subst (λ (n : ℕ). (f == n) ≡ false) (sym h.fs_is) other in
    let apart : (g.fs == f) ≡ false = differ_the_other_way f g.fs away in
    record {
      served = record { current = sym (pipe_others s.kernel f fs other) ∙ served.current; held = sym stays ∙ served.held };
      good = λ none. still_good (λ (r : Trigger × Failure). not (r.0.fs == f)) g s.kernel.failures none;
      written = mounted_others (standing s.kernel f) (without_fs f s.daemon.book) g f (standing_fs s.kernel f) away ∙ forgotten f g s.daemon.book
          ∙ ap (λ (b : Bool). if b then None else record_of s.daemon.book g) apart;
    }

-- what is acknowledged of another trigger
settled_elsewhere : (kind : TokenKind) (trigger g : Trigger) (status : Status) (moment : ℕ) (rows : FailureRows) → same_trigger trigger g ≡ false → failure_of rows g ≡ None → failure_of (settled kind trigger status moment rows) g ≡ None
settled_elsewhere Missing trigger g Ready moment rows other none = still_good (λ (r : Trigger × Failure). not (same_trigger r.0 trigger)) g rows none
settled_elsewhere Missing trigger g (Fail error) moment rows other none = fails_elsewhere trigger g (record { no = error; at = moment }) rows other none
settled_elsewhere Expire trigger g status moment rows other none = none

-- ---- events

events_keep : (Acts : ℕ → Type 0) → tours.Keeps AnyPath Acts StaysBy (Keeps Acts)
events_keep Acts = record {
  same = λ s. quiet Acts s s [] (same_failures s.kernel s.kernel (narrows_itself s.kernel) refl) (λ fs. refl) (λ g. refl);
  attached = λ s path point at is fresh may. record {
    keeps = λ fs attach number row h others served.
        let least = given_fs s fs attach number row h in
        let other : (s.kernel.last_fs + 1 == fs) ≡ false = above fs s.kernel.last_fs (subst (λ (n : ℕ). n ≤ s.kernel.last_fs) h.fs_is least) in
        record {
          served = record {
            current = sym (new_attach_others s.kernel point.direct (line_timeout s.daemon point.entry) at fs other) ∙ served.current;
            held = sym (held_others s.daemon.held (s.kernel.last_fs + 1) (s.kernel.last_attach + 1) fs other) ∙ served.held;
          };
          written = refl;
          good = λ none. none;
        };
  };
  mounted = λ s ns path at is may. plain Acts s _ _ (λ fs. refl) (omega arith) refl;
  bound = λ s source at may. plain Acts s _ _ (λ fs. refl) (omega arith) refl;
  unmounted = λ s at may. plain Acts s _ _ (λ fs. refl) (omega arith) refl;
  changed = λ s change at may. plain Acts s _ _ (λ fs. refl) (omega arith) refl;
  copied = λ s ns form may. plain Acts s _ _ (λ fs. refl) (omega arith) refl;
  dropped = λ s ns may. plain Acts s _ _ (λ fs. refl) (omega arith) refl;
  walks = walks;
  walked = λ s shown k moment n. half Acts s shown (with_latest moment k) (record { narrows = narrows_latest s.kernel k moment n.narrows; good = n.good });
  left = λ s walker mount is. plain Acts s _ _ (λ fs. refl) (omega arith) refl;
  made_catatonic = λ s fs. half Acts s _ _ (closed_stays s.kernel fs);
  timed = λ s fs timeout. half Acts s _ _ (same_failures s.kernel _ (timeout_narrows s.kernel fs timeout) refl);
  died = λ s. record { keeps = λ fs attach number row h others served. let held : None ≡ Some attach = served.held in absurd cc };
  reattached = λ s f autofs is dead. record { keeps = λ fs attach number row h others served. piped_by_cases s f fs attach number row h (f == fs) refl served };
  delivered = λ s token queued taken. record {
    keeps = λ fs attach number row h others served.
        let was : IsServed s.kernel s.daemon fs attach = record { current = served.current; held = served.held } in
        record {
          served = was;
          written = told_other (is_reply (plan_of_packet s.daemon queued.packet)) s.daemon.book (trigger_of queued.packet) row.trigger (pending_of s.daemon queued.packet) (other_packet s fs attach number row h was queued token taken);
          good = λ none. none;
        };
  };
  rested = λ s row a outcome i r. goes Acts s _ row outcome _ i.is (ap writes i.next ∙ r.writes) (same_failures s.kernel s.kernel (narrows_itself s.kernel) refl);
  directory_made = λ s row trigger i. goes Acts s _ row _ _ i.is (ap writes i.next) (same_failures s.kernel _ (same_attachments s.kernel _ (λ fs. refl) (omega arith)) refl);
  directory_gone = λ s row trigger i. goes Acts s _ row _ _ i.is (ap writes i.next) (same_failures s.kernel _ (same_attachments s.kernel _ (λ fs. refl) (omega arith)) refl);
  mounted_on = λ s row trigger entry i may. goes Acts s _ row _ _ i.is (ap writes i.next) (same_failures s.kernel _ (same_attachments s.kernel _ (λ fs. refl) (omega arith)) refl);
  unmounted_on = λ s row trigger mount i u. goes Acts s _ row _ _ i.is (ap writes i.next) (same_failures s.kernel _ (same_attachments s.kernel _ (λ fs. refl) (omega arith)) refl);
  recorded = λ s writer trigger entry i held. record {
    keeps = λ fs attach number row h others served.
        let was : IsServed s.kernel s.daemon fs attach = record { current = served.current; held = served.held } in
        let halves = h.world.consistent.agreed in
        let planned = (its_job s writer i.is halves.planned halves.tokens.numbers).planned in
        let on = (left_written writer.trigger writer.plan came.Done trigger entry i.next planned.rest).trigger_is in
        let other : same_trigger trigger row.trigger ≡ false =
        subst (λ (t : Trigger). same_trigger t row.trigger ≡ false) (sym on) (other_trigger s fs attach number row h was writer i.is held (others writer.token i.acts)) in
        record {
          served = was;
          written = ap (λ (w : Option Writing). record_of (book_after w s.daemon.book) row.trigger) (writing_is s writer (Some (record { trigger = trigger; entry = entry })) i.is (ap writes i.next))
              ∙ recorded_is trigger entry s.daemon.book row.trigger
              ∙ ap (λ (b : Bool). if b then entry else record_of s.daemon.book row.trigger) other;
          good = λ none. none;
        };
  };
  replied = λ s replier status its i is. record {
    keeps = λ fs attach number row h others served.
        let was : IsServed s.kernel s.daemon fs attach = record { current = served.current; held = served.held } in
        let other = other_token s fs attach number row h was replier.token its is (others replier.token i.acts) in
        record {
          served = was;
          written = ap (λ (w : Option Writing). record_of (book_after w s.daemon.book) row.trigger) (writing_is s replier None i.is (ap writes i.next));
          good = λ none. ap (λ (o : Option OpenToken). failure_of (settled_by o status s.kernel.latest s.kernel.failures) row.trigger) is
              ∙ settled_elsewhere its.kind its.trigger row.trigger status s.kernel.latest s.kernel.failures other none;
        };
  };
}

-- ---- steps and runs

outcome_keeps : (s : State) (event : Event) (fs attach number : ℕ) (row : JobPlan) → HasOwn s fs attach number row → is_act_of number event ≡ false → IsServed (after s (outcome_of s event)).kernel (after s (outcome_of s event)).daemon fs attach → IsKept s (after s (outcome_of s event)) fs attach row.trigger
outcome_keeps s event fs attach number row h differs served =
    let acts = IsOther number in
    let kept = (tours.outcome AnyPath acts StaysBy (Keeps acts) (events_keep acts) s event (other_acts number s event differs)).well.keeps fs attach number row h (λ job other. other) (record { current = served.current; held = served.held }) in
    record { served = kept.served; written = kept.written; good = kept.good }

step_keeps : (old : State) (event : Event) (answer : Answer) (seen : List Obs) (new : State) → Step old event answer seen new → (fs attach number : ℕ) (row : JobPlan) → HasOwn old fs attach number row → is_act_of number event ≡ false → IsServed new.kernel new.daemon fs attach → IsKept old new fs attach row.trigger
step_keeps old event answer seen new (inl out) fs attach number row h differs served = record {
  served = subst (λ (s : State). IsServed s.kernel s.daemon fs attach) out.same served;
  written = ap (λ (s : State). record_of s.daemon.book row.trigger) out.same;
  good = λ none. ap (λ (s : State). failure_of s.kernel.failures row.trigger) out.same ∙ none;
}
step_keeps old event answer seen new (inr comes) fs attach number row h differs served =
    subst (λ (s : State). IsKept old s fs attach row.trigger) (sym comes.left)
    (outcome_keeps old event fs attach number row h differs (subst (λ (s : State). IsServed s.kernel s.daemon fs attach) comes.left served))

-- a run without an act of the job
pub run_keeps : (old : State) (events : List Event) (answers : List Answer) (new : State) → Run old events answers new → HavePaths events → (fs attach number : ℕ) (row : JobPlan) → HasOwn old fs attach number row → list_any (is_act_of number) events ≡ false → IsServed new.kernel new.daemon fs attach →
    IsKept old new fs attach row.trigger
run_keeps old [] [] new run along fs attach number row h others served = record {
  served = subst (λ (s : State). IsServed s.kernel s.daemon fs attach) run served;
  written = ap (λ (s : State). record_of s.daemon.book row.trigger) run;
  good = λ none. ap (λ (s : State). failure_of s.kernel.failures row.trigger) run ∙ none;
}
run_keeps old (event ∷ events) (answer ∷ answers) new run along fs attach number row h others served =
    let both = neither_of_or (is_act_of number event) (list_any (is_act_of number) events) others in
    let mid = run.0 in
    let own : HasOwn mid fs attach number row = record {
      world = step_world old event answer run.1 mid run.2 (All-head HasPaths event events along) h.world;
      is_job = jobs_stay old event answer run.1 mid run.2 number row both.0 h.is_job;
      fs_is = h.fs_is;
      attach_is = h.attach_is;
    } in
    let later = run_keeps mid events answers new run.3 (All-tail HasPaths event events along) fs attach number row own both.1 served in
    let first = step_keeps old event answer run.1 mid run.2 fs attach number row h both.0 later.served in
    record { served = first.served; written = later.written ∙ first.written; good = λ none. later.good (first.good none) }
run_keeps old [] (answer ∷ answers) new run along fs attach number row h others served = absurd run
run_keeps old (event ∷ events) [] new run along fs attach number row h others served = absurd run
