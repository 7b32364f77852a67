-- A job that is about to mount in an indirect autofs has its directory.
use Rattle.std.proofs.Common.{◌≡◌, ◌≤◌, ℕ, ◌+◌, Bool, true, false, cond, List, [], ◌∷◌, Option, Some, None, refl, sym, ap, subst, ◌∙◌, arith}
use Rattle.std.specs.Prelude.{◌==◌, ◌||◌, not, is_some, find, filter, if◌then◌else◌}
use Rattle.std.specs.List.{All, list_any}
use Rattle.std.proofs.lemmas.Bool.Decides.{nat_tests}
use Rattle.am_names.specs.{same_trigger, Position, Status, TokenKind, WaitRow}
use Rattle.am_names.specs.declared.fail_no.FailNo.{FailNo}
use Rattle.am_names.specs.declared.errno.Errno.{Errno}
use Rattle.am_names.specs.declared.errno.Errno.TheVariants as errnos
use Rattle.am_names.specs.declared.row.TokenKind.TheVariants.{Missing, Expire}
use Rattle.am_names.specs.declared.trigger.Trigger.{Trigger}
use Rattle.am_names.proofs.SameTriggers.{equal_by_same_trigger, same_trigger_either_way, same_trigger_itself}
use Rattle.am_names.proofs.Basics.{equal_by_test, equal_to_itself, false_unless_true, found_passes, not_where_false, some_injective}
use Rattle.am_map.specs.EntryText.{EntryText}
use Rattle.am_wire.specs.{token_kind}
use Rattle.am_state.specs.{Obs}
use Rattle.am_trigger.specs.{Autofs, is_made}
use Rattle.am_wait.proofs.FindLemmas.{find_append, or_first}
use Rattle.am_kernel.specs.{Attached, KernelState, acknowledged, attach_of, attached_at, attached_row, gone_from, is_current, is_indirect, mkdir_refusal, mount_on_refusal, or_else, rmdir_refusal, umount_from_refusal, with_directory, with_latest, with_mount_on, with_pipe, without_directory, without_mounts, wait_collected_from, answer_refusal}
use Rattle.am_job.specs.{Act, Outcome, next_of, plan_for}
use Rattle.am_job.specs.declared.act.Act.TheVariants as act
use Rattle.am_job.specs.declared.act.Outcome.TheVariants as came
use Rattle.am_daemon.specs.{JobPlan, entry_of, finished_in, holds, is_ended, job_for, job_of, line_timeout, mounted_for, trigger_of, walked}
use Rattle.am_daemon.proofs.JobLemmas.{others_stay}
use Rattle.am_machine.specs.{Event, IsConsistent, WalksFit, outcome_of, refused}
use Rattle.am_machine.specs.declared.event.Event.TheVariants as events
use Rattle.am_machine.specs.State.{State}
use Rattle.am_machine.specs.EventOutcome.{EventOutcome}
use Rattle.am_machine.specs.Events.Acts as acts
use Rattle.am_machine.proofs.Agreement.Tokens.{token_at_work, token_named}
use Rattle.am_machine.proofs.Attachments.Current.{attach_from_current}
use Rattle.am_machine.proofs.Attachments.Grows.{pipe_grows}
use Rattle.am_machine.proofs.Attachments.Known.{any_last, any_more}
use Rattle.am_machine.proofs.Books.Changes as books
use Rattle.am_machine.proofs.Books.Unchanged.{Narrows, closed_narrows, found_same, narrows_itself, narrows_latest, same_attachments, timeout_narrows}
use Rattle.am_machine.proofs.Lists.Different.{all_found}
use Rattle.am_machine.proofs.Lists.Found.{find_others}
use Rattle.am_machine.proofs.Tokens.Unchanged.{was_current}
use Rattle.am_machine.proofs.Tour.Walks as tour
use Rattle.am_machine.proofs.Tour.Walks.{AnyPath}
use Rattle.am_machine.proofs.Tour.Events as tours
use Rattle.am_machine.proofs.Tour.Events.{IsKnown, with_half}
use Rattle.am_progress.specs.{goes_on_as}
use Rattle.am_progress.proofs.Left.{left_is}
use Rattle.am_progress.proofs.Plans.{IsOfPlan, NoDirectory, next_own, no_mount_after, no_mount_first}

abbrev pub HasDirectory : KernelState → JobPlan → Type 0
HasDirectory k row =
    attach_of k row.trigger.fs ≡ Some row.attach → (entry : EntryText) → next_of row.plan ≡ Some (act.Mount row.trigger entry) → is_some row.trigger.name ≡ true → is_made k.triggers row.trigger ≡ true

-- so it is of each job whose attachment its file system has
abbrev pub HaveDirectories : State → Type 0
HaveDirectories s = (number : ℕ) (row : JobPlan) → job_of s.daemon.jobs number ≡ Some row → HasDirectory s.kernel row

-- what it rests on
pub record IsGrounded (s : State) : Type 0 where
  pub consistent : IsConsistent s
  pub named : WalksFit s.kernel
  pub plans : All IsOfPlan s.daemon.jobs

record Keeps (s : State) (shown : List Obs) (t : State) : Type 0 where
  keeps : IsGrounded s → HaveDirectories s → HaveDirectories t

-- directories stay, and no file system has an attachment that it hadn't
record Stays (k made : KernelState) : Type 0 where
  narrows : Narrows k made
  directories : made.triggers.made ≡ k.triggers.made

still : (k made : KernelState) (row : JobPlan) → made.triggers.made ≡ k.triggers.made → (attach_of made row.trigger.fs ≡ Some row.attach → attach_of k row.trigger.fs ≡ Some row.attach) → HasDirectory k row → HasDirectory made row
still k made row same was h current entry e named = ap (list_any (λ (r : Trigger). same_trigger r row.trigger)) same ∙ h (was current) entry e named

half : (s : State) (shown : List Obs) (k : KernelState) → Stays s.kernel k → Keeps s shown (with_half k s)
half s shown k n = record { keeps = λ g h number row is. still s.kernel k row n.directories (n.narrows.current row.trigger.fs row.attach) (h number row is) }

plain : (s : State) (shown : List Obs) (k : KernelState) → ((fs : ℕ) → attach_of k fs ≡ attach_of s.kernel fs) → s.kernel.last_fs ≤ k.last_fs → k.triggers.made ≡ s.kernel.triggers.made → Keeps s shown (with_half k s)
plain s shown k same last directories = half s shown k (record { narrows = same_attachments s.kernel k same last; directories = directories })

-- ---- what walkers do

abbrev StaysBy : KernelState → List Obs → KernelState → Type 0
StaysBy k shown made = Stays k made

freed_directories : (kind : TokenKind) (wait : WaitRow) (moment : ℕ) (k : KernelState) → (wait_collected_from kind wait moment k).triggers.made ≡ k.triggers.made
freed_directories Missing wait moment k = refl
freed_directories Expire wait moment k = refl

walks : tour.Keeps AnyPath StaysBy
walks = record {
  nothing = λ k. record { narrows = narrows_itself k; directories = refl };
  arrived = λ k attempt at passed w. record { narrows = books.walks.arrived k attempt at passed w; directories = refl };
  joined = λ k attempt token passed w. record { narrows = books.walks.joined k attempt token passed w; directories = refl };
  notified = λ k attempt trigger attach passed w is. record { narrows = books.walks.notified k attempt trigger attach passed w is; directories = refl };
  expiring = λ k walker fs moment immediate trigger attach x. record { narrows = books.walks.expiring k walker fs moment immediate trigger attach x; directories = refl };
  made_catatonic = λ k fs. record { narrows = closed_narrows k fs; directories = refl };
  collected = λ k kind wait status moment shown made g later. record {
    narrows = books.walks.collected k kind wait status moment shown made g later.narrows;
    directories = later.directories ∙ freed_directories kind wait moment k;
  };
}

-- ---- the numbers of a job were given

given_attach : (s : State) → IsGrounded s → (number : ℕ) (row : JobPlan) → job_of s.daemon.jobs number ≡ Some row → (row.attach ≤ s.kernel.last_attach) × (row.trigger.fs ≤ s.kernel.last_fs)
given_attach s g number row is = all_found (λ (r : JobPlan). (r.attach ≤ s.kernel.last_attach) × (r.trigger.fs ≤ s.kernel.last_fs)) (λ (r : JobPlan). r.token == number) s.daemon.jobs row g.consistent.agreed.given.jobs is

-- a job that begins makes its directory first
begins : (kind : TokenKind) (g : Trigger) (mounted : Option ℕ) (entry : Option EntryText) (h : Trigger) (e : EntryText) → next_of (plan_for kind g mounted entry) ≡ Some (act.Mount h e) → is_some g.name ≡ true → ⊥
begins kind g mounted entry h e next named = no_mount_first kind g mounted entry g.name h e refl next named

delivered_by_cases : (s : State) (row job : JobPlan) (number : ℕ) (o : Option JobPlan) → job_of s.daemon.jobs number ≡ o → HaveDirectories s → ((entry : EntryText) → next_of job.plan ≡ Some (act.Mount job.trigger entry) → is_some job.trigger.name ≡ true → ⊥) →
    or_first o (find (λ (r : JobPlan). r.token == number) (job ∷ [])) ≡ Some row → HasDirectory s.kernel row
delivered_by_cases s row job number (Some other) is h first e =
    let same : other ≡ row = some_injective e in
    h number row (is ∙ ap (λ (r : JobPlan). Some r) same)
delivered_by_cases s row job number None is h first e = by (job.token == number) e
  where
    by : (b : Bool) → cond b (Some job) None ≡ Some row → HasDirectory s.kernel row
    by true e =
        let same : job ≡ row = some_injective e in
        subst (HasDirectory s.kernel) same (λ current entry next named. absurd (first entry next named))
    by false e = absurd cc

-- ---- another file system is attached

pub new_attach_others : (k : KernelState) (direct : Bool) (timeout : ℕ) (at : Position) (f : ℕ) → (k.last_fs + 1 == f) ≡ false → attach_of (attached_at direct timeout k at) f ≡ attach_of k f
new_attach_others k direct timeout at f other =
    let new : Autofs = record { fs = k.last_fs + 1; direct = direct; location = k.table.last_mount + 1; catatonic = false } in
    found_same _ _ _ _ (find_others (λ (row : Autofs). row.fs == f) k.triggers.autofs new other)
    (find_others (λ (row : Attached). row.fs == f) k.attached (attached_row (k.last_fs + 1) (k.last_attach + 1) timeout) other)

pub above : (n last : ℕ) → n ≤ last → (last + 1 == n) ≡ false
above n last least = grind (arith, nat_tests, least)

-- ---- events but acts

abbrev is_act : Event → Bool
is_act (events.Act job failure) = true
is_act _ = false

abbrev NoJob : ℕ → Type 0
NoJob job = ⊥

events_keep : tours.Keeps AnyPath NoJob StaysBy Keeps
events_keep = record {
  same = λ s. record { keeps = λ g h. h };
  attached = λ s path point at is fresh may. record {
    keeps = λ g h number row found.
        let least = (given_attach s g number row found).1 in
        still s.kernel (attached_at point.direct (line_timeout s.daemon point.entry) s.kernel at) row refl
        (λ current. sym (new_attach_others s.kernel point.direct (line_timeout s.daemon point.entry) at row.trigger.fs (above row.trigger.fs s.kernel.last_fs least)) ∙ current) (h number row found);
  };
  mounted = λ s ns path at is may. plain s _ _ (λ fs. refl) (omega arith) refl;
  bound = λ s source at may. plain s _ _ (λ fs. refl) (omega arith) refl;
  unmounted = λ s at may. plain s _ _ (λ fs. refl) (omega arith) refl;
  changed = λ s change at may. plain s _ _ (λ fs. refl) (omega arith) refl;
  copied = λ s ns form may. plain s _ _ (λ fs. refl) (omega arith) refl;
  dropped = λ s ns may. plain s _ _ (λ fs. refl) (omega arith) refl;
  walks = walks;
  walked = λ s shown k moment n. half s shown (with_latest moment k) (record { narrows = narrows_latest s.kernel k moment n.narrows; directories = n.directories });
  left = λ s walker mount is. plain s _ _ (λ fs. refl) (omega arith) refl;
  made_catatonic = λ s fs. half s _ _ (record { narrows = closed_narrows s.kernel fs; directories = refl });
  timed = λ s fs timeout. half s _ _ (record { narrows = timeout_narrows s.kernel fs timeout; directories = refl });
  died = λ s. record { keeps = λ g h. h };
  reattached = λ s f autofs is dead. record {
    keeps = λ g h number row found.
        still s.kernel (with_pipe f s.kernel) row refl (λ current. was_current s.kernel (with_pipe f s.kernel) row.trigger.fs row.attach (pipe_grows s.kernel f row.trigger.fs dead) (given_attach s g number row found).0 current) (h number row found);
  };
  delivered = λ s token queued taken. record {
    keeps = λ g h number row found.
        let job = job_for queued.attach queued.packet s.daemon in
        delivered_by_cases s row job number (job_of s.daemon.jobs number) refl h
        (λ entry next named. begins (token_kind queued.packet.kind) (trigger_of queued.packet) (mounted_for s.daemon queued.packet) (entry_of s.daemon (trigger_of queued.packet)) (trigger_of queued.packet) entry next named)
        (sym (find_append (λ (r : JobPlan). r.token == number) s.daemon.jobs (job ∷ [])) ∙ found);
  };
  rested = λ s row a outcome i r. absurd i.acts;
  directory_made = λ s row trigger i. absurd i.acts;
  directory_gone = λ s row trigger i. absurd i.acts;
  mounted_on = λ s row trigger entry i may. absurd i.acts;
  unmounted_on = λ s row trigger mount i u. absurd i.acts;
  recorded = λ s row trigger entry i held. absurd i.acts;
  replied = λ s row status its i is. absurd i.acts;
}

-- ---- a job that acts

any_kept : {X : Type 0} (test keep : X → Bool) (rows : List X) → ((x : X) → test x ≡ true → keep x ≡ true) → list_any test (filter keep rows) ≡ list_any test rows
any_kept test keep [] h = refl
any_kept {X} test keep (x ∷ rows) h = by (keep x) refl (any_kept test keep rows h)
  where
    by : (b : Bool) → keep x ≡ b → list_any test (filter keep rows) ≡ list_any test rows → list_any test (cond b (x ∷ filter keep rows) (filter keep rows)) ≡ (test x || list_any test rows)
    by true k later = ap (λ (c : Bool). test x || c) later
    by false k later =
        let none : test x ≡ false = false_unless_true (test x) (λ t. let no : false ≡ true = sym k ∙ h x t in absurd cc) in
        later ∙ sym (ap (λ (c : Bool). c || list_any test rows) none)

module _ (s : State) (g : IsGrounded s) (row : JobPlan) (is : job_of s.daemon.jobs row.token ≡ Some row) where
  its_plan : IsOfPlan row
  its_plan = all_found IsOfPlan (λ (r : JobPlan). r.token == row.token) s.daemon.jobs row g.plans is

  -- the jobs once it has acted
  goes : (outcome : Outcome) (made : KernelState) → ((number : ℕ) (r : JobPlan) → (number == row.token) ≡ false → job_of s.daemon.jobs number ≡ Some r → HasDirectory made r) → HasDirectory made (walked outcome row) →
      (number : ℕ) (r : JobPlan) → job_of (finished_in row.token outcome s.daemon.jobs) number ≡ Some r → HasDirectory made r
  goes outcome made others own number r e = by (number == row.token) refl
    where
      by : (b : Bool) → (number == row.token) ≡ b → HasDirectory made r
      by false differs = others number r differs (sym (others_stay s.daemon.jobs row.token outcome number differs) ∙ e)
      by true same =
          let here : job_of (finished_in row.token outcome s.daemon.jobs) row.token ≡ Some r = subst (λ (n : ℕ). job_of (finished_in row.token outcome s.daemon.jobs) n ≡ Some r) (equal_by_test number row.token same) e in
          let left : goes_on_as outcome row ≡ Some r = sym (left_is row.token outcome row s.daemon.jobs g.consistent.agreed.tokens.numbers is) ∙ here in
          ended (is_ended (walked outcome row)) left
        where
          ended : (b : Bool) → (if b then None else Some (walked outcome row)) ≡ Some r → HasDirectory made r
          ended true e = absurd cc
          ended false e = subst (HasDirectory made) (some_injective e) own

  -- after another act than the making of its directory it isn't about to mount
  own_after : (outcome : Outcome) (made : KernelState) (a : Act) → next_of row.plan ≡ Some a → NoDirectory a → HasDirectory made (walked outcome row)
  own_after outcome made a next other = λ current entry mount named. absurd (no_mount_after row.trigger row.plan outcome a row.trigger entry its_plan.mounts next other mount)

  -- directories stay
  rests_so : (outcome : Outcome) (made : KernelState) (a : Act) → next_of row.plan ≡ Some a → NoDirectory a → HaveDirectories s → ((fs : ℕ) → attach_of made fs ≡ attach_of s.kernel fs) → made.triggers.made ≡ s.kernel.triggers.made →
      (number : ℕ) (r : JobPlan) → job_of (finished_in row.token outcome s.daemon.jobs) number ≡ Some r → HasDirectory made r
  rests_so outcome made a next other h same directories =
      goes outcome made (λ number r differs found. still s.kernel made r directories (λ current. sym (same r.trigger.fs) ∙ current) (h number r found)) (own_after outcome made a next other)

-- a refusal that tells it's made
made_already : (current indirect made : Bool) → or_else (if not current then Some errnos.EPERM else if not indirect then Some errnos.EINVAL else None) (if made then Some errnos.EEXIST else None) ≡ Some errnos.EEXIST → made ≡ true
made_already false indirect made e = absurd cc
made_already true false made e = absurd cc
made_already true true false e = absurd cc
made_already true true true e = refl

-- one that isn't refused is of the current attachment
current_then : (current indirect : Bool) (others : Option Errno) → or_else (if not current then Some errnos.EPERM else if not indirect then Some errnos.EINVAL else None) others ≡ None → current ≡ true
current_then true indirect others e = refl
current_then false indirect others e = absurd cc

module _ (s : State) (g : IsGrounded s) (row : JobPlan) (is : job_of s.daemon.jobs row.token ≡ Some row) (h : HaveDirectories s) where
  -- the directory is made now, or was
  mkdir_by : (e : Option Errno) (trigger : Trigger) → next_of row.plan ≡ Some (act.Mkdir trigger) → mkdir_refusal s.kernel row.attach trigger ≡ e → HaveDirectories (acts.mkdir_by e s row trigger).state
  mkdir_by None trigger next may =
      goes s g row is came.Done (with_directory trigger s.kernel)
      (λ number r differs found current entry mount named. any_more (λ (x : Trigger). same_trigger x r.trigger) s.kernel.triggers.made (trigger ∷ []) (h number r found current entry mount named))
      (λ current entry mount named.
      let own = (next_own row.trigger row.plan (act.Mkdir trigger) (its_plan s g row is).own next).0 in
      any_last (λ (x : Trigger). same_trigger x row.trigger) s.kernel.triggers.made trigger (subst (λ (x : Trigger). same_trigger trigger x ≡ true) own (same_trigger_itself trigger)))
  mkdir_by (Some errnos.EEXIST) trigger next may =
      goes s g row is came.Done s.kernel (λ number r differs found. h number r found)
      (λ current entry mount named.
      let own = (next_own row.trigger row.plan (act.Mkdir trigger) (its_plan s g row is).own next).0 in
      subst (λ (x : Trigger). is_made s.kernel.triggers x ≡ true) own (made_already (is_current s.kernel trigger.fs row.attach) (is_indirect s.kernel trigger) (is_made s.kernel.triggers trigger) may))
  mkdir_by (Some _) trigger next may = h

  -- it goes on, and directories stay
  on : (outcome : Outcome) (made : KernelState) (a : Act) → next_of row.plan ≡ Some a → NoDirectory a → ((fs : ℕ) → attach_of made fs ≡ attach_of s.kernel fs) → made.triggers.made ≡ s.kernel.triggers.made →
      (number : ℕ) (r : JobPlan) → job_of (finished_in row.token outcome s.daemon.jobs) number ≡ Some r → HasDirectory made r
  on outcome made a next other same directories = rests_so s g row is outcome made a next other h same directories

  mount_by : (e : Option Errno) (trigger : Trigger) (entry : EntryText) → next_of row.plan ≡ Some (act.Mount trigger entry) → HaveDirectories (acts.mount_by e s row trigger).state
  mount_by None trigger entry next = on _ (with_mount_on trigger s.kernel) (act.Mount trigger entry) next tt (λ fs. refl) refl
  mount_by (Some e) trigger entry next = on _ s.kernel (act.Mount trigger entry) next tt (λ fs. refl) refl

  mount_tried : (failure : Option FailNo) (trigger : Trigger) (entry : EntryText) → next_of row.plan ≡ Some (act.Mount trigger entry) → HaveDirectories (acts.mount_tried failure s row trigger).state
  mount_tried (Some error) trigger entry next = on _ s.kernel (act.Mount trigger entry) next tt (λ fs. refl) refl
  mount_tried None trigger entry next = mount_by (mount_on_refusal s.kernel row.attach trigger) trigger entry next

  umount_by : (e : Option Errno) (trigger : Trigger) → next_of row.plan ≡ Some (act.Umount trigger) → HaveDirectories (acts.umount_by e s row trigger).state
  umount_by None trigger next = on _ (without_mounts (gone_from s.kernel trigger) s.kernel) (act.Umount trigger) next tt (λ fs. refl) refl
  umount_by (Some e) trigger next = on _ s.kernel (act.Umount trigger) next tt (λ fs. refl) refl

  umount_tried : (failure : Option FailNo) (trigger : Trigger) → next_of row.plan ≡ Some (act.Umount trigger) → HaveDirectories (acts.umount_tried failure s row trigger).state
  umount_tried (Some error) trigger next = on _ s.kernel (act.Umount trigger) next tt (λ fs. refl) refl
  umount_tried None trigger next = umount_by (umount_from_refusal s.kernel row.attach trigger) trigger next

  reply_by : (e : Option Errno) (status : Status) → next_of row.plan ≡ Some (act.Reply status) → HaveDirectories (acts.reply_by e s row status).state
  reply_by None status next = on _ (acknowledged row.token status s.kernel) (act.Reply status) next tt (λ fs. refl) refl
  reply_by (Some e) status next = h

  -- another job that is about to mount is on another trigger
  rmdir_by : (e : Option Errno) (trigger : Trigger) → next_of row.plan ≡ Some (act.Rmdir trigger) → rmdir_refusal s.kernel row.attach trigger ≡ e → HaveDirectories (acts.rmdir_by e s row trigger).state
  rmdir_by None trigger next may =
      let own = (next_own row.trigger row.plan (act.Rmdir trigger) (its_plan s g row is).own next).0 in
      let tokens = g.consistent.agreed.tokens in
      let current : is_current s.kernel trigger.fs row.attach ≡ true = current_then (is_current s.kernel trigger.fs row.attach) (is_indirect s.kernel trigger) _ may in
      let lasts : attach_of s.kernel row.trigger.fs ≡ Some row.attach =
      ap (λ (x : Trigger). attach_of s.kernel x.fs) (sym own) ∙ attach_from_current s.kernel trigger.fs row.attach g.consistent.agreed.given.rise current in
      let mine = token_at_work s.kernel s.daemon tokens row.token row is lasts in
      let on_mine : row.trigger ≡ mine.token.trigger = mine.trigger (token_named s.kernel g.named row.token mine.token mine.is_open) in
      goes s g row is came.Done (without_directory trigger s.kernel)
      (λ number r differs found current entry mount named.
      let theirs = token_at_work s.kernel s.daemon tokens number r found current in
      let on_theirs : r.trigger ≡ theirs.token.trigger = theirs.trigger (token_named s.kernel g.named r.token theirs.token theirs.is_open) in
      let apart : same_trigger trigger r.trigger ≡ false =
      false_unless_true (same_trigger trigger r.trigger) (λ both.
      let one : mine.token.trigger ≡ theirs.token.trigger = sym on_mine ∙ sym own ∙ equal_by_same_trigger trigger r.trigger both ∙ on_theirs in
      let same : row.token ≡ r.token = tokens.once row.token r.token mine.token theirs.token mine.is_open theirs.is_open (subst (λ (x : Trigger). same_trigger mine.token.trigger x ≡ true) one (same_trigger_itself mine.token.trigger)) in
      let number_is : r.token ≡ number = equal_by_test r.token number (found_passes (λ (x : JobPlan). x.token == number) s.daemon.jobs r found) in
      let equal : (number == row.token) ≡ true = subst (λ (n : ℕ). (number == n) ≡ true) (sym (same ∙ number_is)) (equal_to_itself number) in
      absurd cc) in
      any_kept (λ (x : Trigger). same_trigger x r.trigger) (λ (x : Trigger). not (same_trigger x trigger)) s.kernel.triggers.made
      (λ x at. not_where_false (same_trigger x trigger) (ap (λ (y : Trigger). same_trigger y trigger) (equal_by_same_trigger x r.trigger at) ∙ same_trigger_either_way r.trigger trigger ∙ apart))
      ∙ h number r found current entry mount named)
      (own_after s g row is came.Done (without_directory trigger s.kernel) (act.Rmdir trigger) next tt)
  rmdir_by (Some errnos.ENOENT) trigger next may = on came.Done s.kernel (act.Rmdir trigger) next tt (λ fs. refl) refl
  rmdir_by (Some errnos.EBUSY) trigger next may = on came.Done s.kernel (act.Rmdir trigger) next tt (λ fs. refl) refl
  rmdir_by (Some _) trigger next may = h

  where_not_refused : (b : Bool) (e : Errno) (o : EventOutcome) → HaveDirectories o.state → HaveDirectories (if not b then refused s e else o).state
  where_not_refused true e o done = done
  where_not_refused false e o done = h

  by_act : (a : Option Act) (failure : Option FailNo) → next_of row.plan ≡ a → HaveDirectories (acts.acted a s row failure).state
  by_act None failure next = h
  by_act (Some (act.Mkdir trigger)) failure next = mkdir_by (mkdir_refusal s.kernel row.attach trigger) trigger next refl
  by_act (Some (act.Mount trigger entry)) failure next = where_not_refused (is_current s.kernel trigger.fs row.attach) errnos.EPERM (acts.mount_tried failure s row trigger) (mount_tried failure trigger entry next)
  by_act (Some (act.Umount trigger)) failure next = where_not_refused (is_current s.kernel trigger.fs row.attach) errnos.EPERM (acts.umount_tried failure s row trigger) (umount_tried failure trigger next)
  by_act (Some (act.Rmdir trigger)) failure next = rmdir_by (rmdir_refusal s.kernel row.attach trigger) trigger next refl
  by_act (Some (act.Record trigger entry)) failure next = where_not_refused (holds s.daemon row.trigger.fs row.attach) errnos.EPERM _ (on came.Done s.kernel (act.Record trigger entry) next tt (λ fs. refl) refl)
  by_act (Some (act.Reply status)) failure next = reply_by (answer_refusal s.kernel row.attach row.token) status next

acted_at : (s : State) → IsGrounded s → HaveDirectories s → (job : ℕ) (failure : Option FailNo) (o : Option JobPlan) → job_of s.daemon.jobs job ≡ o → HaveDirectories (acts.acted_at o s failure).state
acted_at s g h job failure None is = h
acted_at s g h job failure (Some row) is =
    let own : job_of s.daemon.jobs row.token ≡ Some row = ap (job_of s.daemon.jobs) (equal_by_test row.token job (found_passes (λ (r : JobPlan). r.token == job) s.daemon.jobs row is)) ∙ is in
    by_act s g row own h (next_of row.plan) failure refl

-- ---- each event

others_known : (s : State) (event : Event) → is_act event ≡ false → IsKnown AnyPath NoJob s event
others_known s (events.Act job failure) e = absurd cc
others_known s (events.Walk walker ns path now pipe) e = tt
others_known s (events.Resume walker now pipe) e = λ other row is. tt
others_known s _ e = tt

by_event : (s : State) (event : Event) → IsGrounded s → HaveDirectories s → (b : Bool) → is_act event ≡ b → HaveDirectories (outcome_of s event).state
by_event s (events.Act job failure) g h true e = acted_at s g h job failure (job_of s.daemon.jobs job) refl
by_event s (events.Act job failure) g h false e = absurd cc
by_event s _ g h true e = absurd cc
by_event s event g h false e = (tours.outcome AnyPath NoJob StaysBy Keeps events_keep s event (others_known s event e)).well.keeps g h

pub outcome_directories : (s : State) (event : Event) → IsGrounded s → HaveDirectories s → HaveDirectories (outcome_of s event).state
outcome_directories s event g h = by_event s event g h (is_act event) refl
