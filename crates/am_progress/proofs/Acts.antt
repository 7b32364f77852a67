-- The next act of a job is done or fails.
use Rattle.std.proofs.Common.{◌≡◌, ℕ, ◌+◌, Bool, true, false, List, [], Option, Some, None, refl, sym, ap, subst, inl, inr, ◌∙◌}
use Rattle.std.specs.Prelude.{◌&&◌, not, is_some, is_none, if◌then◌else◌}
use Rattle.std.specs.Option.{option_map}
use Rattle.std.specs.List.{All}
use Rattle.std.proofs.lemmas.List.Elements.{All-weaker}
use Rattle.am_names.specs.declared.fail_no.FailNo.TheVariants.{ENOENT}
use Rattle.am_names.specs.declared.fail_no.FailNo.{FailNo}
use Rattle.am_names.specs.declared.errno.Errno.{Errno}
use Rattle.am_names.specs.declared.errno.Errno.TheVariants as errnos
use Rattle.am_names.specs.declared.trigger.Trigger.{Trigger}
use Rattle.am_names.specs.{Status, OpenToken}
use Rattle.am_names.proofs.Basics.{equal_to_itself}
use Rattle.am_map.specs.EntryText.{EntryText}
use Rattle.am_state.specs.{Record, Obs}
use Rattle.am_trigger.specs.{Autofs}
use Rattle.am_trigger.specs.Rows as triggers
use Rattle.am_wait.specs.{WaitRows, answered}
use Rattle.am_kernel.specs.{KernelState, attach_of, is_current, or_else, is_trigger_of, names_directory, is_indirect, is_mountpoint, directory_refusal, mkdir_refusal, with_directory, rmdir_refusal, without_directory, mount_on_refusal, with_mount_on, umount_from_refusal, gone_from, without_mounts, token_fs, is_number, answer_tests, answer_refusal, acknowledged}
use Rattle.am_job.specs.{Act, Plan, Ended, Next, next_of, AcknowledgesLast}
use Rattle.am_job.specs.declared.act.Act.TheVariants as act
use Rattle.am_job.specs.declared.act.Outcome as outcomes
use Rattle.am_job.specs.declared.act.Outcome.TheVariants as came
use Rattle.am_daemon.specs.{JobPlan, attach_held, holds, finished_in, finished, job_of}
use Rattle.am_daemon.proofs.JobLemmas.{others_stay}
use Rattle.am_machine.specs.declared.event.Event.TheVariants as events
use Rattle.am_machine.specs.{Answer, outcome_of, IsServed}
use Rattle.am_machine.specs.declared.answer.Answer.TheVariants as answers
use Rattle.am_machine.specs.State.{State}
use Rattle.am_machine.specs.EventOutcome.{EventOutcome}
use Rattle.am_machine.specs.Events.Acts as acts
use Rattle.am_progress.specs.{TellsOf, FailsAs, goes_on_as, IsActed, JobsCanGoOn, NextActsAreNeverRefused, HasFewActs, JobsHaveFiveActs}
use Rattle.am_progress.proofs.Attaches.{fs_of_current}
use Rattle.am_progress.proofs.Plans.{IsOwn, IsOfPlan, next_own, packet_plan}
use Rattle.am_progress.proofs.Packets.{holds_held}
use Rattle.am_progress.proofs.Worlds.{IsWorld, after_runs}
use Rattle.am_progress.proofs.Left.{left_is}
use Rattle.am_progress.proofs.Jobs.{Acting, job_number, its_plan, its_acts, its_token, its_site, its_current}

-- ---- what an act does

-- the open tokens and the waits after an act
abbrev pub waits_after : Act → ℕ → WaitRows → WaitRows
waits_after (act.Reply status) token w = answered token status w
waits_after _ token w = w

-- what it leaves of the kernel, where that is to be known
abbrev pub LeavesKernel : Act → outcomes.Outcome → ℕ → KernelState → KernelState → Type 0
LeavesKernel (act.Umount trigger) (came.Failed error) token k made = made ≡ k
LeavesKernel (act.Record trigger entry) outcome token k made = made ≡ k
LeavesKernel (act.Reply status) outcome token k made = made ≡ acknowledged token status k
LeavesKernel _ outcome token k made = made.failures ≡ k.failures

pub record Does (s : State) (row : JobPlan) (a : Act) (o : EventOutcome) : Type 0 where
  pub came : outcomes.Outcome
  pub answer : Answer
  pub shown : List Obs
  pub made : KernelState
  pub is : o ≡ acts.goes_on s row came answer shown made
  pub told : TellsOf a came answer
  pub waits : made.waits ≡ waits_after a row.token s.kernel.waits
  pub attaches : (fs : ℕ) → attach_of made fs ≡ attach_of s.kernel fs
  pub leaves : LeavesKernel a came row.token s.kernel made

-- the second of two outcomes, where the test of the first fails
does_where_not_refused : (s : State) (row : JobPlan) (a : Act) (b : Bool) (first second : EventOutcome) → b ≡ true → Does s row a second → Does s row a (if not b then first else second)
does_where_not_refused s row a true first second e h = h
does_where_not_refused s row a false first second e h = absurd cc

-- ---- directories

indirect_by_cases : (name : Option (List ℕ)) (direct : Bool) → (if direct then is_none name else is_some name) ≡ true → is_some name ≡ true → (not direct && is_some name) ≡ true
indirect_by_cases (Some name) true h some = absurd cc
indirect_by_cases None direct h some = absurd cc
indirect_by_cases (Some name) false h some = refl

indirect_of : (o : Option Autofs) (g : Trigger) → is_trigger_of o g ≡ true → is_some g.name ≡ true → names_directory o g ≡ true
indirect_of None g h some = absurd cc
indirect_of (Some row) g h some = indirect_by_cases g.name row.direct h some

directory_by_cases : (current indirect : Bool) → current ≡ true → indirect ≡ true → (if not current then Some errnos.EPERM else if not indirect then Some errnos.EINVAL else None) ≡ None
directory_by_cases true true c i = refl
directory_by_cases true false c i = absurd cc
directory_by_cases false indirect c i = absurd cc

pub directory_fine : (s : State) (number : ℕ) (row : JobPlan) → Acting s number row → is_some row.trigger.name ≡ true → directory_refusal s.kernel row.attach row.trigger ≡ None
directory_fine s number row w named =
    directory_by_cases (is_current s.kernel row.trigger.fs row.attach) (is_indirect s.kernel row.trigger) (its_current s number row w)
    (indirect_of (triggers.autofs_of s.kernel.triggers row.trigger.fs) row.trigger (its_site s number row w) named)

abbrev plainly : (s : State) (row : JobPlan) (a : Act) (outcome : outcomes.Outcome) (answer : Answer) (shown : List Obs) (made : KernelState) → TellsOf a outcome answer → made.waits ≡ waits_after a row.token s.kernel.waits → ((fs : ℕ) → attach_of made fs ≡ attach_of s.kernel fs) → LeavesKernel a outcome row.token s.kernel made →
    Does s row a (acts.goes_on s row outcome answer shown made)
plainly s row a outcome answer shown made told waits attaches leaves =
    record { came = outcome; answer = answer; shown = shown; made = made; is = refl; told = told; waits = waits; attaches = attaches; leaves = leaves }

mkdir_by : (made : Bool) (s : State) (row : JobPlan) (g : Trigger) → Does s row (act.Mkdir g) (acts.mkdir_by (if made then Some errnos.EEXIST else None) s row g)
mkdir_by true s row g = plainly s row (act.Mkdir g) came.Done answers.DidMkdir [] s.kernel (refl, refl) refl (λ fs. refl) refl
mkdir_by false s row g = plainly s row (act.Mkdir g) came.Done answers.DidMkdir [] (with_directory g s.kernel) (refl, refl) refl (λ fs. refl) refl

mkdir : (s : State) (number : ℕ) (row : JobPlan) → Acting s number row → is_some row.trigger.name ≡ true → Does s row (act.Mkdir row.trigger) (acts.mkdir_by (mkdir_refusal s.kernel row.attach row.trigger) s row row.trigger)
mkdir s number row w named =
    let test = triggers.mkdir_refusal row.trigger s.kernel.triggers in
    let is : mkdir_refusal s.kernel row.attach row.trigger ≡ test = ap (λ (o : Option Errno). or_else o test) (directory_fine s number row w named) in
    subst (λ (o : Option Errno). Does s row (act.Mkdir row.trigger) (acts.mkdir_by o s row row.trigger)) (sym is) (mkdir_by (triggers.is_made s.kernel.triggers row.trigger) s row row.trigger)

rmdir_by : (made mounted : Bool) (s : State) (row : JobPlan) (g : Trigger) → Does s row (act.Rmdir g) (acts.rmdir_by (or_else (if made then None else Some errnos.ENOENT) (if mounted then Some errnos.EBUSY else None)) s row g)
rmdir_by true true s row g = plainly s row (act.Rmdir g) came.Done answers.DidRmdir [] s.kernel (refl, refl) refl (λ fs. refl) refl
rmdir_by true false s row g = plainly s row (act.Rmdir g) came.Done answers.DidRmdir [] (without_directory g s.kernel) (refl, refl) refl (λ fs. refl) refl
rmdir_by false mounted s row g = plainly s row (act.Rmdir g) came.Done answers.DidRmdir [] s.kernel (refl, refl) refl (λ fs. refl) refl

rmdir : (s : State) (number : ℕ) (row : JobPlan) → Acting s number row → is_some row.trigger.name ≡ true → Does s row (act.Rmdir row.trigger) (acts.rmdir_by (rmdir_refusal s.kernel row.attach row.trigger) s row row.trigger)
rmdir s number row w named =
    let test = or_else (triggers.rmdir_refusal row.trigger s.kernel.triggers) (if is_mountpoint s.kernel row.trigger then Some errnos.EBUSY else None) in
    let is : rmdir_refusal s.kernel row.attach row.trigger ≡ test = ap (λ (o : Option Errno). or_else o test) (directory_fine s number row w named) in
    subst (λ (o : Option Errno). Does s row (act.Rmdir row.trigger) (acts.rmdir_by o s row row.trigger)) (sym is)
    (rmdir_by (triggers.is_made s.kernel.triggers row.trigger) (is_mountpoint s.kernel row.trigger) s row row.trigger)

-- ---- mounts

abbrev mount_fails : (s : State) (row : JobPlan) (g : Trigger) (entry : EntryText) (error : FailNo) → Does s row (act.Mount g entry) (acts.mount_fails s row error)
mount_fails s row g entry error = plainly s row (act.Mount g entry) (came.Failed error) answers.FailedMount [] s.kernel (inr (error, refl, refl)) refl (λ fs. refl) refl

mount_by : (refusal : Option Errno) (s : State) (row : JobPlan) (g : Trigger) (entry : EntryText) → Does s row (act.Mount g entry) (acts.mount_by refusal s row g)
mount_by None s row g entry =
    let mount = s.kernel.table.last_mount + 1 in
    plainly s row (act.Mount g entry) (came.Made mount) (answers.DidMount mount) _ (with_mount_on g s.kernel) (inl (mount, refl, refl)) refl (λ fs. refl) refl
mount_by (Some e) s row g entry = mount_fails s row g entry ENOENT

mount_tried : (failure : Option FailNo) (s : State) (row : JobPlan) (g : Trigger) (entry : EntryText) → Does s row (act.Mount g entry) (acts.mount_tried failure s row g)
mount_tried (Some error) s row g entry = mount_fails s row g entry error
mount_tried None s row g entry = mount_by (mount_on_refusal s.kernel row.attach g) s row g entry

mount : (s : State) (number : ℕ) (row : JobPlan) (entry : EntryText) (failure : Option FailNo) → Acting s number row → Does s row (act.Mount row.trigger entry) (acts.mount_act s row row.trigger failure)
mount s number row entry failure w =
    does_where_not_refused s row (act.Mount row.trigger entry) (is_current s.kernel row.trigger.fs row.attach) _ _ (its_current s number row w)
    (mount_tried failure s row row.trigger entry)

abbrev umount_fails : (s : State) (row : JobPlan) (g : Trigger) (error : FailNo) → Does s row (act.Umount g) (acts.umount_fails s row error)
umount_fails s row g error = plainly s row (act.Umount g) (came.Failed error) answers.FailedUmount [] s.kernel (inr (error, refl, refl)) refl (λ fs. refl) refl

umount_by : (refusal : Option Errno) (s : State) (row : JobPlan) (g : Trigger) → Does s row (act.Umount g) (acts.umount_by refusal s row g)
umount_by None s row g = plainly s row (act.Umount g) came.Done answers.DidUmount _ (without_mounts (gone_from s.kernel g) s.kernel) (inl (refl, refl)) refl (λ fs. refl) refl
umount_by (Some e) s row g = umount_fails s row g ENOENT

umount_tried : (failure : Option FailNo) (s : State) (row : JobPlan) (g : Trigger) → Does s row (act.Umount g) (acts.umount_tried failure s row g)
umount_tried (Some error) s row g = umount_fails s row g error
umount_tried None s row g = umount_by (umount_from_refusal s.kernel row.attach g) s row g

umount : (s : State) (number : ℕ) (row : JobPlan) (failure : Option FailNo) → Acting s number row → Does s row (act.Umount row.trigger) (acts.umount_act s row row.trigger failure)
umount s number row failure w =
    does_where_not_refused s row (act.Umount row.trigger) (is_current s.kernel row.trigger.fs row.attach) _ _ (its_current s number row w)
    (umount_tried failure s row row.trigger)

-- ---- the book, and the reply

writes : (s : State) (number : ℕ) (row : JobPlan) (g : Trigger) (entry : Option Record) → Acting s number row → Does s row (act.Record g entry) (acts.record_act s row g entry)
writes s number row g entry w =
    does_where_not_refused s row (act.Record g entry) (holds s.daemon row.trigger.fs row.attach) _ _ w.held
    (plainly s row (act.Record g entry) came.Done answers.DidRecord _ s.kernel (refl, refl) refl (λ fs. refl) refl)

reply_fine : (s : State) (number : ℕ) (row : JobPlan) → Acting s number row → answer_refusal s.kernel row.attach row.token ≡ None
reply_fine s number row w =
    let k = s.kernel in
    let fs = row.trigger.fs in
    let token = its_token s number row w in
    let of_fs : token_fs k row.token ≡ Some fs = ap (option_map (λ (r : OpenToken). r.trigger.fs)) token.is_open ∙ ap (λ (n : ℕ). Some n) (sym token.fs) in
    ap (λ (o : Option ℕ). answer_tests o k row.token) (fs_of_current k fs row.attach w.world.holds.kernel.attaches (its_current s number row w))
    ∙ ap (λ (o : Option ℕ). if is_number o fs then None else Some errnos.EINVAL) of_fs
    ∙ ap (λ (b : Bool). if b then None else Some errnos.EINVAL) (equal_to_itself fs)

replies : (s : State) (number : ℕ) (row : JobPlan) (status : Status) → Acting s number row → Does s row (act.Reply status) (acts.reply_by (answer_refusal s.kernel row.attach row.token) s row status)
replies s number row status w =
    subst (λ (o : Option Errno). Does s row (act.Reply status) (acts.reply_by o s row status)) (sym (reply_fine s number row w))
    (plainly s row (act.Reply status) came.Done answers.DidReply _ (acknowledged row.token status s.kernel) (refl, refl) refl (λ fs. refl) refl)

-- ---- each act

does_next : (a : Act) (s : State) (number : ℕ) (row : JobPlan) (failure : Option FailNo) → Acting s number row → IsOwn row.trigger a → Does s row a (acts.acted (Some a) s row failure)
does_next (act.Mkdir g) s number row failure w own = subst (λ (t : Trigger). Does s row (act.Mkdir t) (acts.mkdir_by (mkdir_refusal s.kernel row.attach t) s row t)) (sym own.0) (mkdir s number row w own.1)
does_next (act.Mount g entry) s number row failure w own = subst (λ (t : Trigger). Does s row (act.Mount t entry) (acts.mount_act s row t failure)) (sym own) (mount s number row entry failure w)
does_next (act.Umount g) s number row failure w own = subst (λ (t : Trigger). Does s row (act.Umount t) (acts.umount_act s row t failure)) (sym own) (umount s number row failure w)
does_next (act.Rmdir g) s number row failure w own = subst (λ (t : Trigger). Does s row (act.Rmdir t) (acts.rmdir_by (rmdir_refusal s.kernel row.attach t) s row t)) (sym own.0) (rmdir s number row w own.1)
does_next (act.Record g entry) s number row failure w own = writes s number row g entry w
does_next (act.Reply status) s number row failure w own = replies s number row status w

-- the next act of the job is done or fails
pub does : (s : State) (number : ℕ) (row : JobPlan) (failure : Option FailNo) (a : Act) → Acting s number row → next_of row.plan ≡ Some a → Does s row a (outcome_of s (events.Act number failure))
does s number row failure a w e =
    subst (Does s row a) (sym (ap (λ (o : Option JobPlan). acts.acted_at o s failure) w.is_job ∙ ap (λ (o : Option Act). acts.acted o s row failure) e))
    (does_next a s number row failure w (next_own row.trigger row.plan a (its_acts s number row w).own e))

-- what is left of the jobs then
pub goes_left : (s : State) (number : ℕ) (row : JobPlan) (outcome : outcomes.Outcome) → Acting s number row → job_of (finished row.token outcome s.daemon).jobs number ≡ goes_on_as outcome row
goes_left s number row outcome w =
    subst (λ (n : ℕ). job_of (finished_in n outcome s.daemon.jobs) number ≡ goes_on_as outcome row) (sym (job_number s number row w))
    (left_is number outcome row s.daemon.jobs w.world.consistent.agreed.tokens.numbers w.is_job)

-- ---- the failure that is told

-- the act is done or fails, and fails by what is told
record DoesAs (s : State) (row : JobPlan) (a : Act) (failure : Option FailNo) (o : EventOutcome) : Type 0 where
  does : Does s row a o
  fails : FailsAs a failure does.came

as_where_not_refused : (s : State) (row : JobPlan) (a : Act) (failure : Option FailNo) (b : Bool) (first second : EventOutcome) → b ≡ true → DoesAs s row a failure second → DoesAs s row a failure (if not b then first else second)
as_where_not_refused s row a failure true first second e h = h
as_where_not_refused s row a failure false first second e h = absurd cc

mount_as : (failure : Option FailNo) (s : State) (number : ℕ) (row : JobPlan) (entry : EntryText) → Acting s number row → DoesAs s row (act.Mount row.trigger entry) failure (acts.mount_act s row row.trigger failure)
mount_as None s number row entry w = record { does = mount s number row entry None w; fails = tt }
mount_as (Some error) s number row entry w =
    as_where_not_refused s row (act.Mount row.trigger entry) (Some error) (is_current s.kernel row.trigger.fs row.attach) _ _ (its_current s number row w)
    (record { does = mount_fails s row row.trigger entry error; fails = refl })

umount_as : (failure : Option FailNo) (s : State) (number : ℕ) (row : JobPlan) → Acting s number row → DoesAs s row (act.Umount row.trigger) failure (acts.umount_act s row row.trigger failure)
umount_as None s number row w = record { does = umount s number row None w; fails = tt }
umount_as (Some error) s number row w =
    as_where_not_refused s row (act.Umount row.trigger) (Some error) (is_current s.kernel row.trigger.fs row.attach) _ _ (its_current s number row w)
    (record { does = umount_fails s row row.trigger error; fails = refl })

does_next_as : (a : Act) (s : State) (number : ℕ) (row : JobPlan) (failure : Option FailNo) → Acting s number row → IsOwn row.trigger a → DoesAs s row a failure (acts.acted (Some a) s row failure)
does_next_as (act.Mkdir g) s number row failure w own = record { does = does_next (act.Mkdir g) s number row failure w own; fails = tt }
does_next_as (act.Mount g entry) s number row failure w own = subst (λ (t : Trigger). DoesAs s row (act.Mount t entry) failure (acts.mount_act s row t failure)) (sym own) (mount_as failure s number row entry w)
does_next_as (act.Umount g) s number row failure w own = subst (λ (t : Trigger). DoesAs s row (act.Umount t) failure (acts.umount_act s row t failure)) (sym own) (umount_as failure s number row w)
does_next_as (act.Rmdir g) s number row failure w own = record { does = does_next (act.Rmdir g) s number row failure w own; fails = tt }
does_next_as (act.Record g entry) s number row failure w own = record { does = does_next (act.Record g entry) s number row failure w own; fails = tt }
does_next_as (act.Reply status) s number row failure w own = record { does = does_next (act.Reply status) s number row failure w own; fails = tt }

does_as : (s : State) (number : ℕ) (row : JobPlan) (failure : Option FailNo) (a : Act) → Acting s number row → next_of row.plan ≡ Some a → DoesAs s row a failure (outcome_of s (events.Act number failure))
does_as s number row failure a w e =
    subst (DoesAs s row a failure) (sym (ap (λ (o : Option JobPlan). acts.acted_at o s failure) w.is_job ∙ ap (λ (o : Option Act). acts.acted o s row failure) e))
    (does_next_as a s number row failure w (next_own row.trigger row.plan a (its_acts s number row w).own e))

acted_as : (s : State) (number : ℕ) (row : JobPlan) (failure : Option FailNo) (a : Act) (o : EventOutcome) → Acting s number row → next_of row.plan ≡ Some a → DoesAs s row a failure o → IsActed number row failure s.daemon o
acted_as s number row failure a o w e told =
    let d = told.does in
    subst (IsActed number row failure s.daemon) (sym d.is) (record {
      act = a;
      is_next = e;
      came = d.came;
      told = d.told;
      fails = told.fails;
      left = goes_left s number row d.came w;
      others = λ other differs.
          subst (λ (n : ℕ). job_of (finished_in n d.came s.daemon.jobs) other ≡ job_of s.daemon.jobs other) (sym (job_number s number row w))
          (others_stay s.daemon.jobs number d.came other differs);
    })

-- a plan that has still to acknowledge has an act left
pub next_is : (plan : Plan) → AcknowledgesLast plan → (a : Act) × (next_of plan ≡ Some a)
next_is Ended h = absurd h
next_is (Next a rest) h = (a, refl)

pub acting : (s : State) → IsWorld s → (fs attach : ℕ) → IsServed s.kernel s.daemon fs attach → (number : ℕ) (row : JobPlan) → job_of s.daemon.jobs number ≡ Some row → row.trigger.fs ≡ fs → row.attach ≡ attach → Acting s number row
acting s world fs attach served number row is same own = record {
  world = world;
  is_job = is;
  current = ap (attach_of s.kernel) same ∙ served.current ∙ ap (λ (n : ℕ). Some n) (sym own);
  held = holds_held s.daemon row.trigger.fs row.attach (ap (attach_held s.daemon) same ∙ served.held ∙ ap (λ (n : ℕ). Some n) (sym own));
}

jobs_go_on : (s : State) → IsWorld s → JobsCanGoOn s
jobs_go_on s world fs attach served number row is same own failure =
    let w = acting s world fs attach served number row is same own in
    let next = next_is row.plan (its_plan s number row w).last in
    acted_as s number row failure next.0 (outcome_of s (events.Act number failure)) w next.1 (does_as s number row failure next.0 w next.1)

pub never_refused : NextActsAreNeverRefused
never_refused = after_runs JobsCanGoOn jobs_go_on

-- ---- how many there are

jobs_short : (s : State) → IsWorld s → All HasFewActs s.daemon.jobs
jobs_short s w = All-weaker IsOfPlan HasFewActs (λ row h. h.few) s.daemon.jobs w.holds.plans

pub five_acts : JobsHaveFiveActs
five_acts = record { attempts = packet_plan; each = after_runs (λ (s : State). All HasFewActs s.daemon.jobs) jobs_short }
