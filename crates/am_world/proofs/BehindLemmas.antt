-- No outcome reads the trace: an event comes to the same, whatever was observed before it.
use Rattle.std.proofs.Common.{◌≡◌, Bool, true, false, ℕ, List, Option, Some, None, refl, sym, ap, ◌∙◌, subst, inl, inr}
use Rattle.std.specs.Prelude.{Result, Ok, Err, ◌++◌, not, is_some, if◌then◌else◌}
use Rattle.std.proofs.lemmas.List.{append_assoc}
use Rattle.am_names.specs.{Status}
use Rattle.am_names.specs.declared.errno.Errno.{Errno}
use Rattle.am_names.specs.declared.errno.Errno.TheVariants.{EBUSY, EEXIST, ENOENT}
use Rattle.am_names.specs.declared.fail_no.FailNo.{FailNo}
use Rattle.am_names.specs.declared.trigger.Trigger.{Trigger}
use Rattle.am_state.specs.{Obs, QueuedRow}
use Rattle.am_group.specs.{MountState}
use Rattle.am_propagate.specs.{copy_refusal, drop_refusal}
use Rattle.am_wait.specs.{token_of}
use Rattle.am_expire.specs.{is_used, leave_refusal}
use Rattle.am_job.specs.{Act, next_of}
use Rattle.am_job.specs.declared.act.Act.TheVariants as act
use Rattle.am_daemon.specs.{JobPlan, Point, job_of, holds, point_of}
use Rattle.am_kernel.specs.CallOutcome as kernel
use Rattle.am_kernel.specs.Expires as expires
use Rattle.am_kernel.specs.Resumes as resumes
use Rattle.am_kernel.specs.Walks as walks
use Rattle.am_kernel.specs.{admin_catatonic_refusal, answer_refusal, bind_refusal, catatonic_refusal, fs_of_attach, is_current, is_trigger, kind_at, kind_refusal, mkdir_refusal, mount_on_refusal, mount_refusal, plain_change_refusal, plain_umount_refusal, queued_of, rmdir_refusal, timeout_refusal, umount_from_refusal}
use Rattle.am_machine.specs.{Answer, Event, acted, acted_at, attach_refusal, attached_as, delivered_at, goes, kind_told, may_take, mkdir_by, mount_by, mount_tried, outcome_of, reattach_refused, reply_by, rmdir_by, umount_by, umount_tried, unless}
use Rattle.am_machine.specs.declared.event.Event.TheVariants as events
use Rattle.am_machine.specs.State.{State}
use Rattle.am_machine.specs.EventOutcome.{EventOutcome}
use Rattle.am_world.specs.{Yields, behind}

-- the state with this trace
abbrev pub traced : List Obs → State → State
traced x s = record s { trace = x }

-- the outcome in that state
abbrev pub so_traced : List Obs → EventOutcome → EventOutcome
so_traced x o = record o { state = traced x o.state }

unless_traced : (x : List Obs) (f : Option Errno) (s : State) (done later : EventOutcome) → later ≡ so_traced x done → unless f (traced x s) later ≡ so_traced x (unless f s done)
unless_traced x (Some e) s done later h = refl
unless_traced x None s done later h = h

if_traced : (x : List Obs) (c : Bool) (done other later elsewhere : EventOutcome) → later ≡ so_traced x done → elsewhere ≡ so_traced x other →
    (if c then later else elsewhere) ≡ so_traced x (if c then done else other)
if_traced x true done other later elsewhere a b = a
if_traced x false done other later elsewhere a b = b

goes_traced : (x : List Obs) (o : kernel.CallOutcome) (s : State) → goes o (traced x s) ≡ so_traced x (goes o s)
goes_traced x (kernel.Proceeds progress shown made) s = refl
goes_traced x (kernel.Fails e) s = refl

attached_traced : (x : List Obs) (point : Option Point) (s : State) (path : List (List ℕ)) → attached_as point (traced x s) path ≡ so_traced x (attached_as point s path)
attached_traced x None s path = refl
attached_traced x (Some point) s path = unless_traced x (attach_refusal s path) s _ _ refl

kind_traced : (x : List Obs) (kind : Option MountState) (s : State) → kind_told kind (traced x s) ≡ so_traced x (kind_told kind s)
kind_traced x None s = refl
kind_traced x (Some kind) s = refl

delivered_traced : (x : List Obs) (row : Option QueuedRow) (s : State) (bytes : Option (List ℕ)) → delivered_at row (traced x s) bytes ≡ so_traced x (delivered_at row s bytes)
delivered_traced x None s bytes = refl
delivered_traced x (Some row) s bytes = if_traced x (may_take s row bytes) _ _ _ _ refl refl

-- ---- the acts of jobs

mkdir_traced : (x : List Obs) (f : Option Errno) (s : State) (row : JobPlan) (trigger : Trigger) → mkdir_by f (traced x s) row trigger ≡ so_traced x (mkdir_by f s row trigger)
mkdir_traced x None s row trigger = refl
mkdir_traced x (Some EEXIST) s row trigger = refl
mkdir_traced x (Some _) s row trigger = refl

mount_traced : (x : List Obs) (f : Option Errno) (s : State) (row : JobPlan) (trigger : Trigger) → mount_by f (traced x s) row trigger ≡ so_traced x (mount_by f s row trigger)
mount_traced x None s row trigger = refl
mount_traced x (Some e) s row trigger = refl

mount_tried_traced : (x : List Obs) (failure : Option FailNo) (s : State) (row : JobPlan) (trigger : Trigger) → mount_tried failure (traced x s) row trigger ≡ so_traced x (mount_tried failure s row trigger)
mount_tried_traced x (Some error) s row trigger = refl
mount_tried_traced x None s row trigger = mount_traced x (mount_on_refusal s.kernel row.attach trigger) s row trigger

umount_traced : (x : List Obs) (f : Option Errno) (s : State) (row : JobPlan) (trigger : Trigger) → umount_by f (traced x s) row trigger ≡ so_traced x (umount_by f s row trigger)
umount_traced x None s row trigger = refl
umount_traced x (Some e) s row trigger = refl

umount_tried_traced : (x : List Obs) (failure : Option FailNo) (s : State) (row : JobPlan) (trigger : Trigger) → umount_tried failure (traced x s) row trigger ≡ so_traced x (umount_tried failure s row trigger)
umount_tried_traced x (Some error) s row trigger = refl
umount_tried_traced x None s row trigger = umount_traced x (umount_from_refusal s.kernel row.attach trigger) s row trigger

rmdir_traced : (x : List Obs) (f : Option Errno) (s : State) (row : JobPlan) (trigger : Trigger) → rmdir_by f (traced x s) row trigger ≡ so_traced x (rmdir_by f s row trigger)
rmdir_traced x None s row trigger = refl
rmdir_traced x (Some ENOENT) s row trigger = refl
rmdir_traced x (Some EBUSY) s row trigger = refl
rmdir_traced x (Some _) s row trigger = refl

reply_traced : (x : List Obs) (f : Option Errno) (s : State) (row : JobPlan) (status : Status) → reply_by f (traced x s) row status ≡ so_traced x (reply_by f s row status)
reply_traced x (Some e) s row status = refl
reply_traced x None s row status = refl

acted_traced : (x : List Obs) (next : Option Act) (s : State) (row : JobPlan) (failure : Option FailNo) → acted next (traced x s) row failure ≡ so_traced x (acted next s row failure)
acted_traced x None s row failure = refl
acted_traced x (Some (act.Mkdir trigger)) s row failure = mkdir_traced x (mkdir_refusal s.kernel row.attach trigger) s row trigger
acted_traced x (Some (act.Mount trigger entry)) s row failure =
    if_traced x (not (is_current s.kernel trigger.fs row.attach)) _ _ _ _ refl (mount_tried_traced x failure s row trigger)
acted_traced x (Some (act.Umount trigger)) s row failure =
    if_traced x (not (is_current s.kernel trigger.fs row.attach)) _ _ _ _ refl (umount_tried_traced x failure s row trigger)
acted_traced x (Some (act.Rmdir trigger)) s row failure = rmdir_traced x (rmdir_refusal s.kernel row.attach trigger) s row trigger
acted_traced x (Some (act.Record trigger entry)) s row failure = if_traced x (not (holds s.daemon row.trigger.fs row.attach)) _ _ _ _ refl refl
acted_traced x (Some (act.Reply status)) s row failure = reply_traced x (answer_refusal s.kernel row.attach row.token) s row status

acted_at_traced : (x : List Obs) (row : Option JobPlan) (s : State) (failure : Option FailNo) → acted_at row (traced x s) failure ≡ so_traced x (acted_at row s failure)
acted_at_traced x None s failure = refl
acted_at_traced x (Some row) s failure = acted_traced x (next_of row.plan) s row failure

-- ---- all events

pub outcome_traced : (x : List Obs) (s : State) (event : Event) → outcome_of (traced x s) event ≡ so_traced x (outcome_of s event)
outcome_traced x s (events.Attach path) = attached_traced x (point_of s.daemon path) s path
outcome_traced x s (events.Mount ns path) = unless_traced x (mount_refusal s.kernel ns path) s _ _ refl
outcome_traced x s (events.Bind ns from to) = unless_traced x (bind_refusal s.kernel ns from to) s _ _ refl
outcome_traced x s (events.Umount ns path) = unless_traced x (plain_umount_refusal s.kernel ns path) s _ _ refl
outcome_traced x s (events.Change ns path change) = unless_traced x (plain_change_refusal change s.kernel ns path) s _ _ refl
outcome_traced x s (events.Kind ns path) = unless_traced x (kind_refusal s.kernel ns path) s _ _ (kind_traced x (kind_at s.kernel ns path) s)
outcome_traced x s (events.CopyNamespace ns form) = unless_traced x (copy_refusal ns s.kernel.table) s _ _ refl
outcome_traced x s (events.DropNamespace ns) = unless_traced x (drop_refusal (is_used s.kernel.uses) ns s.kernel.table) s _ _ refl
outcome_traced x s (events.Walk walker ns path now pipe) = goes_traced x (walks.walk_outcome pipe s.kernel walker ns path now) s
outcome_traced x s (events.Resume walker now pipe) = goes_traced x (resumes.resume_outcome pipe s.kernel walker now) s
outcome_traced x s (events.Leave walker) = unless_traced x (leave_refusal walker s.kernel.uses) s _ _ refl
outcome_traced x s (events.Expire walker fs now immediate pipe) = goes_traced x (expires.expire_outcome pipe s.kernel walker fs now immediate) s
outcome_traced x s (events.Deliver token bytes) = delivered_traced x (queued_of s.kernel.queue token) s bytes
outcome_traced x s (events.Act job failure) = acted_at_traced x (job_of s.daemon.jobs job) s failure
outcome_traced x s (events.Repeat attach token status) =
    if_traced x (not (is_some (fs_of_attach s.kernel attach))) _ _ _ _ refl (if_traced x (is_some (token_of s.kernel.waits.tokens token)) _ _ _ _ refl refl)
outcome_traced x s (events.Catatonic attach fs) = unless_traced x (catatonic_refusal s.kernel attach fs) s _ _ refl
outcome_traced x s (events.AdminCatatonic fs) = unless_traced x (admin_catatonic_refusal s.kernel fs) s _ _ refl
outcome_traced x s (events.Timeout attach fs timeout) = unless_traced x (timeout_refusal s.kernel attach fs) s _ _ refl
outcome_traced x s events.Die = refl
outcome_traced x s (events.Reattach fs) = unless_traced x (reattach_refused s fs) s _ _ refl
outcome_traced x s (events.Record trigger) = if_traced x (not (is_trigger s.kernel trigger)) _ _ _ _ refl refl

-- what becomes of an event, behind other observations
yields_behind : (gone : List Obs) (o : EventOutcome) (s : State) (came : Result Answer Errno) (new : State) → Yields o s came new →
    Yields (so_traced (gone ++ s.trace) o) (behind gone s) came (behind gone new)
yields_behind gone o s (Ok answer) new h =
    (h.0, ap (behind gone) h.1 ∙ ap (λ (t : List Obs). traced t o.state) (sym (append_assoc gone s.trace o.seen)))
yields_behind gone o s (Err e) new h = (
  ap (behind gone) h.0,
  elim h.1 [
    | inl none ↦ inl none
    | inr is ↦ inr (ap (so_traced (gone ++ s.trace)) is)
  ],
)

pub comes_behind : (gone : List Obs) (s : State) (event : Event) (came : Result Answer Errno) (new : State) → Yields (outcome_of s event) s came new →
    Yields (outcome_of (behind gone s) event) (behind gone s) came (behind gone new)
comes_behind gone s event came new h =
    subst (λ (o : EventOutcome). Yields o (behind gone s) came (behind gone new)) (sym (outcome_traced (gone ++ s.trace) s event))
    (yields_behind gone (outcome_of s event) s came new h)

-- the same answer
pub answer_behind : (gone : List Obs) (s : State) (event : Event) → (outcome_of (behind gone s) event).answer ≡ (outcome_of s event).answer
answer_behind gone s event = ap (λ (o : EventOutcome). o.answer) (outcome_traced (gone ++ s.trace) s event)
