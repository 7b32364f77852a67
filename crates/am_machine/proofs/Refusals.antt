-- What is refused changes nothing, and the latest moment never goes back.
use Rattle.std.proofs.Common.{◌≡◌, ◌∙◌, ℕ, ◌≤◌, Bool, true, false, not, List, [], ◌++◌, Option, Some, None, refl, sym, ap, subst, inl, inr, arith}
use Rattle.std.specs.Prelude.{is_some, Result, Ok, Err, if◌then◌else◌}
use Rattle.std.proofs.lemmas.List.{append-nil}
use Rattle.am_names.specs.declared.fail_no.FailNo.{FailNo}
use Rattle.am_names.specs.declared.errno.Errno.{Errno}
use Rattle.am_names.specs.declared.errno.Errno.TheVariants as errnos
use Rattle.am_names.specs.{Position, Status}
use Rattle.am_names.specs.declared.trigger.Trigger.{Trigger}
use Rattle.am_state.specs.{QueuedRow, Obs}
use Rattle.am_group.specs.{MountState}
use Rattle.am_propagate.specs.{copy_refusal, drop_refusal}
use Rattle.am_wait.specs.{token_of}
use Rattle.am_expire.specs.{is_used, leave_refusal}
use Rattle.am_kernel.specs.{KernelState, Progress, moment_of, is_live, is_current, position_at, from_position, fs_of_attach, is_trigger, mount_refusal, with_mount, bind_refusal, bound_at, plain_umount_refusal, changed_at, plain_change_refusal, kind_refusal, kind_at, mkdir_refusal, rmdir_refusal, attached_at, mount_on_refusal, umount_from_refusal, queued_of, answer_refusal, catatonic_refusal, admin_catatonic_refusal, made_catatonic, timeout_refusal}
use Rattle.am_kernel.specs.declared.progress.Progress.TheVariants as progress
use Rattle.am_kernel.specs.CallOutcome as kernel
use Rattle.am_job.specs.{Act, next_of}
use Rattle.am_job.specs.declared.act.Act.TheVariants as act
use Rattle.am_daemon.specs.{Point, JobPlan, point_of, line_timeout, holds, job_of}
use Rattle.am_machine.specs.{Event, refused, unless, after, outcome_of, answer_of, goes, RefusalsChangeNothing, MomentsRise}
use Rattle.am_machine.specs.declared.event.Event.TheVariants as events
use Rattle.am_machine.specs.declared.answer.Answer.TheVariants as answers
use Rattle.am_machine.specs.State.{State}
use Rattle.am_machine.specs.EventOutcome.{EventOutcome}
use Rattle.am_machine.specs.Events.Administration as administration
use Rattle.am_machine.specs.Events.Requests as requests
use Rattle.am_machine.specs.Events.Deliveries as deliveries
use Rattle.am_machine.specs.Events.Acts as acts

-- a refusal leaves all as it was, and the latest moment is no earlier
record IsFair (s : State) (o : EventOutcome) : Type 0 where
  refusal : (e : Errno) → o.answer ≡ answers.Refused e → (o.seen ≡ []) × (o.state ≡ s)
  rises : s.kernel.latest ≤ o.state.kernel.latest

refuses : (s : State) (e : Errno) → IsFair s (refused s e)
refuses s e = record { refusal = λ other h. (refl, refl); rises = omega arith }

-- what isn't refused leaves the moment
done : (s : State) (o : EventOutcome) → ((e : Errno) → o.answer ≡ answers.Refused e → ⊥) → o.state.kernel.latest ≡ s.kernel.latest → IsFair s o
done s o answered same = record { refusal = λ e h. absurd (answered e h); rises = omega (arith, same) }

unless_refused : (e : Option Errno) (s : State) (o : EventOutcome) → IsFair s o → IsFair s (unless e s o)
unless_refused (Some e) s o h = refuses s e
unless_refused None s o h = h

in_either_case : (s : State) (b : Bool) (first second : EventOutcome) → IsFair s first → IsFair s second → IsFair s (if b then first else second)
in_either_case s true first second h g = h
in_either_case s false first second h g = g

-- ---- the administrator

latest_from : (at : Result Position Errno) (k : KernelState) (change : Position → KernelState) → ((at : Position) → (change at).latest ≡ k.latest) → (from_position at k change).latest ≡ k.latest
latest_from (Err e) k change same = refl
latest_from (Ok at) k change same = same at

attached_as : (point : Option Point) (s : State) (path : List (List ℕ)) → IsFair s (administration.attached_as point s path)
attached_as None s path = refuses s _
attached_as (Some point) s path =
    unless_refused (administration.attach_refusal s path) s (administration.attaches s path point)
    (done s (administration.attaches s path point) (λ e h. absurd cc) (latest_from (position_at s.kernel 0 path) s.kernel (attached_at point.direct (line_timeout s.daemon point.entry) s.kernel) (λ at. refl)))

kind_told : (kind : Option MountState) (s : State) → IsFair s (administration.kind_told kind s)
kind_told None s = done s _ (λ e h. absurd cc) refl
kind_told (Some kind) s = done s _ (λ e h. absurd cc) refl

-- ---- walkers

never_refused : (p : Progress) (e : Errno) → answer_of p ≡ answers.Refused e → ⊥
never_refused (progress.Arrived at) e h = absurd cc
never_refused (progress.Waits token) e h = absurd cc
never_refused (progress.Failed error) e h = absurd cc
never_refused progress.Expired e h = absurd cc

goes_on : (o : kernel.CallOutcome) (s : State) (now : ℕ) → IsFair s (goes (kernel.at_moment (moment_of s.kernel now) o) s)
goes_on (kernel.Proceeds p shown made) s now = record { refusal = λ e h. absurd (never_refused p e h); rises = omega arith }
goes_on (kernel.Fails e) s now = refuses s e

-- ---- requests

closes_if : (live : Bool) (s : State) (fs : ℕ) → (if live then made_catatonic fs s.kernel else s.kernel).latest ≡ s.kernel.latest
closes_if true s fs = refl
closes_if false s fs = refl

-- ---- jobs

delivered_at : (row : Option QueuedRow) (s : State) (bytes : Option (List ℕ)) → IsFair s (deliveries.delivered_at row s bytes)
delivered_at None s bytes = refuses s _
delivered_at (Some row) s bytes = in_either_case s (deliveries.may_take s row bytes) _ _ (done s _ (λ e h. absurd cc) refl) (refuses s _)

mkdir : (e : Option Errno) (s : State) (row : JobPlan) (trigger : Trigger) → IsFair s (acts.mkdir_by e s row trigger)
mkdir None s row trigger = done s _ (λ e h. absurd cc) refl
mkdir (Some errnos.EEXIST) s row trigger = done s _ (λ e h. absurd cc) refl
mkdir (Some _) s row trigger = refuses s _

mount_by : (e : Option Errno) (s : State) (row : JobPlan) (trigger : Trigger) → IsFair s (acts.mount_by e s row trigger)
mount_by None s row trigger = done s _ (λ e h. absurd cc) refl
mount_by (Some e) s row trigger = done s _ (λ e h. absurd cc) refl

mount_tried : (failure : Option FailNo) (s : State) (row : JobPlan) (trigger : Trigger) → IsFair s (acts.mount_tried failure s row trigger)
mount_tried (Some error) s row trigger = done s _ (λ e h. absurd cc) refl
mount_tried None s row trigger = mount_by (mount_on_refusal s.kernel row.attach trigger) s row trigger

umount_by : (e : Option Errno) (s : State) (row : JobPlan) (trigger : Trigger) → IsFair s (acts.umount_by e s row trigger)
umount_by None s row trigger = done s _ (λ e h. absurd cc) refl
umount_by (Some e) s row trigger = done s _ (λ e h. absurd cc) refl

umount_tried : (failure : Option FailNo) (s : State) (row : JobPlan) (trigger : Trigger) → IsFair s (acts.umount_tried failure s row trigger)
umount_tried (Some error) s row trigger = done s _ (λ e h. absurd cc) refl
umount_tried None s row trigger = umount_by (umount_from_refusal s.kernel row.attach trigger) s row trigger

rmdir : (e : Option Errno) (s : State) (row : JobPlan) (trigger : Trigger) → IsFair s (acts.rmdir_by e s row trigger)
rmdir None s row trigger = done s _ (λ e h. absurd cc) refl
rmdir (Some errnos.ENOENT) s row trigger = done s _ (λ e h. absurd cc) refl
rmdir (Some errnos.EBUSY) s row trigger = done s _ (λ e h. absurd cc) refl
rmdir (Some _) s row trigger = refuses s _

reply : (e : Option Errno) (s : State) (row : JobPlan) (status : Status) → IsFair s (acts.reply_by e s row status)
reply (Some e) s row status = refuses s e
reply None s row status = done s _ (λ e h. absurd cc) refl

acted : (next : Option Act) (s : State) (row : JobPlan) (failure : Option FailNo) → IsFair s (acts.acted next s row failure)
acted None s row failure = refuses s _
acted (Some (act.Mkdir trigger)) s row failure = mkdir (mkdir_refusal s.kernel row.attach trigger) s row trigger
acted (Some (act.Mount trigger entry)) s row failure = in_either_case s (not (is_current s.kernel trigger.fs row.attach)) _ _ (refuses s _) (mount_tried failure s row trigger)
acted (Some (act.Umount trigger)) s row failure = in_either_case s (not (is_current s.kernel trigger.fs row.attach)) _ _ (refuses s _) (umount_tried failure s row trigger)
acted (Some (act.Rmdir trigger)) s row failure = rmdir (rmdir_refusal s.kernel row.attach trigger) s row trigger
acted (Some (act.Record trigger entry)) s row failure = in_either_case s (not (holds s.daemon row.trigger.fs row.attach)) _ _ (refuses s _) (done s _ (λ e h. absurd cc) refl)
acted (Some (act.Reply status)) s row failure = reply (answer_refusal s.kernel row.attach row.token) s row status

acted_at : (row : Option JobPlan) (s : State) (failure : Option FailNo) → IsFair s (acts.acted_at row s failure)
acted_at None s failure = refuses s _
acted_at (Some row) s failure = acted (next_of row.plan) s row failure

-- ---- every event

outcome_fair : (s : State) (event : Event) → IsFair s (outcome_of s event)
outcome_fair s (events.Attach path) = attached_as (point_of s.daemon path) s path
outcome_fair s (events.Mount ns path) =
    unless_refused (mount_refusal s.kernel ns path) s _ (done s _ (λ e h. absurd cc) (latest_from (position_at s.kernel ns path) s.kernel (λ at. with_mount at s.kernel) (λ at. refl)))
outcome_fair s (events.Bind ns source target) =
    unless_refused (bind_refusal s.kernel ns source target) s _
    (done s _ (λ e h. absurd cc)
    (latest_from (position_at s.kernel ns source) s.kernel (λ from. from_position (position_at s.kernel ns target) s.kernel (bound_at s.kernel from))
    (λ from. latest_from (position_at s.kernel ns target) s.kernel (bound_at s.kernel from) (λ at. refl))))
outcome_fair s (events.Umount ns path) = unless_refused (plain_umount_refusal s.kernel ns path) s _ (done s _ (λ e h. absurd cc) refl)
outcome_fair s (events.Change ns path change) =
    unless_refused (plain_change_refusal change s.kernel ns path) s _ (done s _ (λ e h. absurd cc) (latest_from (position_at s.kernel ns path) s.kernel (changed_at change s.kernel) (λ at. refl)))
outcome_fair s (events.Kind ns path) = unless_refused (kind_refusal s.kernel ns path) s _ (kind_told (kind_at s.kernel ns path) s)
outcome_fair s (events.CopyNamespace ns form) = unless_refused (copy_refusal ns s.kernel.table) s _ (done s _ (λ e h. absurd cc) refl)
outcome_fair s (events.DropNamespace ns) = unless_refused (drop_refusal (is_used s.kernel.uses) ns s.kernel.table) s _ (done s _ (λ e h. absurd cc) refl)
outcome_fair s (events.Walk walker ns path now pipe) = goes_on _ s now
outcome_fair s (events.Resume walker now pipe) = goes_on _ s now
outcome_fair s (events.Leave walker) = unless_refused (leave_refusal walker s.kernel.uses) s _ (done s _ (λ e h. absurd cc) refl)
outcome_fair s (events.Expire walker fs now immediate pipe) = goes_on _ s now
outcome_fair s (events.Deliver token bytes) = delivered_at (queued_of s.kernel.queue token) s bytes
outcome_fair s (events.Act job failure) = acted_at (job_of s.daemon.jobs job) s failure
outcome_fair s (events.Repeat attach token status) =
    in_either_case s (not (is_some (fs_of_attach s.kernel attach))) _ _ (refuses s _) (in_either_case s (is_some (token_of s.kernel.waits.tokens token)) _ _ (refuses s _) (refuses s _))
outcome_fair s (events.Catatonic attach fs) = unless_refused (catatonic_refusal s.kernel attach fs) s _ (done s _ (λ e h. absurd cc) refl)
outcome_fair s (events.AdminCatatonic fs) = unless_refused (admin_catatonic_refusal s.kernel fs) s _ (done s _ (λ e h. absurd cc) (closes_if (is_live s.kernel fs) s fs))
outcome_fair s (events.Timeout attach fs timeout) = unless_refused (timeout_refusal s.kernel attach fs) s _ (done s _ (λ e h. absurd cc) refl)
outcome_fair s events.Die = done s _ (λ e h. absurd cc) refl
outcome_fair s (events.Reattach fs) = unless_refused (requests.reattach_refused s fs) s (requests.reattaches s fs) (done s (requests.reattaches s fs) (λ e h. absurd cc) refl)
outcome_fair s (events.Record trigger) = in_either_case s (not (is_trigger s.kernel trigger)) _ _ (refuses s _) (done s _ (λ e h. absurd cc) refl)

-- ---- steps

same_after : (s : State) (o : EventOutcome) → o.seen ≡ [] → o.state ≡ s → after s o ≡ s
same_after s o none same =
    ap (λ (more : List Obs). record o.state { trace = s.trace ++ more }) none
    ∙ ap (λ (trace : List Obs). record o.state { trace = trace }) (append-nil s.trace)
    ∙ ap (λ (t : State). record t { trace = s.trace }) same

pub refusals_change : RefusalsChangeNothing
refusals_change old event errno seen new (inl out) = (out.nothing, out.same)
refusals_change old event errno seen new (inr comes) =
    let o = outcome_of old event in
    let same = (outcome_fair old event).refusal errno (sym comes.told) in
    (comes.shown ∙ same.0, comes.left ∙ same_after old o same.0 same.1)

pub moments : MomentsRise
moments old event answer seen new (inl out) = subst (λ (s : State). old.kernel.latest ≤ s.kernel.latest) (sym out.same) (omega arith)
moments old event answer seen new (inr comes) = subst (λ (s : State). old.kernel.latest ≤ s.kernel.latest) (sym comes.left) ((outcome_fair old event).rises)
