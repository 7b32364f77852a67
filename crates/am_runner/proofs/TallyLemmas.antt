-- Who entered and left a mount, by the answers of a history and by what was seen: as often.
use Rattle.std.proofs.Common.{◌≡◌, ◌∙◌, ℕ, ◌+◌, Bool, true, false, not, cond, List, [], ◌∷◌, ◌++◌, length, Option, Some, None, refl, sym, ap, subst, arith, inl, inr}
use Rattle.std.specs.Prelude.{◌&&◌, is_none, is_some, nat_le, Result, Ok, Err, if◌then◌else◌}
use Rattle.std.specs.List.{count_by, flat_map}
use Rattle.am_names.specs.declared.fail_no.FailNo.{FailNo}
use Rattle.am_names.specs.declared.errno.Errno.{Errno}
use Rattle.am_names.specs.declared.errno.Errno.TheVariants as errnos
use Rattle.am_names.specs.declared.trigger.Trigger.{Trigger}
use Rattle.am_names.specs.declared.trigger.Status.TheVariants.{Ready, Fail}
use Rattle.am_names.specs.declared.trigger.PipeState.TheVariants.{Room, Full, Gone}
use Rattle.am_names.specs.declared.row.TokenKind.TheVariants.{Missing, Expire}
use Rattle.am_names.specs.{Position, PipeState, Status, TokenKind, WaitRow}
use Rattle.am_state.specs.{Obs, QueuedRow}
use Rattle.am_state.specs.declared.obs.Obs.TheVariants as seen
use Rattle.am_group.specs.{MountState}
use Rattle.am_propagate.specs.{copy_refusal, drop_refusal}
use Rattle.am_trigger.specs.{autofs_of}
use Rattle.am_wait.specs.{is_exhausted, is_full, token_of, tokens_of, wait_of, waiters_of}
use Rattle.am_expire.specs.{is_used, mount_of_walker}
use Rattle.am_walk.specs.{Stop, walk_of}
use Rattle.am_walk.specs.declared.stop.Stop.TheVariants as stops
use Rattle.am_kernel.specs.{Attempt, KernelState, Progress, WalkRow, attach_of, attaching_at, catatonic_observations, fs_of_attach, is_busy, is_current, is_live, is_trigger, kind_at, kind_refusal, mkdir_refusal, mount_on_refusal, mount_refusal, bind_refusal, mounting_at, moment_of, passes, plain_change_refusal, plain_umount_refusal, position_at, queued_of, releases, rmdir_refusal, scene_of, umount_from_refusal, admin_catatonic_refusal, catatonic_refusal, timeout_refusal, answer_refusal, answering, without_use, walk_in}
use Rattle.am_kernel.specs.CallOutcome as kernel
use Rattle.am_kernel.specs.Walks as walks
use Rattle.am_kernel.specs.Resumes as resumes
use Rattle.am_kernel.specs.Expires as expires
use Rattle.am_kernel.specs.Catatonic as catatonic
use Rattle.am_kernel.specs.Requests as kernel_requests
use Rattle.am_kernel.specs.declared.progress.Progress.TheVariants as progress
use Rattle.am_job.specs.{Act, is_reply, next_of}
use Rattle.am_job.specs.declared.act.Act.TheVariants as act
use Rattle.am_daemon.specs.{JobPlan, Point, holds, job_of, plan_of_packet, point_of}
use Rattle.am_machine.specs.{Answer, Entry, Event, IsLegal, Run, Step, after, answer_of, answers_of, entry, events_of, goes, initial_state_of, outcome_of, refused, setup_of, unless, with_kernel}
use Rattle.am_machine.specs.declared.event.Event.TheVariants as events
use Rattle.am_machine.specs.declared.answer.Answer.TheVariants as answers
use Rattle.am_machine.specs.State.{State}
use Rattle.am_machine.specs.EventOutcome.{EventOutcome}
use Rattle.am_machine.specs.Events.Administration as administration
use Rattle.am_machine.specs.Events.Requests as requests
use Rattle.am_machine.specs.Events.Deliveries as deliveries
use Rattle.am_machine.specs.Events.Acts as acts
use Rattle.am_machine.proofs.Consistent.{step_lawful}
use Rattle.am_machine.proofs.Lists.Counts.{count_append, count_cons}
use Rattle.am_world.specs.Capacity.{state_of}
use Rattle.am_world.proofs.TableLemmas.{state_is}
use Rattle.am_shared.specs.Sharing.{Sharing}
use Rattle.am_runner.specs.Runs.{enters, is_at, is_entered, is_leave, is_left, is_told_done, leaves}

abbrev one : Bool → ℕ
one b = cond b 1 0

-- ---- what is seen

-- nobody enters or leaves a mount
abbrev Quiet : List Obs → Type 0
Quiet shown = (count_by is_entered shown ≡ 0) × (count_by is_left shown ≡ 0)

-- so often somebody enters one, and nobody leaves
abbrev Enters : ℕ → List Obs → Type 0
Enters n shown = (count_by is_entered shown ≡ n) × (count_by is_left shown ≡ 0)

passes_before : (n walker : ℕ) (passed : List Trigger) (later : List Obs) → Enters n later → Enters n (passes walker passed ++ later)
passes_before n walker [] later h = h
passes_before n walker (trigger ∷ passed) later h = passes_before n walker passed later h

releases_before : (token : ℕ) (status : Status) (walkers : List ℕ) (later : List Obs) → Quiet later → Quiet (releases token status walkers ++ later)
releases_before token status [] later h = h
releases_before token status (walker ∷ walkers) later h = releases_before token status walkers later h

releases_quiet : (token : ℕ) (status : Status) (walkers : List ℕ) → Quiet (releases token status walkers)
releases_quiet token status [] = (refl, refl)
releases_quiet token status (walker ∷ walkers) = releases_quiet token status walkers

failures_quiet : (k : KernelState) (tokens : List ℕ) → Quiet (flat_map (catatonic.failures k) tokens)
failures_quiet k [] = (refl, refl)
failures_quiet k (token ∷ tokens) = releases_before token _ (waiters_of k.waits.tokens token) (flat_map (catatonic.failures k) tokens) (failures_quiet k tokens)

catatonic_quiet : (fs : ℕ) (k : KernelState) → Quiet (catatonic_observations fs k)
catatonic_quiet fs k = failures_quiet k (tokens_of k.waits.tokens fs)

catatonic_quiet_if : (live : Bool) (fs : ℕ) (k : KernelState) → Quiet (if live then catatonic_observations fs k else [])
catatonic_quiet_if true fs k = catatonic_quiet fs k
catatonic_quiet_if false fs k = (refl, refl)

answering_quiet : (token : ℕ) (status : Status) (k : KernelState) → Quiet (answering token status k)
answering_quiet token status k = releases_quiet token status (waiters_of k.waits.tokens token)

attaching_quiet : (at : Result Position Errno) (k : KernelState) → Quiet (attaching_at k at)
attaching_quiet (Err e) k = (refl, refl)
attaching_quiet (Ok at) k = (refl, refl)

mounting_quiet : (at : Result Position Errno) (k : KernelState) → Quiet (mounting_at k at)
mounting_quiet (Err e) k = (refl, refl)
mounting_quiet (Ok at) k = (refl, refl)

recording_quiet : (b : Bool) (o : Obs) → is_entered o ≡ false → is_left o ≡ false → Quiet (if b then [] else o ∷ [])
recording_quiet true o e l = (refl, refl)
recording_quiet false o e l = (omega (arith, ap one e), omega (arith, ap one l))

-- ---- what a walker comes to

-- somebody enters a mount where the walk arrives, and nobody leaves
abbrev Walked : kernel.CallOutcome → Type 0
Walked (kernel.Proceeds p shown made) = Enters (one (is_at (answer_of p))) shown
Walked (kernel.Fails e) = Unit {0}

either_walked : (b : Bool) (first second : kernel.CallOutcome) → Walked first → Walked second → Walked (if b then first else second)
either_walked true first second h g = h
either_walked false first second h g = g

notifies_by : (pipe : PipeState) (k : KernelState) (attempt : Attempt) (trigger : Trigger) (attach : ℕ) (passed : List Trigger) → Walked (walks.notifies_by pipe k attempt trigger attach passed)
notifies_by Room k attempt trigger attach passed = passes_before 0 attempt.walker passed _ (refl, refl)
notifies_by Full k attempt trigger attach passed = tt
notifies_by Gone k attempt trigger attach passed = catatonic_quiet trigger.fs k

notifies : (attach : Option ℕ) (pipe : PipeState) (k : KernelState) (attempt : Attempt) (trigger : Trigger) (passed : List Trigger) → Walked (walks.notifies attach pipe k attempt trigger passed)
notifies None pipe k attempt trigger passed = tt
notifies (Some attach) pipe k attempt trigger passed =
    either_walked (is_exhausted k.waits) _ _ tt (either_walked (is_full k.waits) _ _ tt (notifies_by pipe k attempt trigger attach passed))

attempted : (stop : Stop) (pipe : PipeState) (k : KernelState) (attempt : Attempt) (passed : List Trigger) → Walked (walks.attempted_by stop pipe k attempt passed)
attempted (stops.Arrive at) pipe k attempt passed = passes_before 1 attempt.walker passed _ (refl, refl)
attempted (stops.Block token) pipe k attempt passed = either_walked (is_full k.waits) _ _ tt (passes_before 0 attempt.walker passed _ (refl, refl))
attempted (stops.Missing trigger) pipe k attempt passed = notifies (attach_of k trigger.fs) pipe k attempt trigger passed
attempted (stops.Refuse e) pipe k attempt passed = tt

or_failed : (o : kernel.CallOutcome) (k : KernelState) → Walked o → Walked (resumes.or_failed o k)
or_failed (kernel.Proceeds p shown made) k h = h
or_failed (kernel.Fails e) k h = (refl, refl)

retry : (pipe : PipeState) (k base : KernelState) (row : WalkRow) (moment : ℕ) → Walked (resumes.retry pipe k base row moment)
retry pipe k base row moment =
    either_walked (nat_le resumes.max_attempts row.attempts) _ _ (refl, refl)
    (or_failed _ base (attempted (walk_of (scene_of k moment) row.ns row.path).stop pipe base (resumes.next_attempt row moment) (walk_of (scene_of k moment) row.ns row.path).passed))

resumed_as : (kind : TokenKind) (status : Status) (pipe : PipeState) (k : KernelState) (wait : WaitRow) (row : WalkRow) (moment : ℕ) → Walked (resumes.resumed_as kind status pipe k wait row moment)
resumed_as Missing (Fail error) pipe k wait row moment = (refl, refl)
resumed_as Missing Ready pipe k wait row moment = retry pipe k _ row moment
resumed_as Expire status pipe k wait row moment = retry pipe k _ row moment

expired_as : (status : Status) (k : KernelState) → Walked (resumes.expired_as status k)
expired_as Ready k = (refl, refl)
expired_as (Fail error) k = (refl, refl)

expiry_finished : (kind : TokenKind) (status : Status) (k : KernelState) (wait : WaitRow) (moment : ℕ) → Walked (resumes.expiry_finished_as kind status k wait moment)
expiry_finished Missing status k wait moment = tt
expiry_finished Expire status k wait moment = expired_as status _

resumed_walk : (row : Option WalkRow) (status : Status) (pipe : PipeState) (k : KernelState) (wait : WaitRow) (moment : ℕ) → Walked (resumes.resumed_walk row status pipe k wait moment)
resumed_walk None status pipe k wait moment = expiry_finished wait.kind status k wait moment
resumed_walk (Some row) status pipe k wait moment = resumed_as wait.kind status pipe k wait row moment

resumed_by : (status : Option Status) (pipe : PipeState) (k : KernelState) (wait : WaitRow) (moment : ℕ) → Walked (resumes.resumed_by status pipe k wait moment)
resumed_by None pipe k wait moment = tt
resumed_by (Some status) pipe k wait moment = resumed_walk (walk_in k.walks wait.walker) status pipe k wait moment

resumed_at : (wait : Option WaitRow) (pipe : PipeState) (k : KernelState) (moment : ℕ) → Walked (resumes.resumed_at wait pipe k moment)
resumed_at None pipe k moment = tt
resumed_at (Some wait) pipe k moment = resumed_by wait.status pipe k wait moment

expires_by : (pipe : PipeState) (k : KernelState) (walker : ℕ) (trigger : Trigger) (attach : ℕ) → Walked (expires.expires_by pipe k walker trigger attach)
expires_by Room k walker trigger attach = (refl, refl)
expires_by Full k walker trigger attach = tt
expires_by Gone k walker trigger attach = catatonic_quiet trigger.fs k

expires_next : (next : Option Trigger) (pipe : PipeState) (k : KernelState) (walker attach : ℕ) → Walked (expires.expires_next next pipe k walker attach)
expires_next None pipe k walker attach = tt
expires_next (Some trigger) pipe k walker attach =
    either_walked (is_exhausted k.waits) _ _ tt (either_walked (is_full k.waits) _ _ tt (expires_by pipe k walker trigger attach))

expires_under : (attach : Option ℕ) (pipe : PipeState) (k : KernelState) (walker : ℕ) (next : Option Trigger) → Walked (expires.expires_under attach pipe k walker next)
expires_under None pipe k walker next = tt
expires_under (Some attach) pipe k walker next = expires_next next pipe k walker attach

-- ---- what an event comes to

-- of an event by which nobody leaves
abbrev Tells : EventOutcome → Type 0
Tells o = Enters (one (is_at o.answer)) o.seen

goes_on : (o : kernel.CallOutcome) (s : State) (moment : ℕ) → Walked o → Tells (goes (kernel.at_moment moment o) s)
goes_on (kernel.Proceeds p shown made) s moment h = h
goes_on (kernel.Fails e) s moment h = (refl, refl)

refuses : (s : State) (e : Errno) → Tells (refused s e)
refuses s e = (refl, refl)

unless_refused : (e : Option Errno) (s : State) (o : EventOutcome) → Tells o → Tells (unless e s o)
unless_refused (Some e) s o h = refuses s e
unless_refused None s o h = h

either : (b : Bool) (first second : EventOutcome) → Tells first → Tells second → Tells (if b then first else second)
either true first second h g = h
either false first second h g = g

attached_as : (point : Option Point) (s : State) (path : List (List ℕ)) → Tells (administration.attached_as point s path)
attached_as None s path = (refl, refl)
attached_as (Some point) s path =
    unless_refused (administration.attach_refusal s path) s (administration.attaches s path point) (attaching_quiet (position_at s.kernel 0 path) s.kernel)

kind_told : (kind : Option MountState) (s : State) → Tells (administration.kind_told kind s)
kind_told None s = (refl, refl)
kind_told (Some kind) s = (refl, refl)

delivered_at : (row : Option QueuedRow) (s : State) (bytes : Option (List ℕ)) → Tells (deliveries.delivered_at row s bytes)
delivered_at None s bytes = (refl, refl)
delivered_at (Some row) s bytes =
    either (deliveries.may_take s row bytes) _ _ (recording_quiet (is_reply (plan_of_packet s.daemon row.packet)) _ refl refl) (refl, refl)

mkdir : (e : Option Errno) (s : State) (row : JobPlan) (trigger : Trigger) → Tells (acts.mkdir_by e s row trigger)
mkdir None s row trigger = (refl, refl)
mkdir (Some errnos.EEXIST) s row trigger = (refl, refl)
mkdir (Some _) s row trigger = (refl, refl)

mount_by : (e : Option Errno) (s : State) (row : JobPlan) (trigger : Trigger) → Tells (acts.mount_by e s row trigger)
mount_by None s row trigger = (refl, refl)
mount_by (Some e) s row trigger = (refl, refl)

mount_tried : (failure : Option FailNo) (s : State) (row : JobPlan) (trigger : Trigger) → Tells (acts.mount_tried failure s row trigger)
mount_tried (Some error) s row trigger = (refl, refl)
mount_tried None s row trigger = mount_by (mount_on_refusal s.kernel row.attach trigger) s row trigger

umount_by : (e : Option Errno) (s : State) (row : JobPlan) (trigger : Trigger) → Tells (acts.umount_by e s row trigger)
umount_by None s row trigger = (refl, refl)
umount_by (Some e) s row trigger = (refl, refl)

umount_tried : (failure : Option FailNo) (s : State) (row : JobPlan) (trigger : Trigger) → Tells (acts.umount_tried failure s row trigger)
umount_tried (Some error) s row trigger = (refl, refl)
umount_tried None s row trigger = umount_by (umount_from_refusal s.kernel row.attach trigger) s row trigger

rmdir : (e : Option Errno) (s : State) (row : JobPlan) (trigger : Trigger) → Tells (acts.rmdir_by e s row trigger)
rmdir None s row trigger = (refl, refl)
rmdir (Some errnos.ENOENT) s row trigger = (refl, refl)
rmdir (Some errnos.EBUSY) s row trigger = (refl, refl)
rmdir (Some _) s row trigger = (refl, refl)

reply : (e : Option Errno) (s : State) (row : JobPlan) (status : Status) → Tells (acts.reply_by e s row status)
reply (Some e) s row status = refuses s e
reply None s row status = answering_quiet row.token status s.kernel

acted : (next : Option Act) (s : State) (row : JobPlan) (failure : Option FailNo) → Tells (acts.acted next s row failure)
acted None s row failure = (refl, refl)
acted (Some (act.Mkdir trigger)) s row failure = mkdir (mkdir_refusal s.kernel row.attach trigger) s row trigger
acted (Some (act.Mount trigger said)) s row failure = either (not (is_current s.kernel trigger.fs row.attach)) _ _ (refl, refl) (mount_tried failure s row trigger)
acted (Some (act.Umount trigger)) s row failure = either (not (is_current s.kernel trigger.fs row.attach)) _ _ (refl, refl) (umount_tried failure s row trigger)
acted (Some (act.Rmdir trigger)) s row failure = rmdir (rmdir_refusal s.kernel row.attach trigger) s row trigger
acted (Some (act.Record trigger said)) s row failure = either (not (holds s.daemon row.trigger.fs row.attach)) _ _ (refl, refl) (refl, refl)
acted (Some (act.Reply status)) s row failure = reply (answer_refusal s.kernel row.attach row.token) s row status

acted_at : (row : Option JobPlan) (s : State) (failure : Option FailNo) → Tells (acts.acted_at row s failure)
acted_at None s failure = (refl, refl)
acted_at (Some row) s failure = acted (next_of row.plan) s row failure

-- as often as its answer tells of it somebody enters, and somebody leaves
abbrev TellsOf : Event → Answer → List Obs → Type 0
TellsOf event answer shown =
    (count_by is_entered shown ≡ one (is_at answer)) × (count_by is_left shown ≡ one (is_leave event && is_told_done answer))

left_by : (mount : Option ℕ) (s : State) (walker : ℕ) →
    TellsOf (events.Leave walker)
    (unless (if is_some mount then None else Some errnos.EINVAL) s (with_kernel answers.Done (kernel_requests.leaving mount walker) (without_use walker s.kernel) s)).answer
    (unless (if is_some mount then None else Some errnos.EINVAL) s (with_kernel answers.Done (kernel_requests.leaving mount walker) (without_use walker s.kernel) s)).seen
left_by None s walker = (refl, refl)
left_by (Some mount) s walker = (refl, refl)

outcome_tells : (s : State) (event : Event) → TellsOf event (outcome_of s event).answer (outcome_of s event).seen
outcome_tells s (events.Attach path) = attached_as (point_of s.daemon path) s path
outcome_tells s (events.Mount ns path) = unless_refused (mount_refusal s.kernel ns path) s _ (mounting_quiet (position_at s.kernel ns path) s.kernel)
outcome_tells s (events.Bind ns source target) = unless_refused (bind_refusal s.kernel ns source target) s _ (mounting_quiet (position_at s.kernel ns target) s.kernel)
outcome_tells s (events.Umount ns path) = unless_refused (plain_umount_refusal s.kernel ns path) s _ (refl, refl)
outcome_tells s (events.Change ns path change) = unless_refused (plain_change_refusal change s.kernel ns path) s _ (refl, refl)
outcome_tells s (events.Kind ns path) = unless_refused (kind_refusal s.kernel ns path) s _ (kind_told (kind_at s.kernel ns path) s)
outcome_tells s (events.CopyNamespace ns form) = unless_refused (copy_refusal ns s.kernel.table) s _ (refl, refl)
outcome_tells s (events.DropNamespace ns) = unless_refused (drop_refusal (is_used s.kernel.uses) ns s.kernel.table) s _ (refl, refl)
outcome_tells s (events.Walk walker ns path now pipe) =
    let moment = moment_of s.kernel now in
    let walked = walk_of (scene_of s.kernel moment) ns path in
    goes_on _ s moment
    (either_walked (is_busy s.kernel walker) _ _ tt (attempted walked.stop pipe s.kernel (walks.first_attempt walker ns path moment) walked.passed))
outcome_tells s (events.Resume walker now pipe) =
    let moment = moment_of s.kernel now in
    goes_on _ s moment
    (either_walked (is_some (mount_of_walker s.kernel.uses walker)) _ _ tt (resumed_at (wait_of s.kernel.waits.waits walker) pipe s.kernel moment))
outcome_tells s (events.Leave walker) = left_by (mount_of_walker s.kernel.uses walker) s walker
outcome_tells s (events.Expire walker fs now immediate pipe) =
    let moment = moment_of s.kernel now in
    let next = expires.next_of s.kernel fs moment immediate in
    let under = expires.expires_under (attach_of s.kernel fs) pipe s.kernel walker next in
    let no = kernel.Fails errnos.EINVAL in
    goes_on (expires.expire_at pipe s.kernel walker fs moment immediate) s moment
    (either_walked (is_none (autofs_of s.kernel.triggers fs)) no (if is_busy s.kernel walker then no else under) tt
    (either_walked (is_busy s.kernel walker) no under tt (expires_under (attach_of s.kernel fs) pipe s.kernel walker next)))
outcome_tells s (events.Deliver token bytes) = delivered_at (queued_of s.kernel.queue token) s bytes
outcome_tells s (events.Act job failure) = acted_at (job_of s.daemon.jobs job) s failure
outcome_tells s (events.Repeat attach token status) =
    either (not (is_some (fs_of_attach s.kernel attach))) _ _ (refl, refl) (either (is_some (token_of s.kernel.waits.tokens token)) _ _ (refl, refl) (refl, refl))
outcome_tells s (events.Catatonic attach fs) = unless_refused (catatonic_refusal s.kernel attach fs) s _ (catatonic_quiet fs s.kernel)
outcome_tells s (events.AdminCatatonic fs) = unless_refused (admin_catatonic_refusal s.kernel fs) s _ (catatonic_quiet_if (is_live s.kernel fs) fs s.kernel)
outcome_tells s (events.Timeout attach fs timeout) = unless_refused (timeout_refusal s.kernel attach fs) s _ (refl, refl)
outcome_tells s events.Die = (refl, refl)
outcome_tells s (events.Reattach fs) = unless_refused (requests.reattach_refused s fs) s (requests.reattaches s fs) (refl, refl)
outcome_tells s (events.Record trigger) = either (not (is_trigger s.kernel trigger)) _ _ (refl, refl) (refl, refl)

-- ---- steps and runs

neither : (b : Bool) → one (b && false) ≡ 0
neither true = refl
neither false = refl

step_tells : (old : State) (event : Event) (answer : Answer) (shown : List Obs) (new : State) → Step old event answer shown new → TellsOf event answer shown
step_tells old event answer shown new (inl out) = (
  ap (count_by is_entered) out.nothing ∙ sym (ap (λ (a : Answer). one (is_at a)) out.told),
  ap (count_by is_left) out.nothing ∙ sym (neither (is_leave event)) ∙ sym (ap (λ (a : Answer). one (is_leave event && is_told_done a)) out.told),
)
step_tells old event answer shown new (inr comes) =
    subst (λ (a : Answer). TellsOf event a shown) (sym comes.told)
    (subst (λ (l : List Obs). TellsOf event (outcome_of old event).answer l) (sym comes.shown) (outcome_tells old event))

leaves_is : (e : Entry) → leaves e ≡ (is_leave e.event && is_told_done e.answer)
unfolding leaves
leaves_is e = refl

-- what is seen of a run, added to what was seen before
run_tells : (history : List Entry) (old new : State) → Run old (events_of history) (answers_of history) new →
    (count_by is_entered new.trace ≡ count_by is_entered old.trace + count_by enters history)
    × (count_by is_left new.trace ≡ count_by is_left old.trace + count_by leaves history)
run_tells [] old new same =
    let entered = ap (λ (s : State). count_by is_entered s.trace) same in
    let left = ap (λ (s : State). count_by is_left s.trace) same in
    (omega (arith, entered), omega (arith, left))
run_tells (e ∷ history) old new (mid, shown, step, rest) =
    let later = run_tells history mid new rest in
    let one_step = step_tells old e.event e.answer shown mid step in
    let trace = (step_lawful old e.event e.answer shown mid step).trace in
    let entered = ap (count_by is_entered) trace in
    let left = ap (count_by is_left) trace in
    let told = ap one (leaves_is e) in (
      omega (arith, later.0, one_step.0, entered, count_append is_entered old.trace shown, count_cons enters e history),
      omega (arith, later.1, one_step.1, left, count_append is_left old.trace shown, count_cons leaves e history, told),
    )

-- what a history tells of who entered and left is what was seen of it
pub history_tells : (s : Sharing) → IsLegal s.history (state_of s.world) →
    (count_by is_entered s.world.trace ≡ count_by enters s.history) × (count_by is_left s.world.trace ≡ count_by leaves s.history)
history_tells s legal =
    let all = run_tells s.history (initial_state_of (setup_of (state_of s.world))) (state_of s.world) legal in
    let same = ap (λ (x : State). x.trace) (state_is s.world) in (
      omega (arith, all.0, ap (count_by is_entered) same),
      omega (arith, all.1, ap (count_by is_left) same),
    )
