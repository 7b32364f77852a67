-- From each event to the changes of the state that it comes to.
use Rattle.std.proofs.Common.{◌≡◌, ℕ, ◌+◌, Bool, true, false, not, ◌==◌, List, [], ◌∷◌, length, Option, Some, None, refl, sym, subst}
use Rattle.std.specs.Prelude.{is_some, Result, Ok, Err, if◌then◌else◌}
use Rattle.std.specs.Option.{option_map}
use Rattle.am_names.specs.declared.fail_no.FailNo.{FailNo}
use Rattle.am_names.specs.declared.fail_no.FailNo.TheVariants.{ENOENT}
use Rattle.am_names.specs.declared.errno.Errno.{Errno}
use Rattle.am_names.specs.declared.errno.Errno.TheVariants as errnos
use Rattle.am_names.specs.{Position, OpenToken, Status}
use Rattle.am_names.specs.declared.trigger.Trigger.{Trigger}
use Rattle.am_names.proofs.Basics.{both_of_and, equal_by_test, true_where_not_false, value_where_some, found_passes}
use Rattle.am_map.specs.EntryText.{EntryText}
use Rattle.am_state.specs.{Record, QueuedRow, Obs}
use Rattle.am_state.specs.declared.obs.Obs.TheVariants as seen
use Rattle.am_group.specs.{Change, MountState}
use Rattle.am_propagate.specs.{CopyForm, new_mounts, copy_refusal, drop_refusal, mounts_in}
use Rattle.am_trigger.specs.{Autofs, autofs_of}
use Rattle.am_wait.specs.{token_of}
use Rattle.am_expire.specs.{is_used, mount_of_walker}
use Rattle.am_kernel.specs.{WalkRow, KernelState, moment_of, with_latest, is_live, is_current, position_at, tested, from_position, fs_of_attach, attach_refusal, is_trigger, mount_tests, mount_refusal, mounting_at, bind_tests, bind_refusal, bound_at, umount_tests, plain_umount_refusal, gone_at, change_tests, plain_change_refusal, changed_at, kind_refusal, kind_at, mkdir_refusal, with_directory, rmdir_refusal, without_directory, coming, with_mount, attach_tests, attached_at, attaching_at, location_of, mounted_on, mount_on_refusal, with_mount_on, umount_from_refusal, gone_with, without_mounts, with_namespace, without_namespace, queued_of, is_number, answer_tests, answer_refusal, acknowledged, answering, timeout_refusal, with_timeout, leaving, without_use, pipe_refusal, catatonic_refusal, admin_catatonic_refusal, catatonic_observations, made_catatonic, first_attempt, walk_in}
use Rattle.am_kernel.specs.CallOutcome as kernel
use Rattle.am_kernel.specs.DaemonMounts as mounts
use Rattle.am_job.specs.{Act, next_of}
use Rattle.am_job.specs.declared.act.Act.TheVariants as act
use Rattle.am_job.specs.declared.act.Outcome as job
use Rattle.am_job.specs.declared.act.Outcome.TheVariants as came
use Rattle.am_daemon.specs.{Point, JobPlan, point_of, line_timeout, is_attached, with_attachment, knows, holds, dead, reattach_refusal, job_of, is_busy, writes, finished}
use Rattle.am_daemon.specs.declared.fault.DaemonFault.TheVariants.{UnknownFs, OldAttach, Busy}
use Rattle.am_machine.specs.{Event, Answer, refused, unless, with_kernel, outcome_of, goes}
use Rattle.am_machine.specs.declared.event.Event.TheVariants as events
use Rattle.am_machine.specs.declared.answer.Answer.TheVariants as answers
use Rattle.am_machine.specs.State.{State}
use Rattle.am_machine.specs.EventOutcome.{EventOutcome}
use Rattle.am_machine.specs.Events.Administration as administration
use Rattle.am_machine.specs.Events.Requests as requests
use Rattle.am_machine.specs.Events.Deliveries as deliveries
use Rattle.am_machine.specs.Events.Acts as acts
use Rattle.am_machine.proofs.Planned.Acts.{acknowledges}
use Rattle.am_machine.proofs.TriggerMounts.Jobs.{MovesNothing}
use Rattle.am_machine.proofs.Tests.{test_passed, first_passed}
use Rattle.am_machine.proofs.Tour.Walks as walks

-- ---- what is known where a change comes

-- the job of its number, whose next act is this one; Acts is what is known of that number
pub record IsNext (Acts : ℕ → Type 0) (s : State) (row : JobPlan) (a : Act) : Type 0 where
  pub acts : Acts row.token
  pub is : job_of s.daemon.jobs row.token ≡ Some row
  pub next : next_of row.plan ≡ Some a

-- the act comes to this without a mount, an unmount, an entry of the book or an acknowledgement
pub record Rests (a : Act) (outcome : job.Outcome) : Type 0 where
  pub moves : MovesNothing (Some a) outcome
  pub writes : writes (Some a) ≡ None
  pub acknowledges : acknowledges a ≡ false

-- the packet of the token, which the daemon takes up
pub record IsTaken (s : State) (token : ℕ) (row : QueuedRow) : Type 0 where
  pub queued : queued_of s.kernel.queue token ≡ Some row
  pub held : holds s.daemon row.packet.dev row.attach ≡ true
  pub free : is_busy s.daemon row.packet ≡ false

-- the trigger has this mount, which nothing keeps there, and the attachment is current
pub record IsUnmounted (s : State) (row : JobPlan) (trigger : Trigger) (mount : ℕ) : Type 0 where
  pub current : is_current s.kernel trigger.fs row.attach ≡ true
  pub mounted : mounted_on s.kernel trigger ≡ Some mount
  pub tests : mounts.umount_from_tests (Some mount) s.kernel ≡ None

-- ---- the states that it comes to

abbrev pub with_half : KernelState → State → State
with_half k s = record s { kernel = k }

-- this has come of the job's next act
abbrev pub going : JobPlan → job.Outcome → KernelState → State → State
going row outcome k s = record s { kernel = k; daemon = finished row.token outcome s.daemon }

abbrev pub attached : Point → List (List ℕ) → Position → State → State
attached point path at s = record s {
  kernel = attached_at point.direct (line_timeout s.daemon point.entry) s.kernel at;
  daemon = with_attachment (s.kernel.last_fs + 1) (s.kernel.last_attach + 1) path s.daemon;
}

-- ---- a relation that keeps the changes

-- From the first state to the second, with what is seen between. Fits is what is known of the paths of
-- walks, Acts of the number of the job that acts, and P the same as R of what the kernel makes of walks.
pub record Keeps (Fits : List (List ℕ) → Type 0) (Acts : ℕ → Type 0) (P : KernelState → List Obs → KernelState → Type 0) (R : State → List Obs → State → Type 0) : Type 0 where
  pub same : (s : State) → R s [] s
  -- the administrator
  pub attached : (s : State) (path : List (List ℕ)) (point : Point) (at : Position) → position_at s.kernel 0 path ≡ Ok at → is_attached s.daemon path ≡ false → attach_tests s.kernel at ≡ None →
      R s (seen.Mounted (coming s.kernel at.mount) ∷ []) (attached point path at s)
  pub mounted : (s : State) (ns : ℕ) (path : List (List ℕ)) (at : Position) → position_at s.kernel ns path ≡ Ok at → mount_tests s.kernel at ≡ None →
      R s (seen.Mounted (coming s.kernel at.mount) ∷ []) (with_half (with_mount at s.kernel) s)
  pub bound : (s : State) (source at : Position) → bind_tests s.kernel source at ≡ None → R s (seen.Mounted (coming s.kernel at.mount) ∷ []) (with_half (bound_at s.kernel source at) s)
  pub unmounted : (s : State) (at : Position) → umount_tests s.kernel at ≡ None → R s (seen.Unmounted (gone_at s.kernel (Ok at)) ∷ []) (with_half (without_mounts (gone_at s.kernel (Ok at)) s.kernel) s)
  pub changed : (s : State) (change : Change) (at : Position) → change_tests change s.kernel at ≡ None → R s [] (with_half (changed_at change s.kernel at) s)
  pub copied : (s : State) (ns : ℕ) (form : CopyForm) → copy_refusal ns s.kernel.table ≡ None →
      R s (seen.Mounted (new_mounts s.kernel.table (length (mounts_in s.kernel.table ns))) ∷ []) (with_half (with_namespace form ns s.kernel) s)
  pub dropped : (s : State) (ns : ℕ) → drop_refusal (is_used s.kernel.uses) ns s.kernel.table ≡ None → R s (seen.Unmounted (mounts_in s.kernel.table ns) ∷ []) (with_half (without_namespace ns s.kernel) s)
  -- walkers
  pub walks : walks.Keeps Fits P
  pub walked : (s : State) (shown : List Obs) (k : KernelState) (moment : ℕ) → P s.kernel shown k → R s shown (with_half (with_latest moment k) s)
  pub left : (s : State) (walker mount : ℕ) → mount_of_walker s.kernel.uses walker ≡ Some mount → R s (seen.Left walker mount ∷ []) (with_half (without_use walker s.kernel) s)
  -- what the daemon asks for, and its death
  pub made_catatonic : (s : State) (fs : ℕ) → R s (catatonic_observations fs s.kernel) (with_half (made_catatonic fs s.kernel) s)
  pub timed : (s : State) (fs timeout : ℕ) → R s [] (with_half (with_timeout fs timeout s.kernel) s)
  pub died : (s : State) → R s (seen.Died ∷ []) (record s { daemon = dead s.daemon })
  pub reattached : (s : State) (fs : ℕ) (row : Autofs) → autofs_of s.kernel.triggers fs ≡ Some row → is_live s.kernel fs ≡ false → R s (requests.reattaches s fs).seen (requests.reattaches s fs).state
  -- jobs
  pub delivered : (s : State) (token : ℕ) (row : QueuedRow) → IsTaken s token row → R s (deliveries.takes s row).seen (deliveries.takes s row).state
  pub rested : (s : State) (row : JobPlan) (a : Act) (outcome : job.Outcome) → IsNext Acts s row a → Rests a outcome → R s [] (going row outcome s.kernel s)
  pub directory_made : (s : State) (row : JobPlan) (trigger : Trigger) → IsNext Acts s row (act.Mkdir trigger) → R s [] (going row came.Done (with_directory trigger s.kernel) s)
  pub directory_gone : (s : State) (row : JobPlan) (trigger : Trigger) → IsNext Acts s row (act.Rmdir trigger) → R s [] (going row came.Done (without_directory trigger s.kernel) s)
  pub mounted_on : (s : State) (row : JobPlan) (trigger : Trigger) (entry : EntryText) → IsNext Acts s row (act.Mount trigger entry) → mount_on_refusal s.kernel row.attach trigger ≡ None →
      R s (seen.Mounted (coming s.kernel (location_of s.kernel trigger.fs)) ∷ []) (going row (came.Made (s.kernel.table.last_mount + 1)) (with_mount_on trigger s.kernel) s)
  pub unmounted_on : (s : State) (row : JobPlan) (trigger : Trigger) (mount : ℕ) → IsNext Acts s row (act.Umount trigger) → IsUnmounted s row trigger mount →
      R s (seen.Unmounted (gone_with s.kernel (Some mount)) ∷ []) (going row came.Done (without_mounts (gone_with s.kernel (Some mount)) s.kernel) s)
  pub recorded : (s : State) (row : JobPlan) (trigger : Trigger) (entry : Option Record) → IsNext Acts s row (act.Record trigger entry) → holds s.daemon row.trigger.fs row.attach ≡ true →
      R s (seen.Recorded trigger entry ∷ []) (going row came.Done s.kernel s)
  pub replied : (s : State) (row : JobPlan) (status : Status) (its : OpenToken) → IsNext Acts s row (act.Reply status) → token_of s.kernel.waits.tokens row.token ≡ Some its →
      R s (answering row.token status s.kernel) (going row came.Done (acknowledged row.token status s.kernel) s)

-- the outcome goes by the relation
pub record Leaves (R : State → List Obs → State → Type 0) (s : State) (o : EventOutcome) : Type 0 where
  pub well : R s o.seen o.state

-- what is known of the event's path, of those of the walks that wait, or of the job that is to act
abbrev pub IsKnown : (List (List ℕ) → Type 0) → (ℕ → Type 0) → State → Event → Type 0
IsKnown Fits Acts s (events.Walk walker ns path now pipe) = Fits path
IsKnown Fits Acts s (events.Resume walker now pipe) = (other : ℕ) (row : WalkRow) → walk_in s.kernel.walks other ≡ Some row → Fits row.path
IsKnown Fits Acts s (events.Act job failure) = Acts job
IsKnown Fits Acts s _ = Unit {0}

-- ---- tests that passed

no_fault : (known held busy : Bool) → not (is_some (if not known then Some UnknownFs else if not held then Some OldAttach else if busy then Some Busy else None)) ≡ true → (held ≡ true) × (busy ≡ false)
no_fault true true false h = (refl, refl)
no_fault true true true h = absurd cc
no_fault true false busy h = absurd cc
no_fault false held busy h = absurd cc

its_row : (o : Option OpenToken) (fs : ℕ) → (if is_number (option_map (λ row. row.trigger.fs) o) fs then None else Some errnos.EINVAL) ≡ None → (row : OpenToken) × (o ≡ Some row)
its_row None fs h = absurd cc
its_row (Some row) fs h = (row, refl)

-- who may acknowledge a token has an open one
answered_row : (fs : Option ℕ) (k : KernelState) (token : ℕ) → answer_tests fs k token ≡ None → (row : OpenToken) × (token_of k.waits.tokens token ≡ Some row)
answered_row None k token h = absurd cc
answered_row (Some fs) k token h = its_row (token_of k.waits.tokens token) fs h

module _ (Fits : List (List ℕ) → Type 0) (Acts : ℕ → Type 0) (P : KernelState → List Obs → KernelState → Type 0) (R : State → List Obs → State → Type 0) (keeps : Keeps Fits Acts P R) where
  same : (s : State) (answer : Answer) → Leaves R s (record { answer = answer; seen = []; state = s })
  same s answer = record { well = keeps.same s }

  refuses : (s : State) (e : Errno) → Leaves R s (refused s e)
  refuses s e = same s _

  in_either_case : (s : State) (b : Bool) (first second : EventOutcome) → Leaves R s first → Leaves R s second → Leaves R s (if b then first else second)
  in_either_case s true first second h g = h
  in_either_case s false first second h g = g

  -- the first, where the test passes
  where_true : (s : State) (b : Bool) (first second : EventOutcome) → (b ≡ true → Leaves R s first) → Leaves R s second → Leaves R s (if b then first else second)
  where_true s true first second h g = h refl
  where_true s false first second h g = g

  -- the second, where the test fails
  where_false : (s : State) (b : Bool) (first second : EventOutcome) → Leaves R s first → (b ≡ false → Leaves R s second) → Leaves R s (if b then first else second)
  where_false s true first second h g = h
  where_false s false first second h g = g refl

  unless_refused : (e : Option Errno) (s : State) (done : EventOutcome) → (e ≡ None → Leaves R s done) → Leaves R s (unless e s done)
  unless_refused (Some e) s done h = refuses s e
  unless_refused None s done h = h refl

  -- ---- the administrator

  attaches_at : (at : Result Position Errno) (s : State) (path : List (List ℕ)) (point : Point) → position_at s.kernel 0 path ≡ at → is_attached s.daemon path ≡ false → tested at (attach_tests s.kernel) ≡ None →
      R s (attaching_at s.kernel at) (record s {
        kernel = from_position at s.kernel (attached_at point.direct (line_timeout s.daemon point.entry) s.kernel);
        daemon = with_attachment (s.kernel.last_fs + 1) (s.kernel.last_attach + 1) path s.daemon;
      })
  attaches_at (Err e) s path point is fresh may = absurd cc
  attaches_at (Ok at) s path point is fresh may = keeps.attached s path point at is fresh may

  attached_as : (point : Option Point) (s : State) (path : List (List ℕ)) → Leaves R s (administration.attached_as point s path)
  attached_as None s path = refuses s _
  attached_as (Some point) s path =
      unless_refused (administration.attach_refusal s path) s _
      (λ may. let tests = test_passed (is_attached s.daemon path) _ _ may in record { well = attaches_at (position_at s.kernel 0 path) s path point refl tests.0 tests.1 })

  mounts_at : (at : Result Position Errno) (s : State) (ns : ℕ) (path : List (List ℕ)) → position_at s.kernel ns path ≡ at → tested at (mount_tests s.kernel) ≡ None →
      R s (mounting_at s.kernel at) (with_half (from_position at s.kernel (λ at. with_mount at s.kernel)) s)
  mounts_at (Err e) s ns path is may = absurd cc
  mounts_at (Ok at) s ns path is may = keeps.mounted s ns path at is may

  binds_at : (from to : Result Position Errno) (s : State) → tested from (λ source. tested to (bind_tests s.kernel source)) ≡ None →
      R s (mounting_at s.kernel to) (with_half (from_position from s.kernel (λ source. from_position to s.kernel (bound_at s.kernel source))) s)
  binds_at (Err e) to s may = absurd cc
  binds_at (Ok source) (Err e) s may = absurd cc
  binds_at (Ok source) (Ok at) s may = keeps.bound s source at may

  umounts_at : (at : Result Position Errno) (s : State) → tested at (umount_tests s.kernel) ≡ None → R s (seen.Unmounted (gone_at s.kernel at) ∷ []) (with_half (without_mounts (gone_at s.kernel at) s.kernel) s)
  umounts_at (Err e) s may = absurd cc
  umounts_at (Ok at) s may = keeps.unmounted s at may

  changes_at : (at : Result Position Errno) (s : State) (change : Change) → tested at (change_tests change s.kernel) ≡ None → R s [] (with_half (from_position at s.kernel (changed_at change s.kernel)) s)
  changes_at (Err e) s change may = absurd cc
  changes_at (Ok at) s change may = keeps.changed s change at may

  kind_told : (kind : Option MountState) (s : State) → Leaves R s (administration.kind_told kind s)
  kind_told None s = same s _
  kind_told (Some kind) s = same s _

  -- ---- walkers

  goes_on : (o : kernel.CallOutcome) (s : State) (moment : ℕ) → walks.Leaves P s.kernel o → Leaves R s (goes (kernel.at_moment moment o) s)
  goes_on (kernel.Proceeds progress shown made) s moment l = record { well = keeps.walked s shown made moment l.well }
  goes_on (kernel.Fails e) s moment l = refuses s e

  leave_from : (inside : Option ℕ) (s : State) (walker : ℕ) → mount_of_walker s.kernel.uses walker ≡ inside →
      Leaves R s (unless (if is_some inside then None else Some errnos.EINVAL) s (with_kernel answers.Done (leaving inside walker) (without_use walker s.kernel) s))
  leave_from None s walker is = refuses s _
  leave_from (Some mount) s walker is = record { well = keeps.left s walker mount is }

  -- ---- what the daemon asks for

  repeats : (s : State) (attach token : ℕ) → Leaves R s (requests.repeat_outcome s attach token)
  repeats s attach token =
      in_either_case s (not (is_some (fs_of_attach s.kernel attach))) _ _ (refuses s _) (in_either_case s (is_some (token_of s.kernel.waits.tokens token)) _ _ (refuses s _) (refuses s _))

  closes : (s : State) (fs : ℕ) → Leaves R s (with_kernel answers.Done (catatonic_observations fs s.kernel) (made_catatonic fs s.kernel) s)
  closes s fs = record { well = keeps.made_catatonic s fs }

  closes_if : (live : Bool) (s : State) (fs : ℕ) → Leaves R s (with_kernel answers.Done (if live then catatonic_observations fs s.kernel else []) (if live then made_catatonic fs s.kernel else s.kernel) s)
  closes_if true s fs = closes s fs
  closes_if false s fs = same s _

  reattaches : (s : State) (fs : ℕ) → pipe_refusal s.kernel fs ≡ None → Leaves R s (requests.reattaches s fs)
  reattaches s fs may =
      let first = test_passed (not (is_some (autofs_of s.kernel.triggers fs))) _ _ may in
      let row = value_where_some (autofs_of s.kernel.triggers fs) (true_where_not_false _ first.0) in
      record { well = keeps.reattached s fs row.0 row.1 (test_passed (is_live s.kernel fs) _ (attach_refusal s.kernel) first.1).0 }

  reattach : (s : State) (fs : ℕ) → Leaves R s (requests.reattach_outcome s fs)
  reattach s fs =
      unless_refused (requests.reattach_refused s fs) s (requests.reattaches s fs) (λ may. reattaches s fs (first_passed (pipe_refusal s.kernel fs) (reattach_refusal fs s.daemon) may))

  -- ---- jobs

  takes : (s : State) (row : QueuedRow) (token : ℕ) (bytes : Option (List ℕ)) → queued_of s.kernel.queue token ≡ Some row → deliveries.may_take s row bytes ≡ true → Leaves R s (deliveries.takes s row)
  takes s row token bytes is may =
      let fine = (both_of_and (deliveries.has_bytes bytes row) _ may).1 in
      let tests = no_fault (knows s.daemon row.packet.dev) (holds s.daemon row.packet.dev row.attach) (is_busy s.daemon row.packet) fine in
      record { well = keeps.delivered s token row (record { queued = is; held = tests.0; free = tests.1 }) }

  delivered_at : (row : Option QueuedRow) (s : State) (token : ℕ) (bytes : Option (List ℕ)) → queued_of s.kernel.queue token ≡ row → Leaves R s (deliveries.delivered_at row s bytes)
  delivered_at None s token bytes is = refuses s _
  delivered_at (Some row) s token bytes is = where_true s (deliveries.may_take s row bytes) _ _ (takes s row token bytes is) (refuses s _)

  -- nothing but the job goes on
  rests : (s : State) (row : JobPlan) (a : Act) (outcome : job.Outcome) (answer : Answer) → IsNext Acts s row a → Rests a outcome → Leaves R s (acts.goes_on s row outcome answer [] s.kernel)
  rests s row a outcome answer i r = record { well = keeps.rested s row a outcome i r }

  mkdir : (e : Option Errno) (s : State) (row : JobPlan) (trigger : Trigger) → IsNext Acts s row (act.Mkdir trigger) → Leaves R s (acts.mkdir_by e s row trigger)
  mkdir None s row trigger i = record { well = keeps.directory_made s row trigger i }
  mkdir (Some errnos.EEXIST) s row trigger i = rests s row (act.Mkdir trigger) came.Done _ i (record { moves = tt; writes = refl; acknowledges = refl })
  mkdir (Some _) s row trigger i = refuses s _

  mount_fails : (s : State) (row : JobPlan) (trigger : Trigger) (entry : EntryText) (error : FailNo) → IsNext Acts s row (act.Mount trigger entry) → Leaves R s (acts.mount_fails s row error)
  mount_fails s row trigger entry error i = rests s row (act.Mount trigger entry) (came.Failed error) _ i (record { moves = (error, refl); writes = refl; acknowledges = refl })

  mount_by : (e : Option Errno) (s : State) (row : JobPlan) (trigger : Trigger) (entry : EntryText) → IsNext Acts s row (act.Mount trigger entry) → mount_on_refusal s.kernel row.attach trigger ≡ e → Leaves R s (acts.mount_by e s row trigger)
  mount_by None s row trigger entry i may = record { well = keeps.mounted_on s row trigger entry i may }
  mount_by (Some e) s row trigger entry i may = mount_fails s row trigger entry ENOENT i

  mount_tried : (failure : Option FailNo) (s : State) (row : JobPlan) (trigger : Trigger) (entry : EntryText) → IsNext Acts s row (act.Mount trigger entry) → Leaves R s (acts.mount_tried failure s row trigger)
  mount_tried (Some error) s row trigger entry i = mount_fails s row trigger entry error i
  mount_tried None s row trigger entry i = mount_by (mount_on_refusal s.kernel row.attach trigger) s row trigger entry i refl

  mount_act : (s : State) (row : JobPlan) (trigger : Trigger) (entry : EntryText) (failure : Option FailNo) → IsNext Acts s row (act.Mount trigger entry) → Leaves R s (acts.mount_act s row trigger failure)
  mount_act s row trigger entry failure i =
      in_either_case s (not (is_current s.kernel trigger.fs row.attach)) _ _ (refuses s _) (mount_tried failure s row trigger entry i)

  umounts_from : (mounted : Option ℕ) (s : State) (row : JobPlan) (trigger : Trigger) → IsNext Acts s row (act.Umount trigger) → is_current s.kernel trigger.fs row.attach ≡ true → mounted_on s.kernel trigger ≡ mounted → mounts.umount_from_tests mounted s.kernel ≡ None →
      R s (seen.Unmounted (gone_with s.kernel mounted) ∷ []) (going row came.Done (without_mounts (gone_with s.kernel mounted) s.kernel) s)
  umounts_from None s row trigger i current is may = absurd cc
  umounts_from (Some mount) s row trigger i current is may = keeps.unmounted_on s row trigger mount i (record { current = current; mounted = is; tests = may })

  umount_fails : (s : State) (row : JobPlan) (trigger : Trigger) (error : FailNo) → IsNext Acts s row (act.Umount trigger) → Leaves R s (acts.umount_fails s row error)
  umount_fails s row trigger error i = rests s row (act.Umount trigger) (came.Failed error) _ i (record { moves = (error, refl); writes = refl; acknowledges = refl })

  umount_by : (e : Option Errno) (s : State) (row : JobPlan) (trigger : Trigger) → IsNext Acts s row (act.Umount trigger) → umount_from_refusal s.kernel row.attach trigger ≡ e → Leaves R s (acts.umount_by e s row trigger)
  umount_by None s row trigger i may =
      let tests = test_passed (not (is_current s.kernel trigger.fs row.attach)) _ (mounts.umount_from_tests (mounted_on s.kernel trigger) s.kernel) may in
      record { well = umounts_from (mounted_on s.kernel trigger) s row trigger i (true_where_not_false _ tests.0) refl tests.1 }
  umount_by (Some e) s row trigger i may = umount_fails s row trigger ENOENT i

  umount_tried : (failure : Option FailNo) (s : State) (row : JobPlan) (trigger : Trigger) → IsNext Acts s row (act.Umount trigger) → Leaves R s (acts.umount_tried failure s row trigger)
  umount_tried (Some error) s row trigger i = umount_fails s row trigger error i
  umount_tried None s row trigger i = umount_by (umount_from_refusal s.kernel row.attach trigger) s row trigger i refl

  umount_act : (s : State) (row : JobPlan) (trigger : Trigger) (failure : Option FailNo) → IsNext Acts s row (act.Umount trigger) → Leaves R s (acts.umount_act s row trigger failure)
  umount_act s row trigger failure i =
      in_either_case s (not (is_current s.kernel trigger.fs row.attach)) _ _ (refuses s _) (umount_tried failure s row trigger i)

  rmdir : (e : Option Errno) (s : State) (row : JobPlan) (trigger : Trigger) → IsNext Acts s row (act.Rmdir trigger) → Leaves R s (acts.rmdir_by e s row trigger)
  rmdir None s row trigger i = record { well = keeps.directory_gone s row trigger i }
  rmdir (Some errnos.ENOENT) s row trigger i = rests s row (act.Rmdir trigger) came.Done _ i (record { moves = tt; writes = refl; acknowledges = refl })
  rmdir (Some errnos.EBUSY) s row trigger i = rests s row (act.Rmdir trigger) came.Done _ i (record { moves = tt; writes = refl; acknowledges = refl })
  rmdir (Some _) s row trigger i = refuses s _

  record_act : (s : State) (row : JobPlan) (trigger : Trigger) (entry : Option Record) → IsNext Acts s row (act.Record trigger entry) → Leaves R s (acts.record_act s row trigger entry)
  record_act s row trigger entry i =
      where_false s (not (holds s.daemon row.trigger.fs row.attach)) _ _ (refuses s _) (λ held. record { well = keeps.recorded s row trigger entry i (true_where_not_false _ held) })

  reply : (e : Option Errno) (s : State) (row : JobPlan) (status : Status) → IsNext Acts s row (act.Reply status) → answer_refusal s.kernel row.attach row.token ≡ e → Leaves R s (acts.reply_by e s row status)
  reply (Some e) s row status i may = refuses s e
  reply None s row status i may =
      let its = answered_row (fs_of_attach s.kernel row.attach) s.kernel row.token may in
      record { well = keeps.replied s row status its.0 i its.1 }

  acted : (next : Option Act) (s : State) (row : JobPlan) (failure : Option FailNo) → Acts row.token → next_of row.plan ≡ next → job_of s.daemon.jobs row.token ≡ Some row → Leaves R s (acts.acted next s row failure)
  acted None s row failure fit e is = refuses s _
  acted (Some (act.Mkdir trigger)) s row failure fit e is = mkdir (mkdir_refusal s.kernel row.attach trigger) s row trigger (record { acts = fit; is = is; next = e })
  acted (Some (act.Mount trigger entry)) s row failure fit e is = mount_act s row trigger entry failure (record { acts = fit; is = is; next = e })
  acted (Some (act.Umount trigger)) s row failure fit e is = umount_act s row trigger failure (record { acts = fit; is = is; next = e })
  acted (Some (act.Rmdir trigger)) s row failure fit e is = rmdir (rmdir_refusal s.kernel row.attach trigger) s row trigger (record { acts = fit; is = is; next = e })
  acted (Some (act.Record trigger entry)) s row failure fit e is = record_act s row trigger entry (record { acts = fit; is = is; next = e })
  acted (Some (act.Reply status)) s row failure fit e is = reply (answer_refusal s.kernel row.attach row.token) s row status (record { acts = fit; is = is; next = e }) refl

  -- the job that is found has the number
  acted_at : (row : Option JobPlan) (s : State) (number : ℕ) (failure : Option FailNo) → Acts number → job_of s.daemon.jobs number ≡ row → Leaves R s (acts.acted_at row s failure)
  acted_at None s number failure fit e = refuses s _
  acted_at (Some row) s number failure fit e =
      let same : row.token ≡ number = equal_by_test row.token number (found_passes (λ (r : JobPlan). r.token == number) s.daemon.jobs row e) in
      acted (next_of row.plan) s row failure (subst Acts (sym same) fit) refl (subst (λ (n : ℕ). job_of s.daemon.jobs n ≡ Some row) (sym same) e)

  -- ---- every event

  pub outcome : (s : State) (event : Event) → IsKnown Fits Acts s event → Leaves R s (outcome_of s event)
  outcome s (events.Attach path) fit = attached_as (point_of s.daemon path) s path
  outcome s (events.Mount ns path) fit = unless_refused (mount_refusal s.kernel ns path) s _ (λ may. record { well = mounts_at (position_at s.kernel ns path) s ns path refl may })
  outcome s (events.Bind ns source target) fit = unless_refused (bind_refusal s.kernel ns source target) s _ (λ may. record { well = binds_at (position_at s.kernel ns source) (position_at s.kernel ns target) s may })
  outcome s (events.Umount ns path) fit = unless_refused (plain_umount_refusal s.kernel ns path) s _ (λ may. record { well = umounts_at (position_at s.kernel ns path) s may })
  outcome s (events.Change ns path change) fit = unless_refused (plain_change_refusal change s.kernel ns path) s _ (λ may. record { well = changes_at (position_at s.kernel ns path) s change may })
  outcome s (events.Kind ns path) fit = unless_refused (kind_refusal s.kernel ns path) s _ (λ may. kind_told (kind_at s.kernel ns path) s)
  outcome s (events.CopyNamespace ns form) fit = unless_refused (copy_refusal ns s.kernel.table) s _ (λ may. record { well = keeps.copied s ns form may })
  outcome s (events.DropNamespace ns) fit = unless_refused (drop_refusal (is_used s.kernel.uses) ns s.kernel.table) s _ (λ may. record { well = keeps.dropped s ns may })
  outcome s (events.Walk walker ns path now pipe) fit =
      let moment = moment_of s.kernel now in
      goes_on _ s moment (walks.walk Fits P keeps.walks pipe s.kernel (first_attempt walker ns path moment) fit)
  outcome s (events.Resume walker now pipe) fit =
      let moment = moment_of s.kernel now in
      goes_on _ s moment (walks.resume Fits P keeps.walks pipe s.kernel walker moment fit)
  outcome s (events.Leave walker) fit = leave_from (mount_of_walker s.kernel.uses walker) s walker refl
  outcome s (events.Expire walker fs now immediate pipe) fit =
      let moment = moment_of s.kernel now in
      goes_on _ s moment (walks.expire Fits P keeps.walks pipe s.kernel walker fs moment immediate)
  outcome s (events.Deliver token bytes) fit = delivered_at (queued_of s.kernel.queue token) s token bytes refl
  outcome s (events.Act job failure) fit = acted_at (job_of s.daemon.jobs job) s job failure fit refl
  outcome s (events.Repeat attach token status) fit = repeats s attach token
  outcome s (events.Catatonic attach fs) fit = unless_refused (catatonic_refusal s.kernel attach fs) s _ (λ may. closes s fs)
  outcome s (events.AdminCatatonic fs) fit = unless_refused (admin_catatonic_refusal s.kernel fs) s _ (λ may. closes_if (is_live s.kernel fs) s fs)
  outcome s (events.Timeout attach fs timeout) fit = unless_refused (timeout_refusal s.kernel attach fs) s _ (λ may. record { well = keeps.timed s fs timeout })
  outcome s events.Die fit = record { well = keeps.died s }
  outcome s (events.Reattach fs) fit = reattach s fs
  outcome s (events.Record trigger) fit = in_either_case s (not (is_trigger s.kernel trigger)) _ _ (refuses s _) (same s _)

-- where nothing is asked of jobs
abbrev pub AnyJob : ℕ → Type 0
AnyJob number = Unit {0}

-- where nothing is asked of paths either
pub any_event : (s : State) (event : Event) → IsKnown walks.AnyPath AnyJob s event
any_event s (events.Walk walker ns path now pipe) = tt
any_event s (events.Resume walker now pipe) = λ other row e. tt
any_event s (events.Act job failure) = tt
any_event s _ = tt
