-- The answers to most events own no memory.
use Rattle.std.proofs.Common.{◌≡◌, ℕ, Bool, true, false, not, List, Option, Some, None, refl}
use Rattle.std.specs.Prelude.{is_some, is_none, if◌then◌else◌}
use Rattle.am_names.specs.declared.fail_no.FailNo.{FailNo}
use Rattle.am_names.specs.declared.errno.Errno.{Errno}
use Rattle.am_names.specs.declared.errno.Errno.TheVariants.{ENOENT, EBUSY, EEXIST}
use Rattle.am_names.specs.declared.trigger.Trigger.{Trigger}
use Rattle.am_names.specs.{Status, PipeState}
use Rattle.am_names.specs.declared.trigger.PipeState.TheVariants.{Room, Full, Gone}
use Rattle.am_group.specs.{MountState}
use Rattle.am_state.specs.{QueuedRow}
use Rattle.am_wait.specs.{token_of, is_exhausted, is_full}
use Rattle.am_trigger.specs.{autofs_of}
use Rattle.am_propagate.specs.{copy_refusal}
use Rattle.am_expire.specs.{leave_refusal}
use Rattle.am_job.specs.{Act, next_of}
use Rattle.am_job.specs.declared.act.Act.TheVariants as act
use Rattle.am_kernel.specs.{KernelState, is_current, is_busy, attach_of, fs_of_attach, is_trigger, moment_of, mount_refusal, bind_refusal, plain_change_refusal, kind_refusal, kind_at, catatonic_refusal, admin_catatonic_refusal, mkdir_refusal, rmdir_refusal, mount_on_refusal, umount_from_refusal, timeout_refusal, answer_refusal, queued_of}
use Rattle.am_kernel.specs.CallOutcome as kernel
use Rattle.am_kernel.specs.Expires as expires
use Rattle.am_daemon.specs.{Point, point_of, JobPlan, holds, job_of}
use Rattle.am_machine.specs.{Event, unless, outcome_of, goes, attach_refusal, attached_as, kind_told, delivered_at, may_take, mount_tried, umount_tried, mkdir_by, mount_by, umount_by, rmdir_by, reply_by, acted, acted_at, reattach_refused}
use Rattle.am_machine.specs.declared.event.Event.TheVariants as events
use Rattle.am_machine.specs.State.{State}
use Rattle.am_machine.specs.EventOutcome.{EventOutcome}
use Rattle.am_world.specs.{owns}

pub record Free (o : EventOutcome) : Type 0 where
  pub free : owns o.answer ≡ false

unless_free : (first : Option Errno) (s : State) (done : EventOutcome) → owns done.answer ≡ false → Free (unless first s done)
unless_free None s done h = record { free = h }
unless_free (Some e) s done h = record { free = refl }

either_free : (b : Bool) (first second : EventOutcome) → Free first → Free second → Free (if b then first else second)
either_free true first second h g = h
either_free false first second h g = g

attached_free : (point : Option Point) (s : State) (path : List (List ℕ)) → Free (attached_as point s path)
attached_free None s path = record { free = refl }
attached_free (Some point) s path = unless_free (attach_refusal s path) s _ refl

kind_free : (kind : Option MountState) (s : State) → owns (kind_told kind s).answer ≡ false
kind_free None s = refl
kind_free (Some kind) s = refl

-- ---- expiries

record Goes_free (s : State) (o : kernel.CallOutcome) : Type 0 where
  goes_free : owns (goes o s).answer ≡ false

either_goes_free : (s : State) (b : Bool) (first second : kernel.CallOutcome) → Goes_free s first → Goes_free s second → Goes_free s (if b then first else second)
either_goes_free s true first second h g = h
either_goes_free s false first second h g = g

refusal_goes_free : (s : State) (e : Errno) → Goes_free s (kernel.Fails e)
refusal_goes_free s e = record { goes_free = refl }

expires_by : (pipe : PipeState) (s : State) (k : KernelState) (walker : ℕ) (trigger : Trigger) (attach : ℕ) → Goes_free s (expires.expires_by pipe k walker trigger attach)
expires_by Room s k walker trigger attach = record { goes_free = refl }
expires_by Full s k walker trigger attach = record { goes_free = refl }
expires_by Gone s k walker trigger attach = record { goes_free = refl }

expires_next : (next : Option Trigger) (pipe : PipeState) (s : State) (k : KernelState) (walker attach : ℕ) → Goes_free s (expires.expires_next next pipe k walker attach)
expires_next None pipe s k walker attach = refusal_goes_free s _
expires_next (Some trigger) pipe s k walker attach =
    either_goes_free s (is_exhausted k.waits) _ _ (refusal_goes_free s _) (either_goes_free s (is_full k.waits) _ _ (refusal_goes_free s _) (expires_by pipe s k walker trigger attach))

expires_under : (attach : Option ℕ) (pipe : PipeState) (s : State) (k : KernelState) (walker : ℕ) (next : Option Trigger) → Goes_free s (expires.expires_under attach pipe k walker next)
expires_under None pipe s k walker next = refusal_goes_free s _
expires_under (Some attach) pipe s k walker next = expires_next next pipe s k walker attach

at_moment_goes_free : (o : kernel.CallOutcome) (s : State) (moment : ℕ) → Goes_free s o → Goes_free s (kernel.at_moment moment o)
at_moment_goes_free (kernel.Proceeds answer shown made) s moment h = record { goes_free = h.goes_free }
at_moment_goes_free (kernel.Fails e) s moment h = h

expire_free : (pipe : PipeState) (s : State) (walker fs now : ℕ) (immediate : Bool) → Goes_free s (expires.expire_outcome pipe s.kernel walker fs now immediate)
expire_free pipe s walker fs now immediate =
    let moment = moment_of s.kernel now in
    at_moment_goes_free (expires.expire_at pipe s.kernel walker fs moment immediate) s moment
    (either_goes_free s (is_none (autofs_of s.kernel.triggers fs)) _ _ (refusal_goes_free s _)
    (either_goes_free s (is_busy s.kernel walker) _ _ (refusal_goes_free s _)
    (expires_under (attach_of s.kernel fs) pipe s s.kernel walker (expires.next_of s.kernel fs moment immediate))))

-- ---- deliveries and acts

delivered_free : (row : Option QueuedRow) (s : State) (bytes : Option (List ℕ)) → Free (delivered_at row s bytes)
delivered_free None s bytes = record { free = refl }
delivered_free (Some row) s bytes = either_free (may_take s row bytes) _ _ (record { free = refl }) (record { free = refl })

mkdir_free : (first : Option Errno) (s : State) (row : JobPlan) (g : Trigger) → Free (mkdir_by first s row g)
mkdir_free None s row g = record { free = refl }
mkdir_free (Some EEXIST) s row g = record { free = refl }
mkdir_free (Some _) s row g = record { free = refl }

rmdir_free : (first : Option Errno) (s : State) (row : JobPlan) (g : Trigger) → Free (rmdir_by first s row g)
rmdir_free None s row g = record { free = refl }
rmdir_free (Some ENOENT) s row g = record { free = refl }
rmdir_free (Some EBUSY) s row g = record { free = refl }
rmdir_free (Some _) s row g = record { free = refl }

mount_free : (first : Option Errno) (s : State) (row : JobPlan) (g : Trigger) → Free (mount_by first s row g)
mount_free None s row g = record { free = refl }
mount_free (Some e) s row g = record { free = refl }

umount_free : (first : Option Errno) (s : State) (row : JobPlan) (g : Trigger) → Free (umount_by first s row g)
umount_free None s row g = record { free = refl }
umount_free (Some e) s row g = record { free = refl }

reply_free : (first : Option Errno) (s : State) (row : JobPlan) (g : Status) → Free (reply_by first s row g)
reply_free None s row g = record { free = refl }
reply_free (Some e) s row g = record { free = refl }

mount_tried_free : (failure : Option FailNo) (s : State) (row : JobPlan) (g : Trigger) → Free (mount_tried failure s row g)
mount_tried_free (Some error) s row g = record { free = refl }
mount_tried_free None s row g = mount_free (mount_on_refusal s.kernel row.attach g) s row g

umount_tried_free : (failure : Option FailNo) (s : State) (row : JobPlan) (g : Trigger) → Free (umount_tried failure s row g)
umount_tried_free (Some error) s row g = record { free = refl }
umount_tried_free None s row g = umount_free (umount_from_refusal s.kernel row.attach g) s row g

acted_free : (a : Option Act) (s : State) (row : JobPlan) (failure : Option FailNo) → Free (acted a s row failure)
acted_free None s row failure = record { free = refl }
acted_free (Some (act.Mkdir g)) s row failure = mkdir_free (mkdir_refusal s.kernel row.attach g) s row g
acted_free (Some (act.Mount g entry)) s row failure =
    either_free (not (is_current s.kernel g.fs row.attach)) _ _ (record { free = refl }) (mount_tried_free failure s row g)
acted_free (Some (act.Umount g)) s row failure =
    either_free (not (is_current s.kernel g.fs row.attach)) _ _ (record { free = refl }) (umount_tried_free failure s row g)
acted_free (Some (act.Rmdir g)) s row failure = rmdir_free (rmdir_refusal s.kernel row.attach g) s row g
acted_free (Some (act.Record g entry)) s row failure = either_free (not (holds s.daemon row.trigger.fs row.attach)) _ _ (record { free = refl }) (record { free = refl })
acted_free (Some (act.Reply status)) s row failure = reply_free (answer_refusal s.kernel row.attach row.token) s row status

act_free : (row : Option JobPlan) (s : State) (failure : Option FailNo) → Free (acted_at row s failure)
act_free None s failure = record { free = refl }
act_free (Some row) s failure = acted_free (next_of row.plan) s row failure

-- ---- every event but those that tell where a walk arrives, or what has gone

abbrev pub IsOther : Event → Type 0
IsOther (events.Umount ns path) = ⊥
IsOther (events.DropNamespace ns) = ⊥
IsOther (events.Walk walker ns path now pipe) = ⊥
IsOther (events.Resume walker now pipe) = ⊥
IsOther _ = Unit {0}

pub others_free : (s : State) (event : Event) → IsOther event → Free (outcome_of s event)
others_free s (events.Attach path) h = attached_free (point_of s.daemon path) s path
others_free s (events.Mount ns path) h = unless_free (mount_refusal s.kernel ns path) s _ refl
others_free s (events.Bind ns from to) h = unless_free (bind_refusal s.kernel ns from to) s _ refl
others_free s (events.Umount ns path) h = absurd h
others_free s (events.Change ns path change) h = unless_free (plain_change_refusal change s.kernel ns path) s _ refl
others_free s (events.Kind ns path) h = unless_free (kind_refusal s.kernel ns path) s _ (kind_free (kind_at s.kernel ns path) s)
others_free s (events.CopyNamespace ns form) h = unless_free (copy_refusal ns s.kernel.table) s _ refl
others_free s (events.DropNamespace ns) h = absurd h
others_free s (events.Walk walker ns path now pipe) h = absurd h
others_free s (events.Resume walker now pipe) h = absurd h
others_free s (events.Leave walker) h = unless_free (leave_refusal walker s.kernel.uses) s _ refl
others_free s (events.Expire walker fs now immediate pipe) h = record { free = (expire_free pipe s walker fs now immediate).goes_free }
others_free s (events.Deliver token bytes) h = delivered_free (queued_of s.kernel.queue token) s bytes
others_free s (events.Act job ok) h = act_free (job_of s.daemon.jobs job) s ok
others_free s (events.Repeat attach token status) h =
    either_free (not (is_some (fs_of_attach s.kernel attach))) _ _ (record { free = refl }) (either_free (is_some (token_of s.kernel.waits.tokens token)) _ _ (record { free = refl }) (record { free = refl }))
others_free s (events.Catatonic attach fs) h = unless_free (catatonic_refusal s.kernel attach fs) s _ refl
others_free s (events.AdminCatatonic fs) h = unless_free (admin_catatonic_refusal s.kernel fs) s _ refl
others_free s (events.Timeout attach fs timeout) h = unless_free (timeout_refusal s.kernel attach fs) s _ refl
others_free s events.Die h = record { free = refl }
others_free s (events.Reattach fs) h = unless_free (reattach_refused s fs) s _ refl
others_free s (events.Record trigger) h = either_free (not (is_trigger s.kernel trigger)) _ _ (record { free = refl }) (record { free = refl })

pub other_is : (event : Event) → ((ns : ℕ) (path : List (List ℕ)) → event ≡ events.Umount ns path → ⊥) → ((ns : ℕ) → event ≡ events.DropNamespace ns → ⊥) →
    ((walker ns : ℕ) (path : List (List ℕ)) (now : ℕ) (pipe : PipeState) → event ≡ events.Walk walker ns path now pipe → ⊥) → ((walker now : ℕ) (pipe : PipeState) → event ≡ events.Resume walker now pipe → ⊥) → IsOther event
other_is (events.Umount ns path) u d w r = u ns path refl
other_is (events.DropNamespace ns) u d w r = d ns refl
other_is (events.Walk walker ns path now pipe) u d w r = w walker ns path now pipe refl
other_is (events.Resume walker now pipe) u d w r = r walker now pipe refl
other_is _ u d w r = tt
