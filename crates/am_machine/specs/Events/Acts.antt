-- The daemon's jobs go on, act by act (autofs.rst, "Communicating with autofs: root directory
-- ioctls").
use Rattle.std.specs.Prelude.{ℕ, ◌+◌, not, List, [], ◌∷◌, Option, Some, None, if◌then◌else◌}
use Rattle.am_names.specs.declared.fail_no.FailNo.{FailNo}
use Rattle.am_names.specs.declared.fail_no.FailNo.TheVariants as error
use Rattle.am_names.specs.declared.errno.Errno.{Errno}
use Rattle.am_names.specs.declared.errno.Errno.TheVariants.{ENOENT, EPERM, EBUSY, EEXIST, EINVAL}
use Rattle.am_names.specs.declared.trigger.Trigger.{Trigger}
use Rattle.am_names.specs.{Status}
use Rattle.am_state.specs.{Record, Obs}
use Rattle.am_state.specs.declared.obs.Obs.TheVariants as seen
use Rattle.am_kernel.specs.{KernelState, is_current, mkdir_refusal, with_directory, rmdir_refusal, without_directory, location_of, coming, mount_on_refusal, with_mount_on, umount_from_refusal, gone_from, without_mounts, answer_refusal, acknowledged, answering}
use Rattle.am_job.specs.{Act, next_of}
use Rattle.am_job.specs.declared.act.Act.TheVariants as act
use Rattle.am_job.specs.declared.act.Outcome.TheVariants as came
use Rattle.am_job.specs.declared.act.Outcome as job
use Rattle.am_daemon.specs.{JobPlan, holds, job_of, finished}
use Rattle.am_machine.specs.declared.answer.Answer.{Answer}
use Rattle.am_machine.specs.declared.answer.Answer.TheVariants as answers
use Rattle.am_machine.specs.State.{State}
use Rattle.am_machine.specs.EventOutcome.{EventOutcome, refused}

-- this has come of the job's next act, and the job goes on
abbrev pub goes_on : State → JobPlan → job.Outcome → Answer → List Obs → KernelState → EventOutcome
goes_on s row came answer shown k = record {
  answer = answer;
  seen = shown;
  state = record s { kernel = k; daemon = finished row.token came s.daemon };
}

-- a directory that is there already counts as made
abbrev pub mkdir_by : Option Errno → State → JobPlan → Trigger → EventOutcome
mkdir_by None s row trigger = goes_on s row came.Done answers.DidMkdir [] (with_directory trigger s.kernel)
mkdir_by (Some EEXIST) s row trigger = goes_on s row came.Done answers.DidMkdir [] s.kernel
mkdir_by (Some e) s row trigger = refused s e

-- the mount fails with this error
abbrev pub mount_fails : State → JobPlan → FailNo → EventOutcome
mount_fails s row error = goes_on s row (came.Failed error) answers.FailedMount [] s.kernel

-- the mount is made on the trigger, with its copies
abbrev pub mounts : State → JobPlan → Trigger → EventOutcome
mounts s row trigger =
    let mount = s.kernel.table.last_mount + 1 in
    goes_on s row (came.Made mount) (answers.DidMount mount)
    (seen.Mounted (coming s.kernel (location_of s.kernel trigger.fs)) ∷ [])
    (with_mount_on trigger s.kernel)

-- a mount that the kernel refuses has failed with ENOENT
abbrev pub mount_by : Option Errno → State → JobPlan → Trigger → EventOutcome
mount_by None s row trigger = mounts s row trigger
mount_by (Some e) s row trigger = mount_fails s row error.ENOENT

-- the mount fails, or the kernel is asked for it
abbrev pub mount_tried : Option FailNo → State → JobPlan → Trigger → EventOutcome
mount_tried (Some error) s row trigger = mount_fails s row error
mount_tried None s row trigger =
    mount_by (mount_on_refusal s.kernel row.attach trigger) s row trigger

-- a mount of an old attachment is refused before it can fail
abbrev pub mount_act : State → JobPlan → Trigger → Option FailNo → EventOutcome
mount_act s row trigger failure =
    if not (is_current s.kernel trigger.fs row.attach) then refused s EPERM
    else mount_tried failure s row trigger

-- the unmount fails with this error
abbrev pub umount_fails : State → JobPlan → FailNo → EventOutcome
umount_fails s row error = goes_on s row (came.Failed error) answers.FailedUmount [] s.kernel

-- what is mounted on the trigger goes, with its copies
abbrev pub umounts : State → JobPlan → Trigger → EventOutcome
umounts s row trigger =
    let gone = gone_from s.kernel trigger in
    goes_on s row came.Done answers.DidUmount (seen.Unmounted gone ∷ [])
    (without_mounts gone s.kernel)

-- so has an unmount
abbrev pub umount_by : Option Errno → State → JobPlan → Trigger → EventOutcome
umount_by None s row trigger = umounts s row trigger
umount_by (Some e) s row trigger = umount_fails s row error.ENOENT

-- the unmount fails, or the kernel is asked for it
abbrev pub umount_tried : Option FailNo → State → JobPlan → Trigger → EventOutcome
umount_tried (Some error) s row trigger = umount_fails s row error
umount_tried None s row trigger =
    umount_by (umount_from_refusal s.kernel row.attach trigger) s row trigger

-- an unmount of an old attachment is refused before it can fail
abbrev pub umount_act : State → JobPlan → Trigger → Option FailNo → EventOutcome
umount_act s row trigger failure =
    if not (is_current s.kernel trigger.fs row.attach) then refused s EPERM
    else umount_tried failure s row trigger

-- a directory that has gone, or on which something is mounted, counts as removed
abbrev pub rmdir_by : Option Errno → State → JobPlan → Trigger → EventOutcome
rmdir_by None s row trigger = goes_on s row came.Done answers.DidRmdir [] (without_directory trigger s.kernel)
rmdir_by (Some ENOENT) s row trigger = goes_on s row came.Done answers.DidRmdir [] s.kernel
rmdir_by (Some EBUSY) s row trigger = goes_on s row came.Done answers.DidRmdir [] s.kernel
rmdir_by (Some e) s row trigger = refused s e

-- the daemon holds the job's attachment
abbrev pub record_act : State → JobPlan → Trigger → Option Record → EventOutcome
record_act s row trigger entry =
    if not (holds s.daemon row.trigger.fs row.attach) then refused s EPERM
    else goes_on s row came.Done answers.DidRecord (seen.Recorded trigger entry ∷ []) s.kernel

-- the token closes, its waiters are released, and the job ends
abbrev pub reply_by : Option Errno → State → JobPlan → Status → EventOutcome
reply_by (Some e) s row status = refused s e
reply_by None s row status =
    goes_on s row came.Done answers.DidReply (answering row.token status s.kernel)
    (acknowledged row.token status s.kernel)

-- the next act of a job, one line an act; a job that has ended has none
abbrev pub acted : Option Act → State → JobPlan → Option FailNo → EventOutcome
acted None s row failure = refused s EINVAL
acted (Some (act.Mkdir trigger)) s row failure = mkdir_by (mkdir_refusal s.kernel row.attach trigger) s row trigger
acted (Some (act.Mount trigger entry)) s row failure = mount_act s row trigger failure
acted (Some (act.Umount trigger)) s row failure = umount_act s row trigger failure
acted (Some (act.Rmdir trigger)) s row failure = rmdir_by (rmdir_refusal s.kernel row.attach trigger) s row trigger
acted (Some (act.Record trigger entry)) s row failure = record_act s row trigger entry
acted (Some (act.Reply status)) s row failure = reply_by (answer_refusal s.kernel row.attach row.token) s row status

-- there is a job of that number
abbrev pub acted_at : Option JobPlan → State → Option FailNo → EventOutcome
acted_at None s failure = refused s EINVAL
acted_at (Some row) s failure = acted (next_of row.plan) s row failure

-- the job goes on by its next act, which fails with this error if it is a mount or an unmount
abbrev pub act_outcome : State → ℕ → Option FailNo → EventOutcome
act_outcome s job failure = acted_at (job_of s.daemon.jobs job) s failure
