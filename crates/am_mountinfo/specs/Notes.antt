-- What stands behind the mounts of a world, each in a comment of its own: what is open, queued,
-- written down and at work, and where walkers are. Own choice (docs/DECISIONS.md, "A world is
-- printed as Linux prints mounts").
use Rattle.std.specs.Prelude.{ℕ, List, [], ◌∷◌, ◌++◌, codes, decimal, Option, None, Some}
use Rattle.std.specs.List.{flat_map}
use Rattle.std.specs.Option.{option_map}
use Rattle.am_names.specs.{WaitRow, Status}
use Rattle.am_names.specs.declared.trigger.Trigger.{Trigger}
use Rattle.am_daemon.specs.{DaemonState, JobPlan}
use Rattle.am_expire.specs.{Use}
use Rattle.am_job.specs.{Act, next_of}
use Rattle.am_job.specs.declared.act.Act.TheVariants as acts
use Rattle.am_kernel.specs.{KernelState, WalkRow}
use Rattle.am_machine.specs.State.{State}
use Rattle.am_script.specs.{place_text}
use Rattle.am_state.specs.{RecordRow, QueuedRow, Obs}
use Rattle.am_state.specs.declared.obs.Obs.TheVariants as seen
use Rattle.am_views.specs.{status_part, obs_text, trigger_part}
use Rattle.am_wait.specs.{WaitRows, tokens_of, token_of, waiters_of, wait_of}
use Rattle.am_mountinfo.specs.Lasting.{daemon_lasting, kernel_lasting}

-- a comment that says what a trace says of an observation
unfoldable pub obs_note : Obs → List ℕ
obs_note obs = codes "# " ++ (obs_text obs ++ 10 ∷ [])

-- ---- open tokens

-- walkers in the order in which they joined, each behind a blank
abbrev pub walkers_text : List ℕ → List ℕ
walkers_text walkers = flat_map (λ walker. codes " " ++ decimal walker) walkers

-- the trigger, if there is one
abbrev pub trigger_text : Option Trigger → List ℕ
trigger_text None = []
trigger_text (Some trigger) = trigger_part trigger

-- an open token, its waiters and its trigger
abbrev pub token_note : WaitRows → ℕ → List ℕ
token_note w token =
    codes "# open " ++ decimal token ++
    (codes " waiters" ++
    (walkers_text (waiters_of w.tokens token) ++
    (trigger_text (option_map (λ row. row.trigger) (token_of w.tokens token)) ++ 10 ∷ [])))

-- ---- the daemon

-- a packet in the queue
abbrev pub packet_note : QueuedRow → List ℕ
packet_note row = obs_note (seen.Queued row.token row.attach row.packet)

-- a record of the daemon's book
abbrev pub record_note : RecordRow → List ℕ
record_note row = obs_note (seen.Recorded row.trigger (Some row.entry))

-- the act that comes next, by the word with which an answer says that it is done
abbrev pub act_text : Option Act → List ℕ
act_text None = []
act_text (Some (acts.Mkdir trigger)) = codes " next mkdir"
act_text (Some (acts.Mount trigger entry)) = codes " next mount"
act_text (Some (acts.Umount trigger)) = codes " next umount"
act_text (Some (acts.Rmdir trigger)) = codes " next rmdir"
act_text (Some (acts.Record trigger entry)) = codes " next record"
act_text (Some (acts.Reply status)) = codes " next reply"

-- a job that hasn't ended, and how far it is
abbrev pub job_note : JobPlan → List ℕ
job_note job =
    codes "# job " ++ decimal job.token ++
    (codes " attach " ++ decimal job.attach ++
    (act_text (next_of job.plan) ++ (trigger_part job.trigger ++ 10 ∷ [])))

-- ---- walkers

-- the status, if there is one
abbrev pub status_text : Option Status → List ℕ
status_text None = []
status_text (Some status) = status_part status

-- the token that is waited on, and the status with which it was released
abbrev pub wait_text : Option WaitRow → List ℕ
wait_text None = []
wait_text (Some wait) = codes " token " ++ decimal wait.token ++ status_text wait.status

-- a walker that waits, or has still to collect its status, and where it walks to
abbrev pub walk_note : WaitRows → WalkRow → List ℕ
walk_note w row =
    codes "# walk " ++ decimal row.walker ++
    (wait_text (wait_of w.waits row.walker) ++
    (codes " ns " ++ decimal row.ns ++ (codes " " ++ (place_text row.path ++ 10 ∷ []))))

-- a walker that is inside of a mount
abbrev pub use_note : Use → List ℕ
use_note row = obs_note (seen.Entered row.walker row.mount)

-- ---- all of them

-- the open tokens of a file system, in rising order
abbrev pub fs_notes : WaitRows → ℕ → List ℕ
fs_notes w fs = flat_map (token_note w) (tokens_of w.tokens fs)

-- those of all file systems, in order of attaching
abbrev pub tokens_notes : KernelState → List ℕ
tokens_notes k = flat_map (λ row. fs_notes k.waits row.fs) k.attached

-- the packets in the queue, in order
abbrev pub packets_notes : KernelState → List ℕ
packets_notes k = flat_map packet_note k.queue

-- the records of the daemon's book
abbrev pub book_notes : DaemonState → List ℕ
book_notes d = flat_map record_note d.book

-- the jobs that haven't ended
abbrev pub jobs_notes : DaemonState → List ℕ
jobs_notes d = flat_map job_note d.jobs

-- the walkers that wait or have still to collect their status
abbrev pub walks_notes : KernelState → List ℕ
walks_notes k = flat_map (walk_note k.waits) k.walks

-- the walkers that are inside of mounts
abbrev pub uses_notes : KernelState → List ℕ
uses_notes k = flat_map use_note k.uses

-- what the kernel holds beside open tokens
abbrev pub kernel_notes : KernelState → List ℕ
kernel_notes k = packets_notes k ++ (walks_notes k ++ (uses_notes k ++ kernel_lasting k))

-- what the daemon holds
abbrev pub daemon_notes : DaemonState → List ℕ
daemon_notes d = book_notes d ++ (jobs_notes d ++ daemon_lasting d)

-- all of them, open tokens first
abbrev pub notes : State → List ℕ
notes s = tokens_notes s.kernel ++ (kernel_notes s.kernel ++ daemon_notes s.daemon)
