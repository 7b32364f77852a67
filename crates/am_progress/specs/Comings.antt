-- What is missing can be mounted, and what expires unmounted: where nothing is told to fail, each act of
-- the job comes (autofs.rst, "Mount Traps" and "Mountpoint expiry").
use Rattle.std.specs.Prelude.{◌≡◌, ◌⊎◌, ◌<◌, ℕ, Bool, true, false, List, Option, Some, None}
use Rattle.std.specs.List.{Contains}
use Rattle.am_names.specs.{MountRow, OpenToken, PipeState, WaitRow}
use Rattle.am_names.specs.declared.row.TokenKind.TheVariants.{Missing, Expire}
use Rattle.am_names.specs.declared.trigger.Status.TheVariants.{Ready}
use Rattle.am_names.specs.declared.trigger.Trigger.{Trigger}
use Rattle.am_map.specs.EntryText.{EntryText}
use Rattle.am_state.specs.{QueuedRow}
use Rattle.am_state.specs.declared.daemon_row.Record.TheVariants.{Mounted}
use Rattle.am_group.specs.{Receives}
use Rattle.am_mount.specs.{mount_row}
use Rattle.am_propagate.specs.{umount_refusal}
use Rattle.am_trigger.specs.{place_of}
use Rattle.am_wait.specs.{token_of, wait_of}
use Rattle.am_expire.specs.{is_used}
use Rattle.am_walk.specs.{next_at, walk_of}
use Rattle.am_walk.specs.declared.stop.Next.TheVariants as nexts
use Rattle.am_walk.specs.declared.stop.Stop.TheVariants as stops
use Rattle.am_kernel.specs.{KernelState, WalkRow, at_moment, location_of, moment_of, mounted_on, new_fs_refusal, queued_of, retry, scene_of, wait_collected, walk_in}
use Rattle.am_job.specs.{Act, Plan, Ended, Next, next_of, record_of, unmounting}
use Rattle.am_job.specs.Plans.{missing_plan}
use Rattle.am_job.specs.declared.act.Act.TheVariants as act
use Rattle.am_job.specs.declared.act.Outcome as outcomes
use Rattle.am_job.specs.declared.act.Outcome.TheVariants.{Done, Made}
use Rattle.am_daemon.specs.{JobPlan, entry_of, job_of, mounted_in}
use Rattle.am_machine.specs.declared.event.Event.TheVariants as events
use Rattle.am_machine.specs.declared.answer.Answer.TheVariants as answers
use Rattle.am_machine.specs.State.{State}
use Rattle.am_machine.specs.{Answer, IsMounted, IsServed, goes, outcome_of}
use Rattle.am_progress.specs.Runs.{AfterEachRun, IsDone, next}
use Rattle.am_progress.specs.Tokens.{HasReleased}
use Rattle.am_progress.specs.Expiries.{IsTrapAgain}

-- ---- the acts of a job come

-- what comes of an act that doesn't fail: of a mount, this mount
abbrev pub success_of : ℕ → Act → outcomes.Outcome
success_of mount (act.Mount trigger entry) = Made mount
success_of mount a = Done

-- what is answered then
abbrev pub success_told : ℕ → Act → Answer
success_told mount (act.Mkdir trigger) = answers.DidMkdir
success_told mount (act.Mount trigger entry) = answers.DidMount mount
success_told mount (act.Umount trigger) = answers.DidUmount
success_told mount (act.Rmdir trigger) = answers.DidRmdir
success_told mount (act.Record trigger entry) = answers.DidRecord
success_told mount (act.Reply status) = answers.DidReply

-- Each act of the plan comes, in its order, where no failure is told; and such a world is there then.
abbrev pub AllCome : Plan → ℕ → ℕ → (State → Type 0) → State → Type 0
AllCome Ended mount job goal s = goal s
AllCome (Next a rest) mount job goal s =
    ((outcome_of s (events.Act job None)).answer ≡ success_told mount a)
    × AllCome (rest (success_of mount a)) mount job goal (next s (events.Act job None))

-- ---- what is missing

-- The walker has its walk, which begins once more from its first name when it goes on, unless it has begun too
-- often.
pub record WalksAgain (walker : ℕ) (s : State) : Type 0 where
  pub walk : WalkRow
  pub its : walk_in s.kernel.walks walker ≡ Some walk
  pub again : (now : ℕ) (pipe : PipeState) → outcome_of s (events.Resume walker now pipe)
      ≡ goes (at_moment (moment_of s.kernel now)
      (retry pipe s.kernel (wait_collected walker s.kernel) walk (moment_of s.kernel now))) s

-- each mount of the file system in the namespace is the daemon's, or is older than m and receives from that
abbrev pub AllReceive : KernelState → ℕ → ℕ → ℕ → Type 0
AllReceive k fs ns m = (x : ℕ) (row : MountRow) →
    mount_row k.table.rows x ≡ Some row → row.fs ≡ fs → row.ns ≡ ns →
    (x ≡ location_of k fs) ⊎ (Receives k.table.groups (location_of k fs) x × (x < m))

-- The mount m has come: it is on the trigger, with its copies, and the book has it. The token is closed
-- with READY, and each walker that waited on it walks again. A walk that comes to the trigger passes it, at
-- any moment: at the daemon's mount of the file system, and at each older mount that receives from that.
pub record CanBePassed (old : State) (token : ℕ) (g : Trigger) (m : ℕ) (new : State) : Type 0 where
  pub mounted : IsMounted new.kernel g m
  pub written : record_of new.daemon.book g ≡ Some (Mounted m)
  pub answered : HasReleased old token new
  pub ready : answered.status ≡ Ready
  pub passes : (moment : ℕ) →
      next_at (scene_of new.kernel moment) (location_of new.kernel g.fs) (place_of g) ≡ nexts.Passes m g
  pub passes_copies : (y : ℕ) → Receives new.kernel.table.groups (location_of new.kernel g.fs) y → y < m →
      (copy : ℕ) × ((moment : ℕ) → next_at (scene_of new.kernel moment) y (place_of g) ≡ nexts.Passes copy g)
  pub walks_again : (walker : ℕ) (row : WaitRow) → wait_of old.kernel.waits.waits walker ≡ Some row →
      row.token ≡ token → row.status ≡ None → WalksAgain walker new
  -- and a walk that would wait on the token in the old world passes the trigger
  pub leads_past : (ns : ℕ) → AllReceive new.kernel g.fs ns m → (moment : ℕ) (path : List (List ℕ)) →
      (walk_of (scene_of old.kernel moment) ns path).stop ≡ stops.Block token →
      Contains (walk_of (scene_of new.kernel moment) ns path).passed g

-- the act makes the trigger's directory, or mounts
abbrev pub is_to_mount : Option Act → Bool
is_to_mount (Some (act.Mkdir trigger)) = true
is_to_mount (Some (act.Mount trigger entry)) = true
is_to_mount _ = false

-- A missing token whose packet is in the pipe, or whose job is about to make the directory or to mount. The
-- packet can be delivered; then come the acts of the plan for the trigger's entry: the directory, the mount,
-- the record and READY; or READY alone, where the book has a mount there.
pub record CanBeMounted (s : State) (token : ℕ) (g : Trigger) : Type 0 where
  pub from_pipe : (row : QueuedRow) → queued_of s.kernel.queue token ≡ Some row →
      (entry : EntryText) → entry_of s.daemon g ≡ Some entry →
      IsDone s (events.Deliver token None) ×
      ((m : ℕ) × AllCome (missing_plan g (mounted_in (record_of s.daemon.book g)) (Some entry)) m token
      (CanBePassed s token g m) (next s (events.Deliver token None)))
  pub from_job : (job : JobPlan) → job_of s.daemon.jobs token ≡ Some job →
      is_to_mount (next_of job.plan) ≡ true →
      (m : ℕ) × AllCome job.plan m token (CanBePassed s token g m) s

-- ---- what expires

-- The mount has gone, the trap is there again, and the token is closed with READY.
pub record CanTrapAgain (old : State) (attach token : ℕ) (g : Trigger) (new : State) : Type 0 where
  pub trap : IsTrapAgain attach token g new
  pub answered : HasReleased old token new
  pub ready : answered.status ≡ Ready

-- An expire token whose packet is in the pipe, or whose job is about to unmount. The packet can be
-- delivered; then come the unmount, the end of the directory, the record and READY.
pub record CanBeUnmounted (s : State) (attach token : ℕ) (g : Trigger) (m : ℕ) : Type 0 where
  pub from_pipe : (row : QueuedRow) → queued_of s.kernel.queue token ≡ Some row →
      IsDone s (events.Deliver token None) ×
      AllCome (unmounting g m) m token (CanTrapAgain s attach token g) (next s (events.Deliver token None))
  pub from_job : (job : JobPlan) → job_of s.daemon.jobs token ≡ Some job →
      next_of job.plan ≡ Some (act.Umount g) → AllCome job.plan m token (CanTrapAgain s attach token g) s

-- ---- the law

-- Of a file system that the daemon serves: what is missing can be mounted while numbers are left for a mount
-- on the daemon's; what expires can be unmounted, where nothing is mounted on it and nothing that goes with it
-- is in use.
pub record MountsCanComeAndGo (s : State) : Type 0 where
  pub come : (fs attach : ℕ) → IsServed s.kernel s.daemon fs attach →
      (token : ℕ) (row : OpenToken) → token_of s.kernel.waits.tokens token ≡ Some row →
      row.trigger.fs ≡ fs → row.kind ≡ Missing →
      new_fs_refusal s.kernel (location_of s.kernel fs) ≡ None →
      CanBeMounted s token row.trigger
  pub go : (fs attach : ℕ) → IsServed s.kernel s.daemon fs attach →
      (token : ℕ) (row : OpenToken) → token_of s.kernel.waits.tokens token ≡ Some row →
      row.trigger.fs ≡ fs → row.kind ≡ Expire →
      (m : ℕ) → mounted_on s.kernel row.trigger ≡ Some m →
      umount_refusal (is_used s.kernel.uses) m s.kernel.table ≡ None →
      CanBeUnmounted s attach token row.trigger m

-- after every run from an initial world mounts can come and go
abbrev pub MountsComeAndGo : Type 0
MountsComeAndGo = AfterEachRun MountsCanComeAndGo
