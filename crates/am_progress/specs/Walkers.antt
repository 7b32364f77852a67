-- Each walker that waits can be brought on: by the daemon alone where it serves the file system,
-- and by the administrator in any case (autofs.rst, "Catatonic mode").
use Rattle.std.specs.Prelude.{◌≡◌, ℕ, Some, None}
use Rattle.am_names.specs.{PipeState, WaitRow}
use Rattle.am_wait.specs.{wait_of}
use Rattle.am_machine.specs.declared.event.Event.TheVariants as events
use Rattle.am_machine.specs.State.{State}
use Rattle.am_machine.specs.{IsServed}
use Rattle.am_progress.specs.Runs.{AfterEachRun, IsDone, next}
use Rattle.am_progress.specs.Acts.{most_acts}
use Rattle.am_progress.specs.Ways.{CanReach}

-- the walker goes on when it likes, and no pipe keeps it: its `resume` is answered, and not refused
abbrev pub CanResume : ℕ → State → Type 0
CanResume walker s = (now : ℕ) (pipe : PipeState) → IsDone s (events.Resume walker now pipe)

-- A walker that waits: at most six events of a daemon that serves the file system lead to a world
-- in which it can go on, and so does catatonic mode, which isn't refused.
pub record CanBeBroughtOn (s : State) (row : WaitRow) : Type 0 where
  pub by_daemon : (attach : ℕ) → IsServed s.kernel s.daemon row.trigger.fs attach →
      CanReach most_acts row.token (CanResume row.walker) s
  pub is_catatonic : IsDone s (events.AdminCatatonic row.trigger.fs)
  pub by_administrator : CanResume row.walker (next s (events.AdminCatatonic row.trigger.fs))

-- each waiting walker can be brought on
pub record WalkersCanGoOn (s : State) : Type 0 where
  pub waiting : (walker : ℕ) (row : WaitRow) → wait_of s.kernel.waits.waits walker ≡ Some row →
      row.status ≡ None → CanBeBroughtOn s row
  -- one that was released goes on by itself
  pub released : (walker : ℕ) (row : WaitRow) → wait_of s.kernel.waits.waits walker ≡ Some row →
      (row.status ≡ None → ⊥) → CanResume walker s

-- after every run from an initial world waiting walkers can go on
abbrev pub WaitingWalkersCanGoOn : Type 0
WaitingWalkersCanGoOn = AfterEachRun WalkersCanGoOn
