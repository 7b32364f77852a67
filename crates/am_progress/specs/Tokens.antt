-- Each open token can be closed by the daemon alone, by six events at most: its packet is taken
-- from the pipe, and its job has five acts (own choice).
use Rattle.std.specs.Prelude.{◌≡◌, ℕ, Some, None}
use Rattle.am_names.specs.{Status, OpenToken, WaitRow}
use Rattle.am_wait.specs.{token_of, wait_of}
use Rattle.am_machine.specs.State.{State}
use Rattle.am_machine.specs.{IsServed}
use Rattle.am_progress.specs.Runs.{AfterEachRun}
use Rattle.am_progress.specs.Acts.{most_acts}
use Rattle.am_progress.specs.Ways.{CanReach}

-- The token is closed, and each walker that waited on it in the old world has its status, the same
-- for all of them.
pub record HasReleased (old : State) (token : ℕ) (new : State) : Type 0 where
  pub closed : token_of new.kernel.waits.tokens token ≡ None
  pub status : Status
  pub released : (walker : ℕ) (row : WaitRow) →
      wait_of old.kernel.waits.waits walker ≡ Some row → row.token ≡ token → row.status ≡ None →
      wait_of new.kernel.waits.waits walker ≡ Some (record row { status = Some status })

-- each open token of a file system that the daemon serves
abbrev pub TokensCanClose : State → Type 0
TokensCanClose s =
    (fs attach : ℕ) → IsServed s.kernel s.daemon fs attach →
    (token : ℕ) (row : OpenToken) → token_of s.kernel.waits.tokens token ≡ Some row →
    row.trigger.fs ≡ fs → CanReach most_acts token (HasReleased s token) s

-- after every run from an initial world open tokens can be closed
abbrev pub OpenTokensCanBeClosed : Type 0
OpenTokensCanBeClosed = AfterEachRun TokensCanClose
