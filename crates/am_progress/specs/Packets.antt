-- A packet that is in the pipe can be taken from it (autofs.rst, "Communicating with autofs: the
-- event pipe").
use Rattle.std.specs.Prelude.{◌≡◌, ℕ, Some, None}
use Rattle.am_state.specs.{QueuedRow}
use Rattle.am_kernel.specs.{queued_of}
use Rattle.am_machine.specs.declared.event.Event.TheVariants as events
use Rattle.am_machine.specs.State.{State}
use Rattle.am_machine.specs.{packet_bytes, takes, IsServed, outcome_of}
use Rattle.am_progress.specs.Runs.{AfterEachRun}

-- The packet leaves the pipe and its job begins, which has the token's number: so it is when it is
-- delivered as it stands in the pipe, and when its bytes are handed in.
pub record IsTaken (s : State) (token : ℕ) (row : QueuedRow) : Type 0 where
  pub numbered : row.packet.token ≡ token
  pub alone : outcome_of s (events.Deliver token None) ≡ takes s row
  pub by_bytes : outcome_of s (events.Deliver token (Some (packet_bytes row))) ≡ takes s row

-- each packet of a file system that the daemon serves
abbrev pub PacketsCanBeTaken : State → Type 0
PacketsCanBeTaken s =
    (fs attach : ℕ) → IsServed s.kernel s.daemon fs attach →
    (token : ℕ) (row : QueuedRow) → queued_of s.kernel.queue token ≡ Some row →
    row.packet.dev ≡ fs → IsTaken s token row

-- after every run from an initial world queued packets can be delivered
abbrev pub QueuedPacketsCanBeDelivered : Type 0
QueuedPacketsCanBeDelivered = AfterEachRun PacketsCanBeTaken
