-- Kernel and daemon are in step: what the one tells the other finds it ready (own choice).
use Rattle.std.specs.Prelude.{◌≡◌, ◌&&◌, ℕ, true, is_some, List, Option, Some}
use Rattle.am_names.specs.{same_trigger, OpenToken, WaitRow}
use Rattle.am_names.specs.declared.row.TokenKind.TheVariants.{Missing}
use Rattle.am_trigger.specs.{Autofs, autofs_of}
use Rattle.am_wait.specs.{token_of, wait_of}
use Rattle.am_state.specs.{QueuedRow}
use Rattle.am_kernel.specs.{is_live, latest_attach, attach_of, queued_of, pipe_refusal, walk_in}
use Rattle.am_daemon.specs.declared.fault.DaemonFault.TheVariants.{Busy}
use Rattle.am_daemon.specs.{knows, holds, delivery_fault}
use Rattle.am_machine.specs.declared.event.Event.{Event}
use Rattle.am_machine.specs.declared.answer.Answer.{Answer}
use Rattle.am_machine.specs.State.{Setup, State, initial_state_of}
use Rattle.am_machine.specs.Events.Deliveries.{has_bytes, may_take}
use Rattle.am_machine.specs.Events.Requests.{reattach_refused}
use Rattle.am_machine.specs.Paths.{HavePaths}
use Rattle.am_machine.specs.Machine.{Run}
use Rattle.am_machine.specs.Invariant.Failures.{MountsAreMended}
use Rattle.am_machine.specs.Invariant.Places.{HoldsOne}
use Rattle.am_machine.specs.Invariant.Walks.{is_named}

-- the daemon is not busy when a packet that is in a pipe comes to it
abbrev pub IsNeverBusy : State → Type 0
IsNeverBusy s = (token : ℕ) (row : QueuedRow) → queued_of s.kernel.queue token ≡ Some row →
    delivery_fault row.attach row.packet s.daemon ≡ Some Busy → ⊥

-- what the one half is told it is ready for
pub record AreInStep (s : State) : Type 0 where
  -- the daemon can read the name of each trigger that it is asked for
  pub named : (token : ℕ) (row : OpenToken) → token_of s.kernel.waits.tokens token ≡ Some row →
      is_named row.trigger ≡ true
  pub free : IsNeverBusy s
  -- it knows each autofs, and what it holds
  pub known : (fs : ℕ) → is_some (autofs_of s.kernel.triggers fs) ≡ true → knows s.daemon fs ≡ true
  pub held : (fs attach : ℕ) → holds s.daemon fs attach ≡ true → knows s.daemon fs ≡ true
  -- each autofs was given an attachment
  pub attached : (fs : ℕ) → is_some (autofs_of s.kernel.triggers fs) ≡ true →
      is_some (latest_attach s.kernel.attached fs) ≡ true
  -- who waits on a mount has the walk that led there
  pub walks : (walker : ℕ) (row : WaitRow) → wait_of s.kernel.waits.waits walker ≡ Some row →
      row.kind ≡ Missing → is_some (walk_in s.kernel.walks row.walker) ≡ true
  -- a trigger has one open token at most
  pub once : (a b : ℕ) (x y : OpenToken) →
      token_of s.kernel.waits.tokens a ≡ Some x → token_of s.kernel.waits.tokens b ≡ Some y →
      same_trigger x.trigger y.trigger ≡ true → a ≡ b
  -- one mount at most is at a place of the daemon's mount of an autofs
  pub one : (fs : ℕ) (row : Autofs) → autofs_of s.kernel.triggers fs ≡ Some row →
      HoldsOne s.kernel.table.rows row.location
  -- where something is mounted on a trigger there, no failure is kept of it, or it is asked for
  pub mended : MountsAreMended s.kernel

-- A step refuses no more than it says in words, since some tests never fail.
pub record RefusesInStep (s : State) : Type 0 where
  -- a daemon that attaches again is refused by the kernel alone: it knows each autofs
  pub reattach : (fs : ℕ) → reattach_refused s fs ≡ pipe_refusal s.kernel fs
  -- the queued packet, by its bytes, is taken up just where the daemon holds its attachment
  pub deliver : (token : ℕ) (row : QueuedRow) (bytes : Option (List ℕ)) →
      queued_of s.kernel.queue token ≡ Some row →
      may_take s row bytes ≡ (has_bytes bytes row && holds s.daemon row.packet.dev row.attach)
  -- a walk and an expiry find the attachment of an autofs to which a daemon is attached
  pub attached : (fs : ℕ) → is_live s.kernel fs ≡ true → is_some (attach_of s.kernel fs) ≡ true
  -- a walker that waits on a mount goes on with its walk
  pub resume : (walker : ℕ) (row : WaitRow) → wait_of s.kernel.waits.waits walker ≡ Some row →
      row.kind ≡ Missing → is_some (walk_in s.kernel.walks row.walker) ≡ true

-- every run from an initial world leaves them so
abbrev pub RunsAreInStep : Type 0
RunsAreInStep = (opening : Setup) (events : List Event) (answers : List Answer) (s : State) →
    HavePaths events → Run (initial_state_of opening) events answers s → AreInStep s

-- after every run from an initial world the daemon is free for each packet
abbrev pub RunsAreNeverBusy : Type 0
RunsAreNeverBusy = (opening : Setup) (events : List Event) (answers : List Answer) (s : State) →
    HavePaths events → Run (initial_state_of opening) events answers s → IsNeverBusy s

-- after every run from an initial world some tests never fail
abbrev pub RunsRefuseInStep : Type 0
RunsRefuseInStep = (opening : Setup) (events : List Event) (answers : List Answer) (s : State) →
    HavePaths events → Run (initial_state_of opening) events answers s → RefusesInStep s
