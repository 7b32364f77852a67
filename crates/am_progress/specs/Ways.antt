-- Where the daemon can lead by itself, whichever words stand in its events (own choice).
use Rattle.std.specs.Prelude.{◌⊎◌, ℕ, zero, suc, None, Option}
use Rattle.am_names.specs.declared.fail_no.FailNo.{FailNo}
use Rattle.am_machine.specs.declared.event.Event.TheVariants as events
use Rattle.am_machine.specs.State.{State}
use Rattle.am_progress.specs.Runs.{IsDone, next}

-- So many acts of the job at most lead to such a world: it is one already, or the next act isn't
-- refused, and with either word the acts after it lead there.
abbrev pub LeadsTo : ℕ → ℕ → (State → Type 0) → State → Type 0
LeadsTo zero job goal s = goal s
LeadsTo (suc acts) job goal s =
    goal s
    ⊎ ((failure : Option FailNo) →
    IsDone s (events.Act job failure) × LeadsTo acts job goal (next s (events.Act job failure)))

-- the packet of the token is taken from the pipe, if it is still there, and then its job acts, so
-- often at most
abbrev pub CanReach : ℕ → ℕ → (State → Type 0) → State → Type 0
CanReach acts token goal s =
    LeadsTo acts token goal s
    ⊎ (IsDone s (events.Deliver token None)
    × LeadsTo acts token goal (next s (events.Deliver token None)))
