-- What a call comes to: own choice (docs/DECISIONS.md, "A refusal changes nothing, not even the
-- latest moment" and "The moment of an event is the greater of its own and the latest so far").
use Rattle.std.specs.Prelude.{◌≡◌, ℕ, max, List, ◌++◌, Result, Ok, Err}
use Rattle.am_names.specs.declared.errno.Errno.{Errno}
use Rattle.am_names.specs.declared.errno.Errno.TheVariants.{NoMemory}
use Rattle.am_state.specs.{Obs}
use Rattle.am_kernel.specs.State.{KernelState}
use Rattle.am_kernel.specs.declared.progress.Progress.{Progress}

-- a walk goes on, with what is seen of it, or it can't
pub data CallOutcome : Type 0 where
  Proceeds : Progress → List Obs → KernelState → CallOutcome
  Fails : Errno → CallOutcome

-- the moment of an event: its own, or the latest so far
abbrev pub moment_of : KernelState → ℕ → ℕ
moment_of k now = max k.latest now

-- this is the latest moment so far
abbrev pub with_latest : ℕ → KernelState → KernelState
with_latest moment k = record k { latest = moment }

-- the moment is the latest then, also of a failure; that of a refusal doesn't count
abbrev pub at_moment : ℕ → CallOutcome → CallOutcome
at_moment moment (Proceeds answer shown made) = Proceeds answer shown (with_latest moment made)
at_moment moment (Fails e) = Fails e

-- nothing has changed, and nothing is seen
pub record IsAsBefore (old new : KernelState) (before after : List Obs) : Type 0 where
  pub state : new ≡ old
  pub seen : after ≡ before

-- this has come, and this is seen of it
pub record HasCome (shown : List Obs) (made new : KernelState)
    (before after : List Obs) : Type 0 where
  pub state : new ≡ made
  pub seen : after ≡ before ++ shown

-- the call has gone as the outcome says, or memory ran out; a refusal leaves all as before
abbrev pub Yields : CallOutcome → Result Progress Errno → KernelState → KernelState → List Obs → List Obs
    → Type 0
Yields (Proceeds answer shown made) (Ok progress) old new before after =
    (progress ≡ answer) × HasCome shown made new before after
Yields (Proceeds answer shown made) (Err e) old new before after =
    (e ≡ NoMemory) × IsAsBefore old new before after
Yields (Fails e) (Ok progress) old new before after = ⊥
Yields (Fails e) (Err NoMemory) old new before after = IsAsBefore old new before after
Yields (Fails e) (Err f) old new before after = (f ≡ e) × IsAsBefore old new before after
