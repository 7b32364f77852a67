-- What leads to one world leads to another that follows from it.
use Rattle.std.proofs.Common.{ℕ, zero, suc, None, inl, inr}
use Rattle.am_machine.specs.declared.event.Event.TheVariants as events
use Rattle.am_machine.specs.State.{State}
use Rattle.am_progress.specs.{next, LeadsTo, CanReach}

-- a world that is there already
pub arrived : (acts job : ℕ) (goal : State → Type 0) (s : State) → goal s → LeadsTo acts job goal s
arrived zero job goal s h = h
arrived (suc acts) job goal s h = inl h

pub leads_on : (acts job : ℕ) (first second : State → Type 0) → ((s : State) → first s → second s) → (s : State) → LeadsTo acts job first s → LeadsTo acts job second s
leads_on zero job first second more s h = more s h
leads_on (suc acts) job first second more s (inl here) = inl (more s here)
leads_on (suc acts) job first second more s (inr later) = inr (λ failure. ((later failure).0, leads_on acts job first second more (next s (events.Act job failure)) (later failure).1))

pub reaches_on : (acts token : ℕ) (first second : State → Type 0) → ((s : State) → first s → second s) → (s : State) → CanReach acts token first s → CanReach acts token second s
reaches_on acts token first second more s (inl at_once) = inl (leads_on acts token first second more s at_once)
reaches_on acts token first second more s (inr taken) = inr (taken.0, leads_on acts token first second more (next s (events.Deliver token None)) taken.1)
