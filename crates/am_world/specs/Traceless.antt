-- What an event comes to doesn't rest on what was observed before it: own choice (docs/DECISIONS.md,
-- "A world keeps what wasn't handed on").
use Rattle.std.specs.Prelude.{◌≡◌}
use Rattle.am_machine.specs.{Event, outcome_of}
use Rattle.am_machine.specs.State.{State}
use Rattle.am_machine.specs.EventOutcome.{EventOutcome}

-- the same kernel and the same daemon, whatever was observed
pub record HaveEqualHalves (s t : State) : Type 0 where
  pub kernel : s.kernel ≡ t.kernel
  pub daemon : s.daemon ≡ t.daemon

-- the same, but for the trace
pub record IsAlike (o p : EventOutcome) : Type 0 where
  pub answer : o.answer ≡ p.answer
  pub seen : o.seen ≡ p.seen
  pub halves : HaveEqualHalves o.state p.state

-- states with equal halves come to the same by each event
abbrev pub OutcomesReadNoTrace : Type 0
OutcomesReadNoTrace =
    (s t : State) (event : Event) → HaveEqualHalves s t → IsAlike (outcome_of s event) (outcome_of t event)
