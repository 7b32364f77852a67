use Rattle.std.proofs.Common.{◌≡◌, sym, ap, subst}
use Rattle.am_machine.specs.{outcome_of}
use Rattle.am_machine.specs.State.{State}
use Rattle.am_machine.specs.EventOutcome.{EventOutcome}
use Rattle.am_world.specs.{IsAlike}
use Rattle.am_world.proofs.BehindLemmas.{outcome_traced, traced}
use Rattle.am_world.proofs.laws.outcomes_read_no_trace.Goals as goal

pub returns : goal.returns
returns c s t event same_halves =
    let same : traced t.trace s ≡ t = λ i. record { kernel = same_halves.kernel i; daemon = same_halves.daemon i; trace = t.trace } in
    let is = outcome_traced t.trace s event in
    subst (λ (x : State). IsAlike (outcome_of s event) (outcome_of x event)) same (record {
      answer = sym (ap (λ (o : EventOutcome). o.answer) is);
      seen = sym (ap (λ (o : EventOutcome). o.seen) is);
      halves = record {
        kernel = sym (ap (λ (o : EventOutcome). o.state.kernel) is);
        daemon = sym (ap (λ (o : EventOutcome). o.state.daemon) is);
      };
    })
