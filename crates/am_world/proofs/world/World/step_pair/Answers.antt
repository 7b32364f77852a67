use Rattle.std.proofs.Common.{◌≡◌, [], inl, refl, sym, ap, subst, ◌∙◌}
use Rattle.am_names.specs.declared.errno.Errno.TheVariants.{NoMemory}
use Rattle.am_machine.specs.declared.answer.Answer.TheVariants.{Refused}
use Rattle.am_machine.specs.State.{State}
use Rattle.am_machine.specs.{outcome_of}
use Rattle.am_machine.proofs.Histories.{step_goes_on}
use Rattle.am_world.specs.{IsMadeAhead, behind, whole_state}
use Rattle.am_world.specs.Capacity as table
use Rattle.am_world.proofs.TableLemmas.{state_behind}
use Rattle.am_world.proofs.BehindLemmas.{answer_behind}
use Rattle.am_world.proofs.SpareLemmas.{step_spares}
use Rattle.am_world.proofs.world.World.step_pair.Goals as goal

pub second_copy-other-requires : goal.second_copy-other-requires
second_copy-other-requires c =
    let event = c.args.event.now in
    let gone = c.self.inside.handed.items in
    let machine = c.self.inside.machine in
    let same : table.state_of c.args.self.now ≡ behind gone (whole_state machine) = ap table.state_of (sym c.self.view_is) ∙ state_behind gone machine in
    let ahead : IsMadeAhead c.in-Ok.made_ahead (outcome_of (behind gone (whole_state machine)) event).answer =
    subst (IsMadeAhead c.in-Ok.made_ahead) (sym (answer_behind gone (whole_state machine) event)) c.in-Ok.ensures in
    step_spares (table.state_of c.args.self.now) event c.step-answer.result c.step-answer.ensures.step.0 _ c.in-Ok.made_ahead
    (subst (λ (s : State). IsMadeAhead c.in-Ok.made_ahead (outcome_of s event).answer) (sym same) ahead) c.step-answer.ensures.step.1

pub returns-in_default-clause-legal : goal.returns-in_default-clause-legal
returns-in_default-clause-legal c =
    let old = table.state_of c.args.self.now in
    step_goes_on old c.args.event.now (Refused NoMemory) old ([], inl (record { told = refl; nothing = refl; same = refl }))

pub returns-clause-legal : goal.returns-clause-legal
returns-clause-legal c =
    step_goes_on (table.state_of c.args.self.now) c.args.event.now c.step-answer.result (table.state_of c.step-answer.new.self) c.step-answer.ensures.step
