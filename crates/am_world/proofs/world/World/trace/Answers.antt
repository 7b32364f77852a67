use Rattle.std.proofs.Common.{subst, sym}
use Rattle.am_laws.specs.{Lawful}
use Rattle.am_machine.specs.{IsTold, IsReached, Agree, AreInStep}
use Rattle.am_machine.proofs.Reached.{reached_lawful, reached_told, reached_agree, reached_in_step}
use Rattle.am_world.specs.{behind, whole_state, WorldTable}
use Rattle.am_world.specs.Capacity as table
use Rattle.am_world.proofs.TableLemmas.{state_behind}
use Rattle.am_world.proofs.world.World.trace.Goals as goal

pub returns-clause-lawful : goal.returns-clause-lawful
returns-clause-lawful c =
    subst (λ (t : WorldTable). Lawful t.trace) c.self.view_is
    (reached_lawful (behind c.self.inside.handed.items (whole_state c.self.inside.machine)) c.self.invariant.reached)

pub returns-clause-tells : goal.returns-clause-tells
returns-clause-tells c =
    subst (λ (t : WorldTable). IsTold (table.state_of t)) c.self.view_is
    (subst IsTold (sym (state_behind c.self.inside.handed.items c.self.inside.machine))
    (reached_told (behind c.self.inside.handed.items (whole_state c.self.inside.machine)) c.self.invariant.reached))

pub returns-clause-reached : goal.returns-clause-reached
returns-clause-reached c =
    subst (λ (t : WorldTable). IsReached (table.state_of t)) c.self.view_is
    (subst IsReached (sym (state_behind c.self.inside.handed.items c.self.inside.machine)) c.self.invariant.reached)

pub returns-clause-agree : goal.returns-clause-agree
returns-clause-agree c =
    subst (λ (t : WorldTable). Agree (table.state_of t)) c.self.view_is
    (subst Agree (sym (state_behind c.self.inside.handed.items c.self.inside.machine))
    (reached_agree (behind c.self.inside.handed.items (whole_state c.self.inside.machine)) c.self.invariant.reached))

pub returns-clause-in_step : goal.returns-clause-in_step
returns-clause-in_step c =
    subst (λ (t : WorldTable). AreInStep (table.state_of t)) c.self.view_is
    (subst AreInStep (sym (state_behind c.self.inside.handed.items c.self.inside.machine))
    (reached_in_step (behind c.self.inside.handed.items (whole_state c.self.inside.machine)) c.self.invariant.reached))
