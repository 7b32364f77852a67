use Rattle.std.proofs.Common.{List, subst, sym}
use Rattle.am_state.specs.{Obs}
use Rattle.am_machine.specs.State.{State}
use Rattle.am_machine.specs.{Step}
use Rattle.am_world.specs.{behind, table_of, whole_state, told, WorldTable}
use Rattle.am_world.specs.Capacity as table
use Rattle.am_world.proofs.TableLemmas.{state_behind}
use Rattle.am_world.proofs.BehindLemmas.{comes_behind}
use Rattle.am_world.proofs.GoesLemmas.{goes_step, goes_reached}
use Rattle.am_world.proofs.world.World.step.Goals as goal

pub invariant_of-self : goal.invariant_of-self
invariant_of-self c =
    let gone = c.self.inside.handed.items in
    let old = whole_state c.self.inside.machine in
    let new = whole_state c.handle.new.self in
    record {
      reached = goes_reached (behind gone old) c.args.event.now c.handle.result (behind gone new) c.know_paths.ensures c.self.invariant.reached
          (comes_behind gone old c.args.event.now c.handle.result new c.handle.ensures);
    }

pub returns-clause-step : goal.returns-clause-step
returns-clause-step c =
    let gone = c.self.inside.handed.items in
    let event = c.args.event.now in
    let answer = told c.handle.result in
    let old = whole_state c.self.inside.machine in
    let new = whole_state c.handle.new.self in
    let left = table.state_of (table_of gone c.handle.new.self) in
    rw (c.told.ensures)
    (subst (λ (t : WorldTable). (seen : List Obs) × Step (table.state_of t) event answer seen left) c.self.view_is
    (subst (λ (s : State). (seen : List Obs) × Step s event answer seen left) (sym (state_behind gone c.self.inside.machine))
    (subst (λ (s : State). (seen : List Obs) × Step (behind gone old) event answer seen s) (sym (state_behind gone c.handle.new.self))
    (goes_step (behind gone old) event c.handle.result (behind gone new) (comes_behind gone old event c.handle.result new c.handle.ensures)))))
