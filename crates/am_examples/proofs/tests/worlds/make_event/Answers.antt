use Rattle.am_machine.specs.{setup_of}
use Rattle.am_world.specs.Capacity.{state_of}
use Rattle.am_examples.proofs.tests.worlds.make_event.Goals as goal

pub returns : goal.returns
returns c =
    let old = state_of c.args.world.now in
    let reached = c.trace.ensures.reached in
    let step = c.step.ensures.step in
    c.steps_unmount_nothing_in_use.ensures (setup_of old) reached.events reached.answers old reached.run
    c.args.event.now c.step.result step.0 _ step.1
