use Rattle.std.proofs.Common.{◌<◌, length, rules}
use Rattle.am_group.proofs.LiftingLemmas.{other_at, unlinks_more}
use Rattle.am_group.proofs.lifting.unlink.Goals as goal

pub unlink_one-requires-clause-other : goal.unlink_one-requires-clause-other
unlink_one-requires-clause-other c =
    other_at c.args.lifts.now c.requires.lifts c.loop-lift.lift-index c.lift-item.result (search rules) c.lift-item.is

pub loop-lift-preserved : goal.loop-lift-preserved
loop-lift-preserved c =
    let within : c.loop-lift.lift-index < length c.args.lifts.now = search rules in
    unlinks_more c.args.lifts.now c.requires.lifts c.loop-lift.lift-index c.lift-item.result within c.lift-item.is
    c.args.index.now c.loop-lift.index c.unlink_one.new.index c.loop-lift.invariant c.unlink_one.ensures
