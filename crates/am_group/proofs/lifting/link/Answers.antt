use Rattle.std.proofs.Common.{◌<◌, length, rules}
use Rattle.am_group.specs.{LinksOne, UnlinksOne}
use Rattle.am_group.proofs.LiftingLemmas.{links_back, links_more, other_at}
use Rattle.am_group.proofs.lifting.link.Goals as goal

pub link_one-requires-clause-other : goal.link_one-requires-clause-other
link_one-requires-clause-other c =
    other_at c.args.lifts.now c.requires.lifts c.loop-lift.lift-index c.lift-item.result (search rules) c.lift-item.is

pub returns-in-Err-clause-err : goal.returns-in-Err-clause-err
returns-in-Err-clause-err c =
    let one : UnlinksOne c.lift-item.result c.loop-lift.index c.link_one.new.index = search rules in
    links_back c.args.lifts.now c.requires.lifts c.loop-lift.lift-index c.lift-item.result (search rules) c.lift-item.is
    c.args.index.now c.loop-lift.index c.link_one.new.index c.unlink.new.index c.loop-lift.invariant one c.unlink.ensures

pub loop-lift-preserved : goal.loop-lift-preserved
loop-lift-preserved c =
    let within : c.loop-lift.lift-index < length c.args.lifts.now = search rules in
    let one : LinksOne c.lift-item.result c.loop-lift.index c.link_one.new.index = search rules in
    links_more c.args.lifts.now c.requires.lifts c.loop-lift.lift-index c.lift-item.result within c.lift-item.is
    c.args.index.now c.loop-lift.index c.link_one.new.index c.loop-lift.invariant one
