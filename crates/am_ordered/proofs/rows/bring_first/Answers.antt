use Rattle.am_ordered.proofs.TurnLemmas.{brought}
use Rattle.am_ordered.proofs.rows.bring_first.Goals as goal

pub returns-clause-rows : goal.returns-clause-rows
returns-clause-rows g c =
    brought c.args.slots.now.items c.deref_mut.result.now c.turn.new.rows c.args.gone c.args.index c.args.count c.args.slots.now.len
    c.deref_mut.ensures.value c.deref_mut.ensures.len c.requires c.turn.ensures.len c.turn.ensures.rows
