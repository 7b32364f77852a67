use Rattle.am_ordered.proofs.TurnLemmas.{turned_back}
use Rattle.am_ordered.proofs.rows.turn_back.Goals as goal

pub returns-clause-rows : goal.returns-clause-rows
returns-clause-rows g c =
    turned_back c.args.rows.now c.bring_up.new.rows _ c.args.index c.args.count
    c.requires c.bring_up.ensures.len c.bring_up.ensures.rows
