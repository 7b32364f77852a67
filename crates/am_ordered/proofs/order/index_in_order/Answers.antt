use Rattle.am_ordered.proofs.OrderLemmas.{position_is}
use Rattle.am_ordered.proofs.order.index_in_order.Goals as goal

pub returns : goal.returns
returns g c = position_is c.args.place c.args.order.now.items c.scanned_index.result c.scanned_index.ensures
