use Rattle.am_explore.proofs.OrderLemmas.{order_cut, orders_joined}
use Rattle.am_explore.proofs.laws.orders_are_cut.Goals as goal

pub returns : goal.returns
returns c scene start first later told next end long = (
  order_cut scene start first later told next end long,
  λ h. orders_joined scene start first later told next end h.0
      h.1 h.2,
)
