use Rattle.am_explore.proofs.LeadLemmas.{numbers_of, order_of}
use Rattle.am_explore.proofs.laws.orders_have_numbers.Goals as goal

pub returns : goal.returns
returns c scene start choices answers end =
    (numbers_of scene start choices answers end, λ h. order_of scene start h.0 choices answers end h.1)
