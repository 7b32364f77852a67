use Rattle.std.proofs.Common.{◌≡◌, ◌∷◌, take}
use Rattle.std.specs.List.{filter_map}
use Rattle.am_names.specs.{names_of}
use Rattle.am_propagate.specs.{bare_top}
use Rattle.am_propagate.proofs.subtree.Subtree.with_bare_tops.Given as goal

abbrev pub invariant-loop-receiver : goal.invariant-loop-receiver
invariant-loop-receiver l = l.going.items ≡ l.fn.mount ∷ filter_map (bare_top l.fn.self (names_of l.fn.place)) (take l.receiver-index l.fn.receivers)
