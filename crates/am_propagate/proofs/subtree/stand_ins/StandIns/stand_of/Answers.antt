use Rattle.std.proofs.Common.{List, ℕ, sym, subst}
use Rattle.std.specs.List.Sorted.{IsStrictlyIncreasing}
use Rattle.am_propagate.proofs.subtree.stand_ins.StandIns.stand_of.Goals as goal

pub rank-rank-requires : goal.rank-rank-requires
rank-rank-requires c = subst (λ (xs : List ℕ). IsStrictlyIncreasing xs) (sym c.as_slice.ensures.value) c.requires
