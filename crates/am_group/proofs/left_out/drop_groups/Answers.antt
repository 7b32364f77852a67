use Rattle.std.proofs.Common.{ℕ}
use Rattle.std.proofs.lemmas.List.Sorted.{IsNonDecreasingBy-take}
use Rattle.am_group.proofs.left_out.drop_groups.Goals as goal

pub drop_many-requires : goal.drop_many-requires
drop_many-requires c = IsNonDecreasingBy-take (λ (x : ℕ). x) _ _ c.requires.ordered
