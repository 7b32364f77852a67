use Rattle.std.proofs.Common.{◌≤◌, ◌+◌, subst, ℕ}
use Rattle.am_explore.proofs.OrderLemmas.{first_by_parts}
use Rattle.am_explore.proofs.laws.parts_tell_first.Goals as goal

pub returns : goal.returns
returns c scene question start steps here behind left m =
    subst (λ (n : ℕ). steps + 1 ≤ n) m.long
    (first_by_parts scene question start steps here behind m.choices m.answers m.end m.leads m.ends m.meets)
