use Rattle.std.proofs.Common.{ap, arith, rules}
use Rattle.am_pipe.proofs.MoveLemmas.{takes}
use Rattle.am_pipe.proofs.MeterLemmas.{counts}
use Rattle.am_pipe.proofs.ends.TakeEnd.take.Goals as goal

pub pop_as-requires-clause-rule : goal.pop_as-requires-clause-rule
pop_as-requires-clause-rule g c =
    let one = ap (λ v. v.parts) c.self.invariant.2 in
    (takes _ _ (λ none. absurd (omega arith)), λ items views h at. tt)

pub fetch_add-requires : goal.fetch_add-requires
fetch_add-requires g c = (search rules, search (rules, arith), counts _ _ _)
