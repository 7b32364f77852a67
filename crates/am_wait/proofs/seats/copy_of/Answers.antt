use Rattle.std.proofs.Common.{rules}
use Rattle.am_wait.proofs.CopyLemmas.{same_waits}
use Rattle.am_wait.proofs.seats.copy_of.Goals as goal

pub returns : goal.returns
returns c =
    same_waits c.args.slab.now c.in_ok-copy.copy c.in_ok-copy.ensures.cases (λ v w h. search rules)
