use Rattle.std.proofs.Common.{refl, arith, rules}
use Rattle.am_pipe.specs.{ended}
use Rattle.am_pipe.proofs.MeterLemmas.{reads}
use Rattle.am_pipe.proofs.ends.TakeEnd.is_closed.Goals as goal

pub load-closed-requires : goal.load-closed-requires
load-closed-requires c = (search rules, search (rules, arith), reads ended (λ v n. refl) (λ v n. refl) _ _ _ _ _ refl)
