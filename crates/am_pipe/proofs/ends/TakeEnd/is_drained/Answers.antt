use Rattle.std.proofs.Common.{refl, arith, rules}
use Rattle.am_pipe.specs.{asked, told}
use Rattle.am_pipe.proofs.MeterLemmas.{reads}
use Rattle.am_pipe.proofs.ends.TakeEnd.is_drained.Goals as goal

pub load-put-requires : goal.load-put-requires
load-put-requires c = (search rules, search (rules, arith), reads asked (λ v n. refl) (λ v n. refl) _ _ _ _ _ refl)

pub load-taken-requires : goal.load-taken-requires
load-taken-requires c = (search rules, search (rules, arith), reads told (λ v n. refl) (λ v n. refl) _ _ _ _ _ refl)
