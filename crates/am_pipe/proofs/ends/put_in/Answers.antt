use Rattle.std.proofs.Common.{length, refl, ap, ◌∙◌, arith, rules}
use Rattle.am_pipe.specs.{looked}
use Rattle.am_pipe.proofs.MeterLemmas.{reads}
use Rattle.am_pipe.proofs.MoveLemmas.{puts}
use Rattle.am_pipe.proofs.RestLemmas.{rests}
use Rattle.am_pipe.proofs.ends.put_in.Goals as goal

pub load-taken-requires : goal.load-taken-requires
load-taken-requires g c = (search rules, search (rules, arith), reads looked (λ v n. refl) (λ v n. refl) _ _ _ _ _ refl)

pub push_as-requires-clause-rule : goal.push_as-requires-clause-rule
push_as-requires-clause-rule g c =
    let is = c.loop.invariant.view in
    let may = ap (λ v. v.puts) is ∙ c.requires.queue.1 in
    (puts _ _ _ _ may (omega (arith, c.requires.count, ap (λ v. length v.sent) is)), rests _ _ may)
