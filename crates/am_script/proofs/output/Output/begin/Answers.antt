use Rattle.std.proofs.Common.{refl}
use Rattle.am_script.proofs.OwedLemmas.{stands_begun, stands_marked}
use Rattle.am_script.proofs.output.Output.begin.Goals as goal

pub returns-then-is_full-clause-settles : goal.returns-then-is_full-clause-settles
returns-then-is_full-clause-settles g c = λ all start h.
    stands_begun _ _ _ _ _ _ _ _ c.flush.ensures.empty (c.flush.ensures.settles all start h)

pub returns-clause-settles : goal.returns-clause-settles
returns-clause-settles g c = λ all start h.
    stands_marked _ _ _ (record { line = c.args.self.now.line; end = c.len-end.result }) _ _ _ _ _ _ c.len-end.ensures.value refl c.push.ensures.items h
