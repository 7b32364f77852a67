use Rattle.std.proofs.Common.{ap}
use Rattle.am_pipe.proofs.MoveLemmas.{merges}
use Rattle.am_pipe.proofs.ends.give_up.Goals as goal

pub absorb-requires-clause-rule : goal.absorb-requires-clause-rule
absorb-requires-clause-rule c = merges _ _ _ _ c.requires.puts (ap (λ v. v.puts) c.end.invariant.2)
