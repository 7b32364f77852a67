use Rattle.std.proofs.Common.{arith, rules}
use Rattle.am_pipe.proofs.MeterLemmas.{gives}
use Rattle.am_pipe.proofs.ends.PutEnd.put.Goals as goal

pub fetch_add-requires : goal.fetch_add-requires
fetch_add-requires g c = (search rules, search (rules, arith), gives _ _ _)
