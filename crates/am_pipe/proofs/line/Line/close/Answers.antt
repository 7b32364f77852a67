use Rattle.std.proofs.Common.{refl, rules, arith}
use Rattle.am_pipe.proofs.MeterLemmas.{closes}
use Rattle.am_pipe.proofs.line.Line.close.Goals as goal

pub swap_new_seat-requires : goal.swap_new_seat-requires
swap_new_seat-requires g c = (search (rules, arith), closes _ _ _ refl refl)
