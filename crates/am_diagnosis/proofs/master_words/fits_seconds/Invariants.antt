use Rattle.std.proofs.Common.{◌≡◌, ◌≤◌, ◌+◌, ◌*◌, ◌-◌, length}
use Rattle.std.specs.Prelude.{fold}
use Rattle.am_master.specs.Timeout.{number_of}
use Rattle.am_diagnosis.proofs.master_words.fits_seconds.Given as goal

abbrev pub invariant-loop-rest : goal.invariant-loop-rest
invariant-loop-rest l = record {
  so_far : fold (λ n digit. n * 10 + (digit - 48)) l.number l.rest ≡ number_of l.fn.digits;
  fits : l.number ≤ 4294967295;
}

abbrev pub decreases-loop-rest : goal.decreases-loop-rest
decreases-loop-rest l = length l.rest
