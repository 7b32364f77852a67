use Rattle.std.proofs.Common.{◌<◌, ◌+◌, ◌*◌, ◌-◌, get_or, refl, arith}
use Rattle.am_master.proofs.DecimalLemmas.{too_big}
use Rattle.am_diagnosis.proofs.master_words.fits_seconds.Goals as goal

pub returns-then-number-gt4294967295 : goal.returns-then-number-gt4294967295
returns-then-number-gt4294967295 c =
    let big : 4294967295 < c.loop-rest.number * 10 + (get_or c.loop-rest.rest.now 0 0 - 48) = omega (arith, c.if-number-gt4294967295.true, c.from.ensures, c.saturating_sub.ensures) in
    rw (too_big c.loop-rest.number _ c.loop-rest.rest.now c.in-len1-up.len_at_least c.loop-rest.invariant.so_far big) refl
