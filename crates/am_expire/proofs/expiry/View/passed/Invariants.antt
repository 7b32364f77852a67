use Rattle.std.proofs.Common.{◌≡◌, ◌<◌, ℕ, false, get_or}
use Rattle.am_expire.specs.{is_end, no_use, rows_in, expiry_in}
use Rattle.am_expire.proofs.expiry.View.passed.Given as goal

abbrev pub invariant-loop-index : goal.invariant-loop-index
invariant-loop-index l =
    (k : ℕ) → k < l.index → is_end (expiry_in l.fn.self) (get_or (rows_in l.part) k no_use) ≡ false
