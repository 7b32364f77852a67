use Rattle.std.proofs.Common.{◌≡◌, ◌<◌, ℕ, false, get_or}
use Rattle.am_names.specs.{is_slash}
use Rattle.am_names.proofs.text.name_len.Given as goal

abbrev pub invariant-loop-at : goal.invariant-loop-at
invariant-loop-at l = (k : ℕ) → k < l.at → is_slash (get_or l.text k 0) ≡ false
