use Rattle.std.proofs.Common.{◌≡◌, ℕ, ◌≤◌, length, drop}
use Rattle.std.specs.List.{position_from}
use Rattle.std.specs.Ordering.{nat_cmp}
use Rattle.std.specs.BTreeMap.{get}
use Rattle.am_mountinfo.specs.{is_number}
use Rattle.am_import.proofs.firsts.first_places.Given as goal

abbrev pub invariant-loop-place : goal.invariant-loop-place
invariant-loop-place l = record {
  kept : (n : ℕ) → get nat_cmp l.places n ≡ position_from (is_number n) l.place (drop l.place l.numbers);
  within : l.place ≤ length l.numbers;
}

abbrev pub decreases-loop-place : goal.decreases-loop-place
decreases-loop-place l = l.place
