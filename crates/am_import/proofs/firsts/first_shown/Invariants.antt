use Rattle.std.proofs.Common.{◌≡◌, ℕ, List, ◌≤◌, length, drop}
use Rattle.am_import.specs.Firsts.{shown_in}
use Rattle.am_import.proofs.ShownLemmas.{from}
use Rattle.am_import.proofs.firsts.first_shown.Given as goal

abbrev pub invariant-loop-place : goal.invariant-loop-place
invariant-loop-place l = record {
  kept : (shown : List ℕ) → shown_in l.places shown ≡ from shown l.place (drop l.place l.rows);
  within : l.place ≤ length l.rows;
}

abbrev pub decreases-loop-place : goal.decreases-loop-place
decreases-loop-place l = l.place
