use Rattle.std.proofs.Common.{◌≡◌, ◌≤◌, false, length, drop}
use Rattle.std.specs.List.{list_any}
use Rattle.am_names.specs.{same_names}
use Rattle.am_daemon.proofs.known.any_is_at.Given as goal

abbrev pub invariant-loop-left : goal.invariant-loop-left
invariant-loop-left l = record {
  within : l.left ≤ length l.fn.places.entries;
  none : list_any (λ row. same_names row.1 l.fn.path) (drop l.left l.fn.places.entries) ≡ false;
}

abbrev pub decreases-loop-left : goal.decreases-loop-left
decreases-loop-left l = l.left
