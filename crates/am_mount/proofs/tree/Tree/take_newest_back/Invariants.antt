use Rattle.std.proofs.Common.{◌≡◌, ◌≤◌, length, take}
use Rattle.std.specs.Prelude.{filter, not}
use Rattle.am_names.specs.{is_among}
use Rattle.am_mount.proofs.tree.Tree.take_newest_back.Given as goal

abbrev pub invariant-loop-count : goal.invariant-loop-count
invariant-loop-count l = record {
  within : l.count ≤ length l.fn.gone;
  same : filter (λ row. not (is_among (take l.count l.fn.gone) row.mount)) l.self ≡ filter (λ row. not (is_among l.fn.gone row.mount)) l.fn.self;
}

abbrev pub decreases-loop-count : goal.decreases-loop-count
decreases-loop-count l = l.count
