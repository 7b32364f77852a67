use Rattle.std.proofs.Common.{◌≡◌, ◌≤◌, ◌<◌, ◌+◌, ◌-◌, ℕ, List, Some, length, take, arith, rules, ap, ◌∙◌}
use Rattle.std.specs.Prelude.{filter, not, option_map}
use Rattle.std.specs.List.{slice_get}
use Rattle.am_names.specs.{MountRow, is_among}
use Rattle.am_mount.proofs.LeaveLemmas.{newest_out}
use Rattle.am_mount.proofs.tree.Tree.take_newest_back.Goals as goal

pub loop-count-preserved : goal.loop-count-preserved
loop-count-preserved c =
    let gone = c.args.gone.now in
    let rows : List MountRow = c.loop-count.self in
    let count = c.loop-count.count in
    let some : 0 < count = c.loop-count-test.true in
    let bound : count ≤ length gone = c.loop-count.invariant.within in
    let next : (count - 1) + 1 ≡ count = omega arith in
    let newest : option_map (λ (row : MountRow). row.mount) (slice_get rows (length rows - 1)) ≡ Some c.index-gone-before.result = search rules in
    record {
      within = omega arith;
      same =
          ap (filter (λ row. not (is_among (take (count - 1) gone) row.mount))) c.take_one_back.ensures ∙
          newest_out rows c.is_newest.ensures.rising gone (count - 1) c.index-gone-before.result (omega arith) c.index-gone-before.is newest ∙
          ap (λ (n : ℕ). filter (λ row. not (is_among (take n gone) row.mount)) rows) next ∙
          c.loop-count.invariant.same;
    }
