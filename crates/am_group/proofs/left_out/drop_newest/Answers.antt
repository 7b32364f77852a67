use Rattle.std.proofs.Common.{◌≡◌, ◌≤◌, ◌<◌, ◌+◌, ◌-◌, ℕ, List, Some, length, take, arith, rules, ap, sym, subst, ◌∙◌}
use Rattle.std.specs.Prelude.{filter, not, option_map}
use Rattle.std.specs.List.{slice_get}
use Rattle.am_names.specs.{GroupRow, is_among}
use Rattle.am_group.specs.Invariant.{GroupsRise}
use Rattle.am_group.proofs.LeaveLemmas.{RiseBy-take, newest_out}
use Rattle.am_group.proofs.left_out.drop_newest.Goals as goal

pub loop-count-preserved : goal.loop-count-preserved
loop-count-preserved c =
    let lost = c.args.lost.now in
    let rows : List GroupRow = c.loop-count.groups.rows in
    let count = c.loop-count.count in
    let some : 0 < count = c.loop-count-test.true in
    let bound : count ≤ length lost = c.loop-count.invariant.0 in
    let next : (count - 1) + 1 ≡ count = omega arith in
    let x = c.index-lost-before.result in
    let newest : option_map (λ (row : GroupRow). row.group) (slice_get rows (length rows - 1)) ≡ Some x = search rules in (
      omega arith,
      subst (λ (xs : List GroupRow). GroupsRise xs) (sym c.pop-row.ensures.rest)
          (RiseBy-take (λ (row : GroupRow). row.group) 0 (length rows - 1) rows c.loop-count.invariant.1),
      ap (filter (λ (row : GroupRow). not (is_among (take (count - 1) lost) row.group))) c.pop-row.ensures.rest ∙
          newest_out (λ (row : GroupRow). row.group) rows c.loop-count.invariant.1 lost (count - 1) x (omega arith) c.index-lost-before.is newest ∙
          ap (λ (n : ℕ). filter (λ (row : GroupRow). not (is_among (take n lost) row.group)) rows) next ∙
          c.loop-count.invariant.2,
    )
