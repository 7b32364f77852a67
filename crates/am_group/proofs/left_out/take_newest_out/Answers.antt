use Rattle.std.proofs.Common.{◌≡◌, ◌≤◌, ◌<◌, ◌+◌, ◌-◌, ℕ, List, Some, length, take, arith, rules, ap, sym, subst, ◌∙◌}
use Rattle.std.specs.Prelude.{filter, not, option_map}
use Rattle.std.specs.List.{slice_get}
use Rattle.am_names.specs.{MemberRow, is_among}
use Rattle.am_group.specs.{RiseFrom}
use Rattle.am_group.proofs.LeaveLemmas.{RiseBy-take, newest_out}
use Rattle.am_group.proofs.left_out.take_newest_out.Goals as goal

pub loop-count-preserved : goal.loop-count-preserved
loop-count-preserved c =
    let gone = c.args.gone.now in
    let rows : List MemberRow = c.loop-count.members.rows in
    let count = c.loop-count.count in
    let some : 0 < count = c.loop-count-test.true in
    let bound : count ≤ length gone = c.loop-count.invariant.0 in
    let next : (count - 1) + 1 ≡ count = omega arith in
    let x = c.index-gone-before.result in
    let newest : option_map (λ (row : MemberRow). row.mount) (slice_get rows (length rows - 1)) ≡ Some x = search rules in (
      omega arith,
      subst (λ (xs : List MemberRow). RiseFrom 0 xs) (sym c.pop-row.ensures.rest)
          (RiseBy-take (λ (row : MemberRow). row.mount) 0 (length rows - 1) rows c.loop-count.invariant.1),
      ap (filter (λ (row : MemberRow). not (is_among (take (count - 1) gone) row.mount))) c.pop-row.ensures.rest ∙
          newest_out (λ (row : MemberRow). row.mount) rows c.loop-count.invariant.1 gone (count - 1) x (omega arith) c.index-gone-before.is newest ∙
          ap (λ (n : ℕ). filter (λ (row : MemberRow). not (is_among (take n gone) row.mount)) rows) next ∙
          c.loop-count.invariant.2,
    )
