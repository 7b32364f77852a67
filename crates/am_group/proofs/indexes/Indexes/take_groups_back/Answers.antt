use Rattle.std.proofs.Common.{◌≡◌, ◌≤◌, ◌<◌, ℕ, take, refl, subst, arith}
use Rattle.am_group.specs.{GroupsAreAdded}
use Rattle.am_group.proofs.IndexedLemmas.{groups_added_none, one_group_back}
use Rattle.am_group.proofs.indexes.Indexes.take_groups_back.Goals as goal

pub loop-left-preserved : goal.loop-left-preserved
loop-left-preserved c =
    let some : 0 < c.loop-left.left = c.loop-left-test.true in
    let bound : c.loop-left.left ≤ c.args.count = c.loop-left.invariant.0 in
    let fits = c.requires in (
      omega arith,
      λ old was.
          one_group_back c.args.rows.now c.loop-left.left c.index-rows-left.result some (omega arith) c.index-rows-left.is old c.loop-left.self (record c.loop-left.self { below = c.drop_from.new.index })
          (c.loop-left.invariant.1 old was) (λ n. refl) (λ n. refl) c.drop_from.ensures,
    )

pub returns : goal.returns
returns c = λ old was.
    let none : c.loop-left.left ≡ 0 = omega (arith, c.loop-left-test.false) in
    groups_added_none old c.loop-left.self
    (subst (λ (k : ℕ). GroupsAreAdded (take k c.args.rows.now) old c.loop-left.self) none (c.loop-left.invariant.1 old was))
