use Rattle.std.proofs.Common.{◌≡◌, ◌≤◌, ◌<◌, ℕ, Option, take, refl, subst, arith}
use Rattle.am_index.specs.{DropsLast}
use Rattle.am_group.specs.{AreAdded, is_just}
use Rattle.am_group.proofs.IndexedLemmas.{added_none, one_back}
use Rattle.am_group.proofs.indexes.Indexes.take_back.Goals as goal

pub loop-left-preserved : goal.loop-left-preserved
loop-left-preserved c =
    let some : 0 < c.loop-left.left = c.loop-left-test.true in
    let bound : c.loop-left.left ≤ c.args.count = c.loop-left.invariant.0 in
    let fits = c.requires in (
      omega arith,
      λ old was.
          one_back c.args.rows.now c.loop-left.left c.index-rows-left.result some (omega arith) c.index-rows-left.is old c.loop-left.self _
          (c.loop-left.invariant.1 old was)
          (subst (λ (o : Option ℕ). DropsLast (λ n. is_just n o) c.loop-left.self.members c.drop_from.new.index) c.group.ensures c.drop_from.ensures)
          (subst (λ (o : Option ℕ). DropsLast (λ n. is_just n o) c.loop-left.self.slaves c.drop_from-in-loop-left.new.index) c.master.ensures c.drop_from-in-loop-left.ensures)
          (λ n. refl),
    )

pub returns : goal.returns
returns c = λ old was.
    let none : c.loop-left.left ≡ 0 = omega (arith, c.loop-left-test.false) in
    added_none old c.loop-left.self
    (subst (λ (k : ℕ). AreAdded (take k c.args.rows.now) old c.loop-left.self) none (c.loop-left.invariant.1 old was))
