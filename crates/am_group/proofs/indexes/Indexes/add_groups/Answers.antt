use Rattle.std.proofs.Common.{◌≡◌, ◌≤◌, ◌<◌, ℕ, length, take, subst, ap, ◌∙◌, arith}
use Rattle.std.proofs.lemmas.List.{take_all}
use Rattle.std.proofs.Common.{List}
use Rattle.am_names.specs.{GroupRow}
use Rattle.am_group.specs.{GroupsAreAdded}
use Rattle.am_group.proofs.IndexedLemmas.{groups_added_then_same, no_groups_added, one_more_group, same_lists}
use Rattle.am_group.proofs.indexes.Indexes.add_groups.Goals as goal

pub loop-at-init : goal.loop-at-init
loop-at-init c = (omega arith, no_groups_added c.args.self.now c.args.self.now (same_lists c.args.self.now))

pub returns-in-Err-clause-err : goal.returns-in-Err-clause-err
returns-in-Err-clause-err c =
    c.take_groups_back.ensures c.args.self.now
    (groups_added_then_same (take c.loop-at.at c.args.rows.now) c.args.self.now c.loop-at.self c.make_group_room.new.self
    c.loop-at.invariant.1 c.make_group_room.ensures.same)

pub loop-at-preserved : goal.loop-at-preserved
loop-at-preserved c =
    let within : c.loop-at.at < length c.args.rows.now = c.loop-at-test.true in (
      omega arith,
      one_more_group c.args.rows.now c.loop-at.at c.index-rows-at.result within c.index-rows-at.is c.args.self.now c.make_group_room.new.self c.add_group.new.self
          (groups_added_then_same (take c.loop-at.at c.args.rows.now) c.args.self.now c.loop-at.self c.make_group_room.new.self
          c.loop-at.invariant.1 c.make_group_room.ensures.same)
          c.add_group.ensures,
    )

pub returns-clause-ok : goal.returns-clause-ok
returns-clause-ok c =
    let bound : c.loop-at.at ≤ length c.args.rows.now = c.loop-at.invariant.0 in
    let all : c.loop-at.at ≡ length c.args.rows.now = omega (arith, c.loop-at-test.false) in
    subst (λ (rows : List GroupRow). GroupsAreAdded rows c.args.self.now c.loop-at.self)
    (ap (λ (k : ℕ). take k c.args.rows.now) all ∙ take_all (length c.args.rows.now) c.args.rows.now (omega arith)) c.loop-at.invariant.1
