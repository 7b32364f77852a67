use Rattle.std.proofs.Common.{refl, rules}
use Rattle.am_group.specs.{HaveSameLists, Links, Unlinks}
use Rattle.am_group.proofs.LiftingLemmas.{linked_back, unlinked}
use Rattle.am_group.proofs.lifting.link_all.Goals as goal

pub returns-in_err-link-clause-err : goal.returns-in_err-link-clause-err
returns-in_err-link-clause-err c =
    let t = c.args.indexes.now in
    let back : Unlinks c.args.lifts.now t.slaves c.link.new.index = search rules in
    let same : HaveSameLists t (record { members = t.members; slaves = c.link.new.index; below = t.below }) = record {
      members = λ n. refl;
      slaves = unlinked c.args.lifts.now c.requires.lifts t.slaves c.link.new.index c.requires.rising.slaves c.requires.slaves back;
      below = λ n. refl;
    } in
    search (rules, same)

pub returns-in-Err-clause-err : goal.returns-in-Err-clause-err
returns-in-Err-clause-err c =
    let t = c.args.indexes.now in
    let lifts = c.args.lifts.now in
    let links : Links lifts t.slaves c.link.new.index = search rules in
    let back : Unlinks lifts t.below c.link-2.new.index = search rules in
    record {
      members = λ n. refl;
      slaves = linked_back lifts c.requires.lifts t.slaves c.link.new.index c.link.new.index c.unlink.new.index
          c.requires.rising.slaves c.requires.slaves links (λ n. refl) c.unlink.ensures;
      below = unlinked lifts c.requires.lifts t.below c.link-2.new.index c.requires.rising.below c.requires.below back;
    }

pub returns-in-Err-room_for-clause-err : goal.returns-in-Err-room_for-clause-err
returns-in-Err-room_for-clause-err c =
    let t = c.args.indexes.now in
    let lifts = c.args.lifts.now in
    let links : Links lifts t.slaves c.link.new.index = search rules in
    let others : Links lifts t.below c.link-2.new.index = search rules in
    record {
      members = λ n. refl;
      slaves = linked_back lifts c.requires.lifts t.slaves c.link.new.index c.room_for.new.index c.unlink-in-Err-room_for.new.index
          c.requires.rising.slaves c.requires.slaves links c.room_for.ensures.same c.unlink-in-Err-room_for.ensures;
      below = linked_back lifts c.requires.lifts t.below c.link-2.new.index c.link-2.new.index c.unlink-in-Err-room_for-2.new.index
          c.requires.rising.below c.requires.below others (λ n. refl) c.unlink-in-Err-room_for-2.ensures;
    }
