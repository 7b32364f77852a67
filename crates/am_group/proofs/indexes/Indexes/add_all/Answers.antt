use Rattle.std.proofs.Common.{List, sym, subst}
use Rattle.std.proofs.Math.Seq.{take-length}
use Rattle.am_names.specs.{MemberRow}
use Rattle.am_group.specs.{AreAdded}
use Rattle.am_group.proofs.IndexedLemmas.{added_then_same}
use Rattle.am_group.proofs.indexes.Indexes.add_all.Goals as goal

pub returns-in-Err-clause-err : goal.returns-in-Err-clause-err
returns-in-Err-clause-err c =
    c.take_back.ensures c.args.self.now
    (subst (λ (rows : List MemberRow). AreAdded rows c.args.self.now c.add_groups.new.self)
    (sym (take-length c.args.members.now))
    (added_then_same c.args.members.now c.args.self.now c.add_members.new.self c.add_groups.new.self
    c.in_ok-add_members.ensures.ok c.in-Err.ensures.err))
