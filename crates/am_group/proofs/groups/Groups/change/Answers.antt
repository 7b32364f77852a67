use Rattle.std.proofs.Common.{subst, sym}
use Rattle.std.specs.Prelude.{OnOk}
use Rattle.am_names.specs.PeerGroups.{PeerGroups}
use Rattle.am_group.specs.{Change, IsOrderly, FollowsTable}
use Rattle.am_group.specs.declared.mount_state.Change.TheVariants.{MakeShared, MakeSlave, MakePrivate, MakeUnbindable}
use Rattle.am_group.proofs.TableLemmas.{table_ok}
use Rattle.am_group.proofs.groups.Groups.change.Goals as goal

pub returns-in-MakeShared-clause-table : goal.returns-in-MakeShared-clause-table
returns-in-MakeShared-clause-table c =
    let s = c.args.self.now in
    let orderly = subst (λ (x : PeerGroups). IsOrderly x) c.self.view_is c.self.invariant.orderly in
    subst (λ (x : Change). OnOk c.make_shared.result (FollowsTable x c.args.mount s c.make_shared.new.self)) (sym c.in-MakeShared.is) (table_ok c.make_shared.result s c.make_shared.new.self orderly MakeShared c.args.mount c.make_shared.ensures.ok)

pub returns-in-MakeSlave-clause-table : goal.returns-in-MakeSlave-clause-table
returns-in-MakeSlave-clause-table c =
    let s = c.args.self.now in
    let orderly = subst (λ (x : PeerGroups). IsOrderly x) c.self.view_is c.self.invariant.orderly in
    subst (λ (x : Change). OnOk c.make_slave.result (FollowsTable x c.args.mount s c.make_slave.new.self)) (sym c.in-MakeSlave.is) (table_ok c.make_slave.result s c.make_slave.new.self orderly MakeSlave c.args.mount c.make_slave.ensures.ok)

pub returns-in-MakePrivate-clause-table : goal.returns-in-MakePrivate-clause-table
returns-in-MakePrivate-clause-table c =
    let s = c.args.self.now in
    let orderly = subst (λ (x : PeerGroups). IsOrderly x) c.self.view_is c.self.invariant.orderly in
    subst (λ (x : Change). OnOk c.make_private.result (FollowsTable x c.args.mount s c.make_private.new.self)) (sym c.in-MakePrivate.is) (table_ok c.make_private.result s c.make_private.new.self orderly MakePrivate c.args.mount c.make_private.ensures.ok)

pub returns-in-MakeUnbindable-clause-table : goal.returns-in-MakeUnbindable-clause-table
returns-in-MakeUnbindable-clause-table c =
    let s = c.args.self.now in
    let orderly = subst (λ (x : PeerGroups). IsOrderly x) c.self.view_is c.self.invariant.orderly in
    subst (λ (x : Change). OnOk c.make_unbindable.result (FollowsTable x c.args.mount s c.make_unbindable.new.self)) (sym c.in-MakeUnbindable.is) (table_ok c.make_unbindable.result s c.make_unbindable.new.self orderly MakeUnbindable c.args.mount c.make_unbindable.ensures.ok)
