use Rattle.std.proofs.Common.{◌<◌, List, length, take, refl, sym, subst, rules}
use Rattle.am_names.specs.{GroupRow}
use Rattle.am_group.specs.{group_under}
use Rattle.am_group.specs.Invariant.{GroupsRise}
use Rattle.am_group.proofs.LiftingLemmas.{change_more, change_none, change_rises}
use Rattle.am_group.proofs.lifting.set_group_masters.Goals as goal

pub loop-group-init : goal.loop-group-init
loop-group-init c =
    change_none (λ (r : GroupRow). r.group) (group_under c.args.lift.now.master) (λ r. refl) (λ r. refl) c.args.groups.now.rows

pub set_group_master-requires : goal.set_group_master-requires
set_group_master-requires c =
    subst (λ (xs : List GroupRow). GroupsRise xs) (sym c.loop-group.invariant)
    (change_rises (λ (r : GroupRow). r.group) (group_under c.args.lift.now.master) (λ r. refl) (λ r. refl) 0
    (take c.loop-group.group-index c.args.numbers.now) c.args.groups.now.rows c.requires)

pub loop-group-preserved : goal.loop-group-preserved
loop-group-preserved c =
    let within : c.loop-group.group-index < length c.args.numbers.now = search rules in
    change_more (λ (r : GroupRow). r.group) (group_under c.args.lift.now.master) (λ r. refl) (λ r. refl)
    c.args.numbers.now c.loop-group.group-index _ within (search rules) c.args.groups.now.rows c.loop-group.groups.rows c.set_group_master.new.groups.rows
    c.loop-group.invariant c.set_group_master.ensures
