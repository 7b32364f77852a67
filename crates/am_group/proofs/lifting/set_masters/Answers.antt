use Rattle.std.proofs.Common.{◌<◌, List, length, take, sym, subst, rules}
use Rattle.am_names.specs.{MemberRow}
use Rattle.am_group.specs.{under_master, RiseFrom}
use Rattle.am_group.proofs.MasterLemmas.{under_mount, under_twice}
use Rattle.am_group.proofs.LiftingLemmas.{change_more, change_none, change_rises}
use Rattle.am_group.proofs.lifting.set_masters.Goals as goal

pub loop-mount-init : goal.loop-mount-init
loop-mount-init c =
    change_none (λ (r : MemberRow). r.mount) (under_master c.args.lift.now.master) (under_mount c.args.lift.now.master) (under_twice c.args.lift.now.master) c.args.members.now.rows

pub set_master-requires : goal.set_master-requires
set_master-requires c =
    subst (λ (xs : List MemberRow). RiseFrom 0 xs) (sym c.loop-mount.invariant)
    (change_rises (λ (r : MemberRow). r.mount) (under_master c.args.lift.now.master) (under_mount c.args.lift.now.master) (under_twice c.args.lift.now.master) 0
    (take c.loop-mount.mount-index c.args.mounts.now) c.args.members.now.rows c.requires)

pub loop-mount-preserved : goal.loop-mount-preserved
loop-mount-preserved c =
    let within : c.loop-mount.mount-index < length c.args.mounts.now = search rules in
    change_more (λ (r : MemberRow). r.mount) (under_master c.args.lift.now.master) (under_mount c.args.lift.now.master) (under_twice c.args.lift.now.master)
    c.args.mounts.now c.loop-mount.mount-index _ within (search rules) c.args.members.now.rows c.loop-mount.members.rows c.set_master.new.members.rows
    c.loop-mount.invariant c.set_master.ensures
