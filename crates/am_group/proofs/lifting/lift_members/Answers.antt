use Rattle.std.proofs.Common.{◌≡◌, ◌<◌, List, length, sym, subst, ◌∙◌, rules}
use Rattle.am_index.specs.{listed}
use Rattle.am_names.specs.{MemberRow}
use Rattle.am_group.specs.{under_master, RiseFrom}
use Rattle.am_group.proofs.MasterLemmas.{lifted_alike, under_mount, under_own, under_twice}
use Rattle.am_group.proofs.LiftingLemmas.{first_all, first_more, first_none, first_rises, named_at}
use Rattle.am_group.proofs.lifting.lift_members.Goals as goal

pub loop-lift-init : goal.loop-lift-init
loop-lift-init c =
    first_none c.args.lifts.now c.requires.lifts (λ (r : MemberRow). r.mount) (λ (r : MemberRow). r.master) under_master under_mount under_twice c.args.members.now.rows

pub set_masters-requires : goal.set_masters-requires
set_masters-requires c =
    subst (λ (xs : List MemberRow). RiseFrom 0 xs) (sym c.loop-lift.invariant)
    (first_rises c.args.lifts.now c.requires.lifts (λ (r : MemberRow). r.mount) (λ (r : MemberRow). r.master) under_master under_mount under_twice 0
    c.loop-lift.lift-index c.args.members.now.rows c.requires.rising)

pub loop-lift-preserved : goal.loop-lift-preserved
loop-lift-preserved c =
    let within : c.loop-lift.lift-index < length c.args.lifts.now = search rules in
    let lift = c.lift-item.result in
    let here : c.list.result.now ≡ listed c.args.slaves.now lift.group = search rules in
    first_more c.args.lifts.now c.requires.lifts (λ (r : MemberRow). r.mount) (λ (r : MemberRow). r.master) under_master under_mount under_twice
    c.loop-lift.lift-index lift within c.lift-item.is c.args.members.now.rows c.requires.rising c.list.result.now
    (here ∙ c.requires.listed lift.group (named_at c.args.lifts.now c.requires.lifts c.loop-lift.lift-index lift within c.lift-item.is))
    c.loop-lift.members.rows c.set_masters.new.members.rows c.loop-lift.invariant c.set_masters.ensures

pub returns : goal.returns
returns c =
    let all : c.loop-lift.lift-index ≡ length c.args.lifts.now = search rules in
    c.loop-lift.invariant ∙
    first_all c.args.lifts.now c.requires.lifts (λ (r : MemberRow). r.mount) (λ (r : MemberRow). r.master) under_master under_mount under_twice
    c.loop-lift.lift-index all c.args.members.now.rows under_own ∙
    lifted_alike c.args.lifts.now c.args.members.now.rows
