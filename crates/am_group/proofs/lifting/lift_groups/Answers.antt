use Rattle.std.proofs.Common.{◌≡◌, ◌<◌, List, length, refl, sym, subst, ◌∙◌, rules}
use Rattle.am_index.specs.{listed}
use Rattle.am_names.specs.{GroupRow}
use Rattle.am_group.specs.{group_under}
use Rattle.am_group.specs.Invariant.{GroupsRise}
use Rattle.am_group.proofs.LiftingLemmas.{first_all, first_more, first_none, first_rises, named_at}
use Rattle.am_group.proofs.lifting.lift_groups.Goals as goal

pub loop-lift-init : goal.loop-lift-init
loop-lift-init c =
    first_none c.args.lifts.now c.requires.lifts (λ (r : GroupRow). r.group) (λ (r : GroupRow). r.master) group_under (λ o r. refl) (λ o r. refl) c.args.groups.now.rows

pub set_group_masters-requires : goal.set_group_masters-requires
set_group_masters-requires c =
    subst (λ (xs : List GroupRow). GroupsRise xs) (sym c.loop-lift.invariant)
    (first_rises c.args.lifts.now c.requires.lifts (λ (r : GroupRow). r.group) (λ (r : GroupRow). r.master) group_under (λ o r. refl) (λ o r. refl) 0
    c.loop-lift.lift-index c.args.groups.now.rows c.requires.rising)

pub loop-lift-preserved : goal.loop-lift-preserved
loop-lift-preserved c =
    let within : c.loop-lift.lift-index < length c.args.lifts.now = search rules in
    let lift = c.lift-item.result in
    let here : c.list.result.now ≡ listed c.args.below.now lift.group = search rules in
    first_more c.args.lifts.now c.requires.lifts (λ (r : GroupRow). r.group) (λ (r : GroupRow). r.master) group_under (λ o r. refl) (λ o r. refl)
    c.loop-lift.lift-index lift within c.lift-item.is c.args.groups.now.rows c.requires.rising c.list.result.now
    (here ∙ c.requires.listed lift.group (named_at c.args.lifts.now c.requires.lifts c.loop-lift.lift-index lift within c.lift-item.is))
    c.loop-lift.groups.rows c.set_group_masters.new.groups.rows c.loop-lift.invariant c.set_group_masters.ensures

pub returns : goal.returns
returns c =
    let all : c.loop-lift.lift-index ≡ length c.args.lifts.now = search rules in
    c.loop-lift.invariant ∙
    first_all c.args.lifts.now c.requires.lifts (λ (r : GroupRow). r.group) (λ (r : GroupRow). r.master) group_under (λ o r. refl) (λ o r. refl)
    c.loop-lift.lift-index all c.args.groups.now.rows (λ r. refl)
