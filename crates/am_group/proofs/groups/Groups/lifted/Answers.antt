use Rattle.std.proofs.Common.{◌≡◌, false, ap, sym, subst, ◌∙◌}
use Rattle.am_names.specs.PeerGroups.{PeerGroups}
use Rattle.am_group.specs.{IsOrderly, is_other_than, lifted}
use Rattle.am_group.proofs.LiftLemmas.{lifted_step}
use Rattle.am_group.proofs.groups.Groups.lifted.Goals as goal

pub loop-current-preserved : goal.loop-current-preserved
loop-current-preserved c =
    let s = c.args.self.now in
    let stays = is_other_than c.args.lost.now in
    let orderly = subst (λ (x : PeerGroups). IsOrderly x) c.self.view_is c.self.invariant.orderly in
    let gone : stays c.in-Some.group ≡ false = cc in
    c.loop-current.invariant ∙ ap (lifted stays s) c.in-Some.is ∙ lifted_step stays s orderly c.in-Some.group gone ∙
    ap (lifted stays s) (sym c.master_of_group-current.ensures.master)
