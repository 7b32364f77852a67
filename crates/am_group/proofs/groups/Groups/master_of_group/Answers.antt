use Rattle.std.proofs.Common.{◌≡◌, ◌<◌, ℕ, Option, Some, None, refl, ap, subst, ◌∙◌}
use Rattle.std.specs.Prelude.{IfSome}
use Rattle.am_names.specs.PeerGroups.{PeerGroups}
use Rattle.am_group.specs.{group_row, master_in, IsOrderly}
use Rattle.am_group.proofs.groups.Groups.master_of_group.Goals as goal

pub returns-in-Some-clause-lower : goal.returns-in-Some-clause-lower
returns-in-Some-clause-lower c = lower c.in-Some.row.master refl
  where
    orderly : IsOrderly c.args.self.now
    orderly = subst (λ (x : PeerGroups). IsOrderly x) c.self.view_is c.self.invariant.orderly

    lower : (o : Option ℕ) → c.in-Some.row.master ≡ o → IfSome o (λ master. master < c.args.group)
    lower None e = tt
    lower (Some n) e = let found : group_row c.args.self.now.groups c.args.group ≡ Some c.in-Some.row = cc (ap (λ (x : PeerGroups). x.groups) c.self.view_is) in orderly.down c.args.group n (ap master_in found ∙ e)
