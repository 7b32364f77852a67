use Rattle.std.proofs.Common.{rules, refl, sym, ap, subst, ◌∙◌}
use Rattle.am_names.specs.{row_with}
use Rattle.am_names.specs.PeerGroups.{PeerGroups}
use Rattle.am_group.specs.{IsOrderly, IsPeopled, no_mounts, with_member}
use Rattle.am_names.specs.declared.membership.Membership.TheVariants.{Private}
use Rattle.am_group.proofs.MemberLemmas.{member_orderly, none_orderly}
use Rattle.am_propagate.proofs.OpeningLemmas.{none_peopled}
use Rattle.am_propagate.proofs.subtree.Subtree.new.Goals as goal

pub invariant_of-result : goal.invariant_of-result
invariant_of-result c = record {
  rising = search rules;
  sound = record {
    orderly = subst (λ (x : PeerGroups). IsOrderly x) (sym (c.in_ok-add.ensures.ok ∙ ap (λ (x : PeerGroups). with_member (row_with Private 1) x) c.new-groups.ensures)) (member_orderly no_mounts none_orderly 1 Private refl refl);
    peopled = c.in_ok-add.ensures.peopled (subst (λ (x : PeerGroups). IsPeopled x) (sym c.new-groups.ensures) none_peopled) refl;
  };
  same_mounts = search rules;
  numbered = search rules;
  parents = search rules;
  older = search rules;
  one_fs = search rules;
}
