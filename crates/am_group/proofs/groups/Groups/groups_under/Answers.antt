use Rattle.std.proofs.Common.{ℕ, subst}
use Rattle.std.proofs.lemmas.List.Sorted.{IsNonDecreasingBy-from_sort}
use Rattle.am_names.specs.PeerGroups.{PeerGroups}
use Rattle.am_group.specs.{IsOrderly}
use Rattle.am_group.proofs.HomeLemmas.{met_sorted}
use Rattle.am_group.proofs.WalkLemmas.{under_stands}
use Rattle.am_group.proofs.groups.Groups.groups_under.Goals as goal

pub returns : goal.returns
returns c =
    let s = c.args.self.now in
    let orderly = subst (λ (x : PeerGroups). IsOrderly x) c.self.view_is c.self.invariant.orderly in
    met_sorted s orderly c.args.own c.in_ok-under.under.items c.sort_unstable.new.self.items c.in_ok-under.ensures
    c.sort_unstable.ensures.permutation (IsNonDecreasingBy-from_sort (λ (x : ℕ). x) _ c.sort_unstable.ensures.sorted)
    (under_stands s orderly c.args.own c.requires)
