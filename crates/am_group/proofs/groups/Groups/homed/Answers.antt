use Rattle.std.proofs.Common.{ℕ, List, ap, subst, ◌∙◌}
use Rattle.std.specs.Prelude.{◌==◌, filter, not}
use Rattle.std.specs.List.Sorted.{IsPermutation}
use Rattle.std.proofs.lemmas.List.Sorted.{IsNonDecreasingBy-from_sort}
use Rattle.am_names.specs.PeerGroups.{PeerGroups}
use Rattle.am_group.specs.{IsOrderly}
use Rattle.am_group.proofs.HomeLemmas.{homes_sorted}
use Rattle.am_group.proofs.groups.Groups.homed.Goals as goal

pub returns : goal.returns
returns c =
    let s = c.args.self.now in
    let orderly = subst (λ (x : PeerGroups). IsOrderly x) c.self.view_is c.self.invariant.orderly in
    let sorted = c.sort_unstable.new.self.items in
    c.in_ok-others.ensures ∙
    ap (λ (xs : List ℕ). filter (λ x. not (x == c.args.mount)) xs) c.as_slice.ensures.value ∙
    homes_sorted s orderly c.args.mount c.args.groups.now sorted c.requires
    (subst (λ (xs : List ℕ). IsPermutation xs sorted) c.in_ok-found.ensures c.sort_unstable.ensures.permutation)
    (IsNonDecreasingBy-from_sort (λ (x : ℕ). x) _ c.sort_unstable.ensures.sorted)
