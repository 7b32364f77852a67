use Rattle.std.proofs.Common.{◌≡◌, List, ℕ, sym, ap, subst, ◌∙◌}
use Rattle.std.specs.Prelude.{filter, not}
use Rattle.std.specs.List.Sorted.{IsNonDecreasing}
use Rattle.std.proofs.lemmas.List.Kept.{IsStrictlyIncreasing-filter}
use Rattle.am_names.specs.PeerGroups.{PeerGroups}
use Rattle.am_names.specs.{is_among}
use Rattle.am_group.specs.{IsOrderly, AreLost, goes_whole}
use Rattle.am_group.proofs.GoneLemmas.{lost_whole}
use Rattle.am_group.proofs.LostLemmas.{groups_that_go}
use Rattle.am_group.proofs.OrderedLemmas.{not_falling}
use Rattle.am_group.proofs.groups.Groups.lost.Goals as goal

pub returns-clause-ordered : goal.returns-clause-ordered
returns-clause-ordered c =
    let keeps = goes_whole c.args.self.now.members c.args.gone.now in
    let left = c.in_ok-left.left.items in
    let is : c.in_ok-lost.lost.items ≡ filter keeps left = c.in_ok-lost.ensures ∙ ap (filter keeps) c.as_slice.ensures.value in
    subst (λ (xs : List ℕ). IsNonDecreasing xs) (sym is)
    (not_falling _ (IsStrictlyIncreasing-filter keeps left c.in_ok-left.ensures.rising))

pub returns-clause-exact : goal.returns-clause-exact
returns-clause-exact c =
    let gone = c.args.gone.now in
    let s = c.args.self.now in
    let orderly : IsOrderly s = subst (λ (x : PeerGroups). IsOrderly x) c.self.view_is c.self.invariant.orderly in
    let keeps = goes_whole s.members gone in
    let left = c.in_ok-left.left.items in
    let is : c.in_ok-lost.lost.items ≡ filter keeps left = c.in_ok-lost.ensures ∙ ap (filter keeps) c.as_slice.ensures.value in
    subst (λ (xs : List ℕ). AreLost s.members (filter (λ row. not (is_among gone row.mount)) s.members) xs) (sym is)
    (lost_whole gone s.members left (groups_that_go s orderly.rising gone left c.in_ok-left.ensures.exact))
