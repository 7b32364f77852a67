use Rattle.std.proofs.Common.{List, ℕ, ap, subst, ◌∙◌}
use Rattle.std.specs.Prelude.{◌==◌, filter, not}
use Rattle.am_names.specs.PeerGroups.{PeerGroups}
use Rattle.am_group.specs.{IsOrderly}
use Rattle.am_group.proofs.OrderedLemmas.{receiving_listed}
use Rattle.am_group.proofs.groups.Groups.receiving_groups.Goals as goal

pub returns : goal.returns
returns c =
    let s = c.args.self.now in
    let orderly = subst (λ (x : PeerGroups). IsOrderly x) c.self.view_is c.self.invariant.orderly in
    c.in_ok-others.ensures ∙
    ap (λ (xs : List ℕ). filter (λ g. not (g == c.args.own)) xs) c.as_slice.ensures.value ∙
    receiving_listed s orderly c.args.receivers.now c.args.own c.in_ok-receiving.receiving.items
    c.in_ok-receiving.ensures.rising c.in_ok-receiving.ensures.exact
