use Rattle.std.proofs.Common.{◌≡◌, ◌+◌, ◌<◌, ℕ, List, Option, Some, ap, sym, subst, ◌∙◌}
use Rattle.std.specs.List.Sorted.{IsStrictlyIncreasing}
use Rattle.am_group.specs.{group_of, receiving_groups}
use Rattle.am_group.proofs.UnderLemmas.{receiving_rise}
use Rattle.am_propagate.specs.MountTable.{MountTable}
use Rattle.am_propagate.specs.{IsWhole, new_group, last_fresh, groups_made, others_of, AreNew}
use Rattle.am_propagate.proofs.NumberLemmas.{members_are, rows_are}
use Rattle.am_propagate.proofs.subtree.Subtree.joining.Goals as goal

pub new_members-requires-clause-rising : goal.new_members-requires-clause-rising
new_members-requires-clause-rising c =
    let s = c.args.self.now.groups in
    let whole : IsWhole c.args.self.now = subst (λ (x : MountTable). IsWhole x) c.self.view_is c.self.invariant in
    let here : group_of s c.args.at ≡ Some c.in-Some.own = ap (λ (x : MountTable). group_of x.groups c.args.at) (sym c.self.view_is) ∙ sym c.in-Some.ensures in
    let groups_are : c.of-stands.result.groups.items ≡ receiving_groups s c.args.receivers.now c.in-Some.own = c.of-stands.ensures.groups ∙ c.requires.others ∙ ap (others_of s c.args.receivers.now) here in
    subst (λ (xs : List ℕ). IsStrictlyIncreasing xs) (sym groups_are) (receiving_rise s whole.sound.orderly c.args.receivers.now c.in-Some.own)

pub new_groups-requires : goal.new_groups-requires
new_groups-requires c =
    let s = c.args.self.now.groups in
    let whole : IsWhole c.args.self.now = subst (λ (x : MountTable). IsWhole x) c.self.view_is c.self.invariant in
    let here : group_of s c.args.at ≡ Some c.in-Some.own = ap (λ (x : MountTable). group_of x.groups c.args.at) (sym c.self.view_is) ∙ sym c.in-Some.ensures in
    let groups_are : c.of-stands.result.groups.items ≡ receiving_groups s c.args.receivers.now c.in-Some.own = c.of-stands.ensures.groups ∙ c.requires.others ∙ ap (others_of s c.args.receivers.now) here in
    subst (λ (xs : List ℕ). IsStrictlyIncreasing xs) (sym groups_are) (receiving_rise s whole.sound.orderly c.args.receivers.now c.in-Some.own)

pub returns : goal.returns
returns c =
    let t = c.args.self.now in
    let s = c.args.self.now.groups in
    let whole : IsWhole t = subst (λ (x : MountTable). IsWhole x) c.self.view_is c.self.invariant in
    let own = c.in-Some.own in
    let rs = c.args.receivers.now in
    let k = c.args.membership in
    let here : group_of s c.args.at ≡ Some own = ap (λ (x : MountTable). group_of x.groups c.args.at) (sym c.self.view_is) ∙ sym c.in-Some.ensures in
    let fits : s.last_group + groups_made k (Some own) rs s < 18446744073709551616 = subst (λ (o : Option ℕ). s.last_group + groups_made k o rs s < 18446744073709551616) here c.requires.groups in
    let last : c.of.inside.0 ≡ s.last_group = c.of.view_is ∙ c.last_group.ensures ∙ ap (λ (x : MountTable). x.groups.last_group) c.self.view_is in
    let new_is : c.of-stands.result.new ≡ new_group k s.last_group = c.of-stands.ensures.new ∙ ap (new_group k) last in
    let last_is : c.of-stands.result.last ≡ last_fresh k s.last_group = c.of-stands.ensures.last ∙ ap (last_fresh k) last in
    let groups_are : c.of-stands.result.groups.items ≡ receiving_groups s rs own = c.of-stands.ensures.groups ∙ c.requires.others ∙ ap (others_of s rs) here in
    subst (λ (o : Option ℕ). AreNew k o rs c.args.mount s (record { members = c.in_ok-members.members; groups = c.in_ok-groups.groups })) (sym here) (record {
      members_are = members_are t whole c.args.at own here k rs c.requires.receivers fits c.of-stands.result c.of-stands.ensures.own new_is last_is groups_are c.args.mount c.in_ok-members.members.items c.in_ok-members.ensures;
      groups_are = rows_are t whole c.args.at own here k rs c.requires.receivers fits c.of-stands.result c.of-stands.ensures.own new_is last_is groups_are _ c.in_ok-groups.groups.items c.fresh_group-fresh.ensures c.in_ok-groups.ensures;
    })
