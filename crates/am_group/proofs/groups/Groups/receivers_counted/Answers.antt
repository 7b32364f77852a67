use Rattle.std.proofs.Common.{◌≡◌, ◌↔◌, ℕ, List, Option, Some, None, sym, ap, subst, ◌∙◌, rules}
use Rattle.std.specs.List.{Contains}
use Rattle.std.specs.List.Sorted.{IsStrictlyIncreasing}
use Rattle.am_names.specs.PeerGroups.{PeerGroups}
use Rattle.am_group.specs.{group_of, Receives, IsOrderly, under_these, receivers_of, turns_where}
use Rattle.am_group.proofs.ClearLemmas.{test_from_member}
use Rattle.am_group.proofs.EarlyLemmas.{none_exact, none_listed}
use Rattle.am_group.proofs.HomeLemmas.{under_rises}
use Rattle.am_group.proofs.TurnLemmas.{turns_met}
use Rattle.am_group.proofs.UnderLemmas.{homed_listed, receivers_exact, receivers_rise}
use Rattle.am_group.proofs.groups.Groups.receivers_counted.Goals as goal

pub returns-in_default-clause-exact : goal.returns-in_default-clause-exact
returns-in_default-clause-exact c =
    let s = c.args.self.now in
    let none : group_of s c.args.mount ≡ None = sym c.group_of.ensures ∙ c.in_default.is in
    λ other. subst (λ (xs : List ℕ). Contains xs other ↔ Receives s c.args.mount other)
    (sym c.new.ensures.items) (none_exact s c.args.mount none other)

pub returns-in_default-clause-listed : goal.returns-in_default-clause-listed
returns-in_default-clause-listed c =
    let s = c.args.self.now in
    let none : group_of s c.args.mount ≡ None = sym c.group_of.ensures ∙ c.in_default.is in
    c.new.ensures.items ∙ none_listed s c.args.mount none

pub groups_under-requires : goal.groups_under-requires
groups_under-requires c =
    let s = c.args.self.now in
    test_from_member s.members c.args.mount c.in-Some.own (sym c.group_of.ensures ∙ c.in-Some.is)

pub homed-requires : goal.homed-requires
homed-requires c =
    let s = c.args.self.now in
    let orderly : IsOrderly s = subst (λ (v : PeerGroups). IsOrderly v) c.self.view_is c.self.invariant.orderly in
    subst (λ (xs : List ℕ). IsStrictlyIncreasing xs) (sym (c.as_slice.ensures.value ∙ c.in_ok-under.ensures))
    (under_rises s orderly c.in-Some.own)

pub returns-clause-exact : goal.returns-clause-exact
returns-clause-exact c =
    let s = c.args.self.now in
    let mount = c.args.mount in
    let own = c.in-Some.own in
    let orderly : IsOrderly s = subst (λ (v : PeerGroups). IsOrderly v) c.self.view_is c.self.invariant.orderly in
    let in_own : group_of s mount ≡ Some own = sym c.group_of.ensures ∙ c.in-Some.is in
    let listed : c.in_ok-homed.homed.items ≡ receivers_of s mount =
    c.in_ok-homed.ensures ∙
    ap (λ (xs : List ℕ). under_these xs mount s.members) (c.as_slice.ensures.value ∙ c.in_ok-under.ensures) ∙
    homed_listed s orderly mount own in_own in
    λ other. subst (λ (xs : List ℕ). Contains xs other ↔ Receives s mount other) (sym listed)
    (receivers_exact s orderly mount other)

pub returns-clause-rising : goal.returns-clause-rising
returns-clause-rising c =
    let s = c.args.self.now in
    let mount = c.args.mount in
    let own = c.in-Some.own in
    let orderly : IsOrderly s = subst (λ (v : PeerGroups). IsOrderly v) c.self.view_is c.self.invariant.orderly in
    let in_own : group_of s mount ≡ Some own = sym c.group_of.ensures ∙ c.in-Some.is in
    let listed : c.in_ok-homed.homed.items ≡ receivers_of s mount =
    c.in_ok-homed.ensures ∙
    ap (λ (xs : List ℕ). under_these xs mount s.members) (c.as_slice.ensures.value ∙ c.in_ok-under.ensures) ∙
    homed_listed s orderly mount own in_own in
    subst (λ (xs : List ℕ). IsStrictlyIncreasing xs) (sym listed) (receivers_rise s orderly mount)

pub returns-clause-listed : goal.returns-clause-listed
returns-clause-listed c =
    let s = c.args.self.now in
    let mount = c.args.mount in
    let own = c.in-Some.own in
    let orderly : IsOrderly s = subst (λ (v : PeerGroups). IsOrderly v) c.self.view_is c.self.invariant.orderly in
    let in_own : group_of s mount ≡ Some own = sym c.group_of.ensures ∙ c.in-Some.is in
    c.in_ok-homed.ensures ∙
    ap (λ (xs : List ℕ). under_these xs mount s.members) (c.as_slice.ensures.value ∙ c.in_ok-under.ensures) ∙
    homed_listed s orderly mount own in_own

pub returns-in_default-clause-turns : goal.returns-in_default-clause-turns
returns-in_default-clause-turns c =
    let s = c.args.self.now in
    let none : group_of s c.args.mount ≡ None = sym c.group_of.ensures ∙ c.in_default.is in
    sym (ap (λ (o : Option ℕ). turns_where o s c.args.mount) none)

pub returns-clause-turns : goal.returns-clause-turns
returns-clause-turns c =
    let s = c.args.self.now in
    let mount = c.args.mount in
    let own = c.in-Some.own in
    let orderly : IsOrderly s = subst (λ (v : PeerGroups). IsOrderly v) c.self.view_is c.self.invariant.orderly in
    let in_own : group_of s mount ≡ Some own = sym c.group_of.ensures ∙ c.in-Some.is in
    c.len.ensures ∙ search rules ∙ turns_met s orderly mount own in_own
