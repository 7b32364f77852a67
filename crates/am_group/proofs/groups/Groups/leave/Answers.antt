use Rattle.std.proofs.Common.{◌≡◌, List, ℕ, true, not, sym, ap, subst, rules, ◌∙◌}
use Rattle.std.specs.Prelude.{filter}
use Rattle.am_names.specs.{is_among}
use Rattle.am_names.specs.PeerGroups.{PeerGroups}
use Rattle.am_group.specs.{with_only, without, IsOrderly, AreLost, IsPeopled, AddsNoReceivers, is_free_of, without_groups}
use Rattle.am_group.proofs.ChangeLemmas.{without_orderly, without_keeps}
use Rattle.am_group.proofs.LiftedLemmas.{lifted_left}
use Rattle.am_group.proofs.LostLemmas.{left_where}
use Rattle.am_group.proofs.groups.Groups.leave.Goals as goal

pub take_out-requires-clause-orderly : goal.take_out-requires-clause-orderly
take_out-requires-clause-orderly c =
    let s = c.args.self.now in
    let gone = c.args.gone.now in
    let lost = c.as_slice-lost.result.now in
    let orderly = subst (λ (x : PeerGroups). IsOrderly x) c.self.view_is c.self.invariant.orderly in
    let exact : AreLost s.members (filter (λ row. not (is_among gone row.mount)) s.members) lost =
    subst (λ (xs : List ℕ). AreLost s.members (filter (λ row. not (is_among gone row.mount)) s.members) xs) (sym c.as_slice-lost.ensures.value) c.in_ok-lost.ensures.exact in
    let free : is_free_of lost (with_only (λ m. not (is_among gone m)) s) ≡ true = search rules in
    let made : without_groups lost (with_only (λ m. not (is_among gone m)) s) ≡ without (is_among gone) s =
    left_where (is_among gone) s lost exact free in
    subst (λ (x : PeerGroups). IsOrderly x) (sym made) (without_orderly (is_among gone) s orderly)

pub returns-then-is_free_of-clause-ok : goal.returns-then-is_free_of-clause-ok
returns-then-is_free_of-clause-ok c =
    let s = c.args.self.now in
    let gone = c.args.gone.now in
    let lost = c.as_slice-lost.result.now in
    let orderly = subst (λ (x : PeerGroups). IsOrderly x) c.self.view_is c.self.invariant.orderly in
    let exact : AreLost s.members (filter (λ row. not (is_among gone row.mount)) s.members) lost =
    subst (λ (xs : List ℕ). AreLost s.members (filter (λ row. not (is_among gone row.mount)) s.members) xs) (sym c.as_slice-lost.ensures.value) c.in_ok-lost.ensures.exact in
    let free : is_free_of lost (with_only (λ m. not (is_among gone m)) s) ≡ true = search rules in
    let made : without_groups lost (with_only (λ m. not (is_among gone m)) s) ≡ without (is_among gone) s =
    left_where (is_among gone) s lost exact free in
    c.take_out.ensures ∙ made

pub returns-then-is_free_of-clause-law : goal.returns-then-is_free_of-clause-law
returns-then-is_free_of-clause-law c = λ peopled.
    let s = c.args.self.now in
    let gone = c.args.gone.now in
    let lost = c.as_slice-lost.result.now in
    let orderly = subst (λ (x : PeerGroups). IsOrderly x) c.self.view_is c.self.invariant.orderly in
    let exact : AreLost s.members (filter (λ row. not (is_among gone row.mount)) s.members) lost =
    subst (λ (xs : List ℕ). AreLost s.members (filter (λ row. not (is_among gone row.mount)) s.members) xs) (sym c.as_slice-lost.ensures.value) c.in_ok-lost.ensures.exact in
    let free : is_free_of lost (with_only (λ m. not (is_among gone m)) s) ≡ true = search rules in
    let made : without_groups lost (with_only (λ m. not (is_among gone m)) s) ≡ without (is_among gone) s =
    left_where (is_among gone) s lost exact free in
    subst (λ (x : PeerGroups). AddsNoReceivers s x) (sym (c.take_out.ensures ∙ made)) (without_keeps (is_among gone) s (record { orderly = orderly; peopled = peopled })).law

pub returns-then-is_free_of-clause-peopled : goal.returns-then-is_free_of-clause-peopled
returns-then-is_free_of-clause-peopled c = λ peopled.
    let s = c.args.self.now in
    let gone = c.args.gone.now in
    let lost = c.as_slice-lost.result.now in
    let orderly = subst (λ (x : PeerGroups). IsOrderly x) c.self.view_is c.self.invariant.orderly in
    let exact : AreLost s.members (filter (λ row. not (is_among gone row.mount)) s.members) lost =
    subst (λ (xs : List ℕ). AreLost s.members (filter (λ row. not (is_among gone row.mount)) s.members) xs) (sym c.as_slice-lost.ensures.value) c.in_ok-lost.ensures.exact in
    let free : is_free_of lost (with_only (λ m. not (is_among gone m)) s) ≡ true = search rules in
    let made : without_groups lost (with_only (λ m. not (is_among gone m)) s) ≡ without (is_among gone) s =
    left_where (is_among gone) s lost exact free in
    subst (λ (x : PeerGroups). IsPeopled x) (sym (c.take_out.ensures ∙ made)) (without_keeps (is_among gone) s (record { orderly = orderly; peopled = peopled })).sound.peopled

pub take_out-requires-2-clause-orderly : goal.take_out-requires-2-clause-orderly
take_out-requires-2-clause-orderly c =
    let s = c.args.self.now in
    let gone = c.args.gone.now in
    let lost = c.as_slice-lost.result.now in
    let orderly = subst (λ (x : PeerGroups). IsOrderly x) c.self.view_is c.self.invariant.orderly in
    let exact : AreLost s.members (filter (λ row. not (is_among gone row.mount)) s.members) lost =
    subst (λ (xs : List ℕ). AreLost s.members (filter (λ row. not (is_among gone row.mount)) s.members) xs) (sym c.as_slice-lost.ensures.value) c.in_ok-lost.ensures.exact in
    let made : without_groups lost (with_only (λ m. not (is_among gone m)) c.lift_lost.new.self) ≡ without (is_among gone) s =
    ap (λ (x : PeerGroups). without_groups lost (with_only (λ m. not (is_among gone m)) x)) c.in_ok-lift_lost.ensures.ok ∙
    lifted_left (is_among gone) s lost exact in
    subst (λ (x : PeerGroups). IsOrderly x) (sym made) (without_orderly (is_among gone) s orderly)

pub returns-clause-ok : goal.returns-clause-ok
returns-clause-ok c =
    let s = c.args.self.now in
    let gone = c.args.gone.now in
    let lost = c.as_slice-lost.result.now in
    let orderly = subst (λ (x : PeerGroups). IsOrderly x) c.self.view_is c.self.invariant.orderly in
    let exact : AreLost s.members (filter (λ row. not (is_among gone row.mount)) s.members) lost =
    subst (λ (xs : List ℕ). AreLost s.members (filter (λ row. not (is_among gone row.mount)) s.members) xs) (sym c.as_slice-lost.ensures.value) c.in_ok-lost.ensures.exact in
    let made : without_groups lost (with_only (λ m. not (is_among gone m)) c.lift_lost.new.self) ≡ without (is_among gone) s =
    ap (λ (x : PeerGroups). without_groups lost (with_only (λ m. not (is_among gone m)) x)) c.in_ok-lift_lost.ensures.ok ∙
    lifted_left (is_among gone) s lost exact in
    c.take_out-2.ensures ∙ made

pub returns-clause-law : goal.returns-clause-law
returns-clause-law c = λ peopled.
    let s = c.args.self.now in
    let gone = c.args.gone.now in
    let lost = c.as_slice-lost.result.now in
    let orderly = subst (λ (x : PeerGroups). IsOrderly x) c.self.view_is c.self.invariant.orderly in
    let exact : AreLost s.members (filter (λ row. not (is_among gone row.mount)) s.members) lost =
    subst (λ (xs : List ℕ). AreLost s.members (filter (λ row. not (is_among gone row.mount)) s.members) xs) (sym c.as_slice-lost.ensures.value) c.in_ok-lost.ensures.exact in
    let made : without_groups lost (with_only (λ m. not (is_among gone m)) c.lift_lost.new.self) ≡ without (is_among gone) s =
    ap (λ (x : PeerGroups). without_groups lost (with_only (λ m. not (is_among gone m)) x)) c.in_ok-lift_lost.ensures.ok ∙
    lifted_left (is_among gone) s lost exact in
    subst (λ (x : PeerGroups). AddsNoReceivers s x) (sym (c.take_out-2.ensures ∙ made)) (without_keeps (is_among gone) s (record { orderly = orderly; peopled = peopled })).law

pub returns-clause-peopled : goal.returns-clause-peopled
returns-clause-peopled c = λ peopled.
    let s = c.args.self.now in
    let gone = c.args.gone.now in
    let lost = c.as_slice-lost.result.now in
    let orderly = subst (λ (x : PeerGroups). IsOrderly x) c.self.view_is c.self.invariant.orderly in
    let exact : AreLost s.members (filter (λ row. not (is_among gone row.mount)) s.members) lost =
    subst (λ (xs : List ℕ). AreLost s.members (filter (λ row. not (is_among gone row.mount)) s.members) xs) (sym c.as_slice-lost.ensures.value) c.in_ok-lost.ensures.exact in
    let made : without_groups lost (with_only (λ m. not (is_among gone m)) c.lift_lost.new.self) ≡ without (is_among gone) s =
    ap (λ (x : PeerGroups). without_groups lost (with_only (λ m. not (is_among gone m)) x)) c.in_ok-lift_lost.ensures.ok ∙
    lifted_left (is_among gone) s lost exact in
    subst (λ (x : PeerGroups). IsPeopled x) (sym (c.take_out-2.ensures ∙ made)) (without_keeps (is_among gone) s (record { orderly = orderly; peopled = peopled })).sound.peopled

pub returns-in_err-lift_lost-clause-peopled : goal.returns-in_err-lift_lost-clause-peopled
returns-in_err-lift_lost-clause-peopled c = λ peopled.
    subst (λ (x : PeerGroups). IsPeopled x) (sym c.in_err-lift_lost.ensures.err) peopled
