use Rattle.std.proofs.Common.{◌≡◌, List, sym, ap, subst, refl, ◌∙◌}
use Rattle.std.specs.Prelude.{map}
use Rattle.am_names.specs.{GroupRow}
use Rattle.am_names.specs.PeerGroups.{PeerGroups}
use Rattle.am_group.specs.{AreIndexed, AreLifts, IsOrderly, is_other_than, lift_group, lift_member, lift_of, lifted_group, lifted_member, settled}
use Rattle.am_group.proofs.LiftLemmas.{same_state}
use Rattle.am_group.proofs.LiftedLemmas.{groups_lifted, lifts_are, members_lifted}
use Rattle.am_group.proofs.SettleLemmas.{settled_orderly}
use Rattle.am_group.specs.View.{view_of}
use Rattle.am_group.proofs.IndexedLemmas.{indexed_same}
use Rattle.am_group.proofs.groups.Groups.lift_lost.Goals as goal

pub lift_followers-requires-clause-lifts : goal.lift_followers-requires-clause-lifts
lift_followers-requires-clause-lifts c =
    let is : c.as_slice.result.now ≡ map (lift_of c.args.lost.now c.args.self.now) c.args.lost.now = c.as_slice.ensures.value ∙ c.in_ok-lifts.ensures in
    subst (λ (ls : List GroupRow). AreLifts ls) (sym is) (lifts_are c.args.lost.now c.args.self.now)

pub invariant_of-self-2 : goal.invariant_of-self-2
invariant_of-self-2 c =
    let s = c.args.self.now in
    let lost = c.args.lost.now in
    let orderly = subst (λ (x : PeerGroups). IsOrderly x) c.self.view_is c.self.invariant.orderly in
    let is : c.as_slice.result.now ≡ map (lift_of lost s) lost = c.as_slice.ensures.value ∙ c.in_ok-lifts.ensures in
    let members : c.lift_followers.new.members.rows ≡ map (lifted_member (is_other_than lost) s) s.members =
    c.in_ok-lift_followers.ensures.members ∙
    ap (λ (x : PeerGroups). map (lift_member c.as_slice.result.now) x.members) c.self.view_is ∙
    ap (λ (ls : List GroupRow). map (lift_member ls) s.members) is ∙ members_lifted lost s s.members in
    let groups : c.lift_followers.new.groups.rows ≡ map (lifted_group (is_other_than lost) s) s.groups =
    c.in_ok-lift_followers.ensures.groups ∙
    ap (λ (x : PeerGroups). map (lift_group c.as_slice.result.now) x.groups) c.self.view_is ∙
    ap (λ (ls : List GroupRow). map (lift_group ls) s.groups) is ∙ groups_lifted lost s s.groups in
    let made = same_state (settled (is_other_than lost) s) c.lift_followers.new.members.rows c.lift_followers.new.groups.rows c.self.inside.last_group
    members groups (ap (λ (x : PeerGroups). x.last_group) c.self.view_is) in
    record {
      orderly = subst (λ (x : PeerGroups). IsOrderly x) (sym made) (settled_orderly (is_other_than lost) s orderly);
      indexed = (c.in_ok-lift_followers.ensures.members_listed, c.in_ok-lift_followers.ensures.groups_listed);
    }

pub returns-clause-ok : goal.returns-clause-ok
returns-clause-ok c =
    let s = c.args.self.now in
    let lost = c.args.lost.now in
    let is : c.as_slice.result.now ≡ map (lift_of lost s) lost = c.as_slice.ensures.value ∙ c.in_ok-lifts.ensures in
    let members : c.lift_followers.new.members.rows ≡ map (lifted_member (is_other_than lost) s) s.members =
    c.in_ok-lift_followers.ensures.members ∙
    ap (λ (x : PeerGroups). map (lift_member c.as_slice.result.now) x.members) c.self.view_is ∙
    ap (λ (ls : List GroupRow). map (lift_member ls) s.members) is ∙ members_lifted lost s s.members in
    let groups : c.lift_followers.new.groups.rows ≡ map (lifted_group (is_other_than lost) s) s.groups =
    c.in_ok-lift_followers.ensures.groups ∙
    ap (λ (x : PeerGroups). map (lift_group c.as_slice.result.now) x.groups) c.self.view_is ∙
    ap (λ (ls : List GroupRow). map (lift_group ls) s.groups) is ∙ groups_lifted lost s s.groups in
    same_state (settled (is_other_than lost) s) c.lift_followers.new.members.rows c.lift_followers.new.groups.rows c.self.inside.last_group
    members groups (ap (λ (x : PeerGroups). x.last_group) c.self.view_is)

pub invariant_of-self : goal.invariant_of-self
invariant_of-self c =
    let old = view_of c.self.inside in
    let made = same_state old c.lift_followers.new.members.rows c.lift_followers.new.groups.rows c.self.inside.last_group
    c.in_err-lift_followers.ensures.members_stay c.in_err-lift_followers.ensures.groups_stay refl in
    record {
      orderly = subst (λ (x : PeerGroups). IsOrderly x) (sym made) c.self.invariant.orderly;
      indexed = subst (λ (x : PeerGroups). AreIndexed x c.lift_followers.new.indexes) (sym made)
          (indexed_same old c.self.inside.indexes c.lift_followers.new.indexes c.in_err-lift_followers.ensures.lists_stay c.self.invariant.indexed);
    }
