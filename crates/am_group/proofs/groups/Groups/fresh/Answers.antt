use Rattle.std.proofs.Common.{◌≡◌, ◌+◌, ◌++◌, [], ◌∷◌, true, ap, sym, subst, ◌∙◌}
use Rattle.am_names.specs.PeerGroups.{PeerGroups}
use Rattle.am_group.specs.{with_group, IsOrderly, IsPeopled, AddsNoReceivers, may_be_master}
use Rattle.am_group.proofs.IndexedLemmas.{with_group_indexed}
use Rattle.am_group.proofs.LiftLemmas.{pushed, same_state}
use Rattle.am_group.proofs.JoinLemmas.{master_there, master_member, with_group_orderly, with_group_peopled, with_group_law}
use Rattle.am_group.proofs.groups.Groups.fresh.Goals as goal

pub invariant_of-self-2 : goal.invariant_of-self-2
invariant_of-self-2 c =
    let s = c.args.self.now in
    let orderly = subst (λ (x : PeerGroups). IsOrderly x) c.self.view_is c.self.invariant.orderly in
    let may : may_be_master s c.args.master ≡ true = cc in
    let last : c.group.inside.0 ≡ s.last_group + 1 = c.group.view_is ∙ ap (λ (x : PeerGroups). x.last_group + 1) c.self.view_is in
    let groups : c.push_reserved.new.self.rows ≡ s.groups ++ (record { group = s.last_group + 1; master = c.args.master }) ∷ [] = pushed _ _ _ _ c.push_reserved.ensures.rows c.reserve.ensures.rows ∙ ap (λ (x : PeerGroups). x.groups ++ (record { group = x.last_group + 1; master = c.args.master }) ∷ []) c.self.view_is in
    let made = same_state (with_group c.args.master s) c.self.inside.members.rows c.push_reserved.new.self.rows c.group.inside.0 (ap (λ (x : PeerGroups). x.members) c.self.view_is) groups last in
    record {
      orderly = subst (λ (x : PeerGroups). IsOrderly x) (sym made) (with_group_orderly s orderly c.args.master (master_there s c.args.master may));
      indexed = with_group_indexed c.self.inside.members.rows c.self.inside.groups.rows c.push_reserved.new.self.rows _
          c.self.inside.indexes c.make_group_room.new.self c.add_group.new.self
          c.make_group_room.ensures.same c.add_group.ensures c.self.invariant.indexed (pushed _ _ _ _ c.push_reserved.ensures.rows c.reserve.ensures.rows);
    }

pub returns-in_err-make_group_room-clause-peopled : goal.returns-in_err-make_group_room-clause-peopled
returns-in_err-make_group_room-clause-peopled c = λ peopled has.
    subst (λ (x : PeerGroups). IsPeopled x) (sym c.self.view_is) peopled

pub returns-clause-law : goal.returns-clause-law
returns-clause-law c =
    let s = c.args.self.now in
    let orderly = subst (λ (x : PeerGroups). IsOrderly x) c.self.view_is c.self.invariant.orderly in
    let may : may_be_master s c.args.master ≡ true = cc in
    let last : c.group.inside.0 ≡ s.last_group + 1 = c.group.view_is ∙ ap (λ (x : PeerGroups). x.last_group + 1) c.self.view_is in
    let groups : c.push_reserved.new.self.rows ≡ s.groups ++ (record { group = s.last_group + 1; master = c.args.master }) ∷ [] = pushed _ _ _ _ c.push_reserved.ensures.rows c.reserve.ensures.rows ∙ ap (λ (x : PeerGroups). x.groups ++ (record { group = x.last_group + 1; master = c.args.master }) ∷ []) c.self.view_is in
    let made = same_state (with_group c.args.master s) c.self.inside.members.rows c.push_reserved.new.self.rows c.group.inside.0 (ap (λ (x : PeerGroups). x.members) c.self.view_is) groups last in
    subst (λ (x : PeerGroups). AddsNoReceivers s x) (sym made) (with_group_law s orderly c.args.master)

pub returns-clause-peopled : goal.returns-clause-peopled
returns-clause-peopled c = λ peopled has.
    let s = c.args.self.now in
    let orderly = subst (λ (x : PeerGroups). IsOrderly x) c.self.view_is c.self.invariant.orderly in
    let may : may_be_master s c.args.master ≡ true = cc in
    let last : c.group.inside.0 ≡ s.last_group + 1 = c.group.view_is ∙ ap (λ (x : PeerGroups). x.last_group + 1) c.self.view_is in
    let groups : c.push_reserved.new.self.rows ≡ s.groups ++ (record { group = s.last_group + 1; master = c.args.master }) ∷ [] = pushed _ _ _ _ c.push_reserved.ensures.rows c.reserve.ensures.rows ∙ ap (λ (x : PeerGroups). x.groups ++ (record { group = x.last_group + 1; master = c.args.master }) ∷ []) c.self.view_is in
    let made = same_state (with_group c.args.master s) c.self.inside.members.rows c.push_reserved.new.self.rows c.group.inside.0 (ap (λ (x : PeerGroups). x.members) c.self.view_is) groups last in
    subst (λ (x : PeerGroups). IsPeopled x) (sym made) (with_group_peopled s orderly c.args.master peopled (master_member s orderly c.args.master has))

pub returns-in_err-reserve-clause-peopled : goal.returns-in_err-reserve-clause-peopled
returns-in_err-reserve-clause-peopled c = λ peopled has.
    let s = c.args.self.now in
    let same = same_state s c.self.inside.members.rows c.reserve.new.self.rows c.self.inside.last_group (ap (λ (x : PeerGroups). x.members) c.self.view_is) (c.reserve.ensures.rows ∙ ap (λ (x : PeerGroups). x.groups) c.self.view_is) (ap (λ (x : PeerGroups). x.last_group) c.self.view_is) in
    subst (λ (x : PeerGroups). IsPeopled x) (sym same) peopled
