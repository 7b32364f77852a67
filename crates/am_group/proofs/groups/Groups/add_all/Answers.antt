use Rattle.std.proofs.Common.{rules, ◌≡◌, ℕ, ◌+◌, ◌++◌, List, length, refl, ap, sym, subst, ◌∙◌}
use Rattle.am_names.specs.{MemberRow, GroupRow}
use Rattle.am_names.specs.PeerGroups.{PeerGroups}
use Rattle.am_group.specs.{added, all_added, IsOrderly, IsPeopled, AddsNoReceivers}
use Rattle.am_group.proofs.AddLemmas.{added_law}
use Rattle.am_group.proofs.LiftLemmas.{same_state}
use Rattle.am_group.proofs.groups.Groups.add_all.Goals as goal

pub returns-clause-law : goal.returns-clause-law
returns-clause-law c = λ peopled.
    let s = c.args.self.now in
    let orderly = subst (λ (x : PeerGroups). IsOrderly x) c.self.view_is c.self.invariant.orderly in
    let last = c.self.inside.last_group + c.len-count.result in
    let members : c.append_reserved-2.new.self.rows ≡ s.members ++ c.args.members.items = c.append_reserved-2.ensures.rows ∙ ap (λ (rows : List MemberRow). rows ++ c.args.members.items) (c.reserve.ensures.rows ∙ ap (λ (x : PeerGroups). x.members) c.self.view_is) in
    let groups : c.append_reserved.new.self.rows ≡ s.groups ++ c.args.groups.items = c.append_reserved.ensures.rows ∙ ap (λ (rows : List GroupRow). rows ++ c.args.groups.items) (c.reserve-2.ensures.rows ∙ ap (λ (x : PeerGroups). x.groups) c.self.view_is) in
    let made = same_state (added c.args.members.items c.args.groups.items last s) c.append_reserved-2.new.self.rows c.append_reserved.new.self.rows last members groups refl in
    subst (λ (x : PeerGroups). AddsNoReceivers s x) (sym made) (added_law s c.args.members.items c.args.groups.items last (record { orderly = orderly; peopled = peopled }))

pub returns-in_err-reserve-clause-peopled : goal.returns-in_err-reserve-clause-peopled
returns-in_err-reserve-clause-peopled c = λ peopled.
    let s = c.args.self.now in
    let same = same_state s c.reserve.new.self.rows c.self.inside.groups.rows c.self.inside.last_group (c.reserve.ensures.rows ∙ ap (λ (x : PeerGroups). x.members) c.self.view_is) (ap (λ (x : PeerGroups). x.groups) c.self.view_is) (ap (λ (x : PeerGroups). x.last_group) c.self.view_is) in
    subst (λ (x : PeerGroups). IsPeopled x) (sym same) peopled

pub returns-in_err-reserve-2-clause-peopled : goal.returns-in_err-reserve-2-clause-peopled
returns-in_err-reserve-2-clause-peopled c = λ peopled.
    let s = c.args.self.now in
    let same = same_state s c.reserve.new.self.rows c.reserve-2.new.self.rows c.self.inside.last_group (c.reserve.ensures.rows ∙ ap (λ (x : PeerGroups). x.members) c.self.view_is) (c.reserve-2.ensures.rows ∙ ap (λ (x : PeerGroups). x.groups) c.self.view_is) (ap (λ (x : PeerGroups). x.last_group) c.self.view_is) in
    subst (λ (x : PeerGroups). IsPeopled x) (sym same) peopled

pub returns-in_err-add_all-clause-peopled : goal.returns-in_err-add_all-clause-peopled
returns-in_err-add_all-clause-peopled c = λ peopled.
    let s = c.args.self.now in
    let same = same_state s c.reserve.new.self.rows c.reserve-2.new.self.rows c.self.inside.last_group (c.reserve.ensures.rows ∙ ap (λ (x : PeerGroups). x.members) c.self.view_is) (c.reserve-2.ensures.rows ∙ ap (λ (x : PeerGroups). x.groups) c.self.view_is) (ap (λ (x : PeerGroups). x.last_group) c.self.view_is) in
    subst (λ (x : PeerGroups). IsPeopled x) (sym same) peopled

pub returns-clause-peopled : goal.returns-clause-peopled
returns-clause-peopled c = λ peopled.
    let s = c.args.self.now in
    let last : c.self.inside.last_group + c.len-count.result ≡ s.last_group + length c.args.groups.items = ap (λ (n : ℕ). c.self.inside.last_group + n) (c.len-count.ensures ∙ search rules) ∙ ap (λ (x : PeerGroups). x.last_group + length c.args.groups.items) c.self.view_is in
    let members : c.append_reserved-2.new.self.rows ≡ s.members ++ c.args.members.items = c.append_reserved-2.ensures.rows ∙ ap (λ (rows : List MemberRow). rows ++ c.args.members.items) (c.reserve.ensures.rows ∙ ap (λ (x : PeerGroups). x.members) c.self.view_is) in
    let groups : c.append_reserved.new.self.rows ≡ s.groups ++ c.args.groups.items = c.append_reserved.ensures.rows ∙ ap (λ (rows : List GroupRow). rows ++ c.args.groups.items) (c.reserve-2.ensures.rows ∙ ap (λ (x : PeerGroups). x.groups) c.self.view_is) in
    let made = same_state (all_added c.args.members.items c.args.groups.items s) c.append_reserved-2.new.self.rows c.append_reserved.new.self.rows (c.self.inside.last_group + c.len-count.result) members groups last in
    subst (λ (x : PeerGroups). IsPeopled x) (sym made) c.requires.sound.peopled
