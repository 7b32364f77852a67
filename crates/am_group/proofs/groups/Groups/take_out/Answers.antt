use Rattle.std.proofs.Common.{◌≡◌, List, not, sym, ap, subst, ◌∙◌}
use Rattle.std.specs.Prelude.{filter}
use Rattle.am_names.specs.{MemberRow, GroupRow, is_among}
use Rattle.am_names.specs.PeerGroups.{PeerGroups}
use Rattle.am_group.specs.{with_only, IsOrderly, without_groups, ListMembers, ListGroups}
use Rattle.am_group.proofs.IndexedLemmas.{left_indexed}
use Rattle.am_group.proofs.LiftLemmas.{same_state}
use Rattle.am_group.proofs.groups.Groups.take_out.Goals as goal

pub invariant_of-self : goal.invariant_of-self
invariant_of-self c =
    let s = c.args.self.now in
    let gone = c.args.gone.now in
    let lost = c.args.lost.now in
    let members : c.leave_out.new.members.rows ≡ (with_only (λ m. not (is_among gone m)) s).members =
    c.leave_out.ensures ∙ ap (λ (x : PeerGroups). (with_only (λ m. not (is_among gone m)) x).members) c.self.view_is in
    let groups : c.drop_groups.new.groups.rows ≡ filter (λ row. not (is_among lost row.group)) s.groups =
    c.drop_groups.ensures ∙
    ap (λ (x : PeerGroups). filter (λ (row : GroupRow). not (is_among lost row.group)) x.groups) c.self.view_is in
    let made =
    same_state (without_groups lost (with_only (λ m. not (is_among gone m)) s)) c.leave_out.new.members.rows c.drop_groups.new.groups.rows c.self.inside.last_group
    members groups (ap (λ (x : PeerGroups). x.last_group) c.self.view_is) in
    let rows : ListMembers c.leave_out.new.members.rows c.unlist.new.indexes =
    subst (λ (rows : List MemberRow). ListMembers rows c.unlist.new.indexes)
    (ap (λ (rows : List MemberRow). filter (λ (row : MemberRow). not (is_among gone row.mount)) rows) c.as_slice.ensures.value ∙ sym c.leave_out.ensures)
    c.unlist.ensures.members in
    let others : ListGroups c.drop_groups.new.groups.rows c.unlist_groups.new.indexes =
    subst (λ (rows : List GroupRow). ListGroups rows c.unlist_groups.new.indexes)
    (ap (λ (rows : List GroupRow). filter (λ (row : GroupRow). not (is_among lost row.group)) rows) c.as_slice-2.ensures.value ∙ sym c.drop_groups.ensures)
    c.unlist_groups.ensures.below in
    record {
      orderly = subst (λ (x : PeerGroups). IsOrderly x) (sym made) c.requires.orderly;
      indexed = left_indexed c.leave_out.new.members.rows c.drop_groups.new.groups.rows c.unlist.new.indexes c.unlist_groups.new.indexes
          rows c.unlist_groups.ensures.members c.unlist_groups.ensures.slaves others;
    }

pub returns : goal.returns
returns c =
    let s = c.args.self.now in
    let gone = c.args.gone.now in
    let lost = c.args.lost.now in
    let members : c.leave_out.new.members.rows ≡ (with_only (λ m. not (is_among gone m)) s).members =
    c.leave_out.ensures ∙ ap (λ (x : PeerGroups). (with_only (λ m. not (is_among gone m)) x).members) c.self.view_is in
    let groups : c.drop_groups.new.groups.rows ≡ filter (λ row. not (is_among lost row.group)) s.groups =
    c.drop_groups.ensures ∙
    ap (λ (x : PeerGroups). filter (λ (row : GroupRow). not (is_among lost row.group)) x.groups) c.self.view_is in
    same_state (without_groups lost (with_only (λ m. not (is_among gone m)) s)) c.leave_out.new.members.rows c.drop_groups.new.groups.rows c.self.inside.last_group
    members groups (ap (λ (x : PeerGroups). x.last_group) c.self.view_is)
