use Rattle.std.proofs.Common.{List, refl, ap, sym, subst, rules, ◌∙◌}
use Rattle.std.specs.Prelude.{map}
use Rattle.am_names.specs.{GroupRow, MemberRow}
use Rattle.am_group.specs.{Links, ListMembers, RiseFrom, groups_where, is_below_it, is_in, lift_group, lift_member}
use Rattle.am_group.specs.Invariant.{GroupsRise}
use Rattle.am_group.proofs.IndexedLemmas.{groups_lists_rise, members_lists_rise}
use Rattle.am_group.proofs.LiftingLemmas.{apart, lifted_index, numbered_map, own_list}
use Rattle.am_group.proofs.LookupLemmas.{RiseBy-map, RiseFrom-map}
use Rattle.am_group.proofs.lifting.lift_followers.Goals as goal

pub link_all-requires-clause-rising : goal.link_all-requires-clause-rising
link_all-requires-clause-rising c =
    let up = members_lists_rise c.args.members.now.rows c.requires.rising c.args.indexes.now c.requires.members in
    record {
      members = up.0;
      slaves = up.1;
      below = groups_lists_rise c.args.groups.now.rows c.requires.groups_rising c.args.indexes.now c.requires.groups;
    }

pub link_all-requires-clause-slaves : goal.link_all-requires-clause-slaves
link_all-requires-clause-slaves c =
    apart c.args.lifts.now c.requires.lifts (λ (r : MemberRow). r.mount) (λ (r : MemberRow). r.master)
    c.args.members.now.rows c.requires.rising c.args.indexes.now.slaves c.requires.members.slaves

pub link_all-requires-clause-below : goal.link_all-requires-clause-below
link_all-requires-clause-below c =
    apart c.args.lifts.now c.requires.lifts (λ (r : GroupRow). r.group) (λ (r : GroupRow). r.master)
    c.args.groups.now.rows c.requires.groups_rising c.args.indexes.now.below c.requires.groups

pub lift_members-requires-clause-listed : goal.lift_members-requires-clause-listed
lift_members-requires-clause-listed c = λ g there.
    let up = members_lists_rise c.args.members.now.rows c.requires.rising c.args.indexes.now c.requires.members in
    let links : Links c.args.lifts.now c.args.indexes.now.slaves c.link_all.new.indexes.slaves = search rules in
    own_list c.args.lifts.now c.requires.lifts c.args.indexes.now.slaves c.link_all.new.indexes.slaves up.1 links g there ∙
    c.requires.members.slaves g

pub lift_groups-requires-clause-listed : goal.lift_groups-requires-clause-listed
lift_groups-requires-clause-listed c = λ g there.
    let up = groups_lists_rise c.args.groups.now.rows c.requires.groups_rising c.args.indexes.now c.requires.groups in
    let links : Links c.args.lifts.now c.args.indexes.now.below c.link_all.new.indexes.below = search rules in
    own_list c.args.lifts.now c.requires.lifts c.args.indexes.now.below c.link_all.new.indexes.below up links g there ∙
    c.requires.groups g

pub returns-clause-members_listed : goal.returns-clause-members_listed
returns-clause-members_listed c =
    let old = c.args.members.now.rows in
    let lifts = c.args.lifts.now in
    let t = c.args.indexes.now in
    let links : Links lifts t.slaves c.link_all.new.indexes.slaves = search rules in
    let after : RiseFrom 0 (map (lift_member lifts) old) = RiseFrom-map (lift_member lifts) (λ r. refl) 0 old c.requires.rising in
    let slaves = lifted_index lifts c.requires.lifts (λ (r : MemberRow). r.mount) (λ (r : MemberRow). r.master) (lift_member lifts)
    (λ r. refl) (λ r. refl) old c.requires.rising after t.slaves c.link_all.new.indexes.slaves c.drop_lists.new.index
    c.requires.members.slaves links c.drop_lists.ensures.lists in
    subst (λ (rows : List MemberRow). ListMembers rows (record { members = c.link_all.new.indexes.members; slaves = c.drop_lists.new.index; below = c.drop_lists-2.new.index })) (sym c.lift_members.ensures)
    (record {
      members = λ n.
          c.link_all.ensures.members n ∙ c.requires.members.members n ∙
          sym (numbered_map (λ (r : MemberRow). r.mount) (is_in n) (lift_member lifts) (λ r. refl) (λ r. refl) old);
      slaves = slaves;
    })

pub returns-clause-groups_listed : goal.returns-clause-groups_listed
returns-clause-groups_listed c =
    let old = c.args.groups.now.rows in
    let lifts = c.args.lifts.now in
    let t = c.args.indexes.now in
    let links : Links lifts t.below c.link_all.new.indexes.below = search rules in
    let after : GroupsRise (map (lift_group lifts) old) = RiseBy-map (λ (r : GroupRow). r.group) (lift_group lifts) (λ r. refl) 0 old c.requires.groups_rising in
    let below = lifted_index lifts c.requires.lifts (λ (r : GroupRow). r.group) (λ (r : GroupRow). r.master) (lift_group lifts)
    (λ r. refl) (λ r. refl) old c.requires.groups_rising after t.below c.link_all.new.indexes.below c.drop_lists-2.new.index
    c.requires.groups links c.drop_lists-2.ensures.lists in
    λ n. below n ∙ ap (groups_where (is_below_it n)) (sym c.lift_groups.ensures)
