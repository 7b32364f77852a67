use Rattle.std.proofs.Common.{◌≡◌, ◌∷◌, [], ℕ, List, Option, Some, refl, sym, ap, subst, ◌∙◌}
use Rattle.std.specs.Prelude.{map, filter, not, option_map}
use Rattle.am_names.specs.{MemberRow, GroupRow, is_among}
use Rattle.am_names.specs.PeerGroups.{PeerGroups}
use Rattle.am_group.specs.{AreLifts, IsOrderly, ListMembers, RiseFrom, at_row, is_one_of, lift_group, lift_member, member_row, past, past_group, past_member, row_of, with_row}
use Rattle.am_group.specs.Invariant.{GroupsRise}
use Rattle.am_group.proofs.ChangeLemmas.{left_orderly}
use Rattle.am_group.proofs.IndexedLemmas.{changed_indexed, left_indexed, members_lists_rise, turned_number}
use Rattle.am_group.proofs.KindLemmas.{change_orderly}
use Rattle.am_group.proofs.LoneLemmas.{followed_left, lone_lift, out_of_group, past_other}
use Rattle.am_group.proofs.LookupLemmas.{RiseBy-map, RiseFrom-map, find_map_same}
use Rattle.am_group.proofs.SpareLemmas.{found_number}
use Rattle.am_group.proofs.groups.Groups.give_up_last.Goals as goal

pub lift_followers-requires-clause-lifts : goal.lift_followers-requires-clause-lifts
lift_followers-requires-clause-lifts c =
    let s = c.args.self.now in
    let g = c.args.group in
    let orderly = subst (λ (x : PeerGroups). IsOrderly x) c.self.view_is c.self.invariant.orderly in
    subst (λ (o : Option ℕ). AreLifts ((record { group = g; master = o }) ∷ [])) (sym c.master_of_group.ensures.master) (lone_lift s orderly g)

pub lift_followers-requires-clause-other : goal.lift_followers-requires-clause-other
lift_followers-requires-clause-other c =
    let s = c.args.self.now in
    let g = c.args.group in
    let orderly = subst (λ (x : PeerGroups). IsOrderly x) c.self.view_is c.self.invariant.orderly in
    ap (λ (o : Option ℕ). is_one_of (g ∷ []) o) c.master.ensures ∙
    ap (λ (r : MemberRow). is_one_of (g ∷ []) r.master) c.past_row-after.ensures ∙ past_other s orderly g c.changed_row-changed.result.master

pub replace-requires-clause-members : goal.replace-requires-clause-members
replace-requires-clause-members c =
    let s = c.args.self.now in
    let g = c.args.group in
    let orderly = subst (λ (x : PeerGroups). IsOrderly x) c.self.view_is c.self.invariant.orderly in
    let members : c.lift_followers.new.members.rows ≡ map (past_member s g) s.members =
    c.in_ok-lift_followers.ensures.members ∙
    ap (λ (x : PeerGroups). map (lift_member ((record { group = g; master = c.master_of_group.result }) ∷ [])) x.members) c.self.view_is ∙
    ap (λ (o : Option ℕ). map (lift_member ((record { group = g; master = o }) ∷ [])) s.members) c.master_of_group.ensures.master in
    let rises : RiseFrom 0 c.lift_followers.new.members.rows =
    subst (λ (xs : List MemberRow). RiseFrom 0 xs) (sym members) (RiseFrom-map (past_member s g) (λ r. refl) 0 s.members orderly.rising) in
    (members_lists_rise c.lift_followers.new.members.rows rises c.lift_followers.new.indexes c.in_ok-lift_followers.ensures.members_listed).0

pub replace-requires-clause-slaves : goal.replace-requires-clause-slaves
replace-requires-clause-slaves c =
    let s = c.args.self.now in
    let g = c.args.group in
    let orderly = subst (λ (x : PeerGroups). IsOrderly x) c.self.view_is c.self.invariant.orderly in
    let members : c.lift_followers.new.members.rows ≡ map (past_member s g) s.members =
    c.in_ok-lift_followers.ensures.members ∙
    ap (λ (x : PeerGroups). map (lift_member ((record { group = g; master = c.master_of_group.result }) ∷ [])) x.members) c.self.view_is ∙
    ap (λ (o : Option ℕ). map (lift_member ((record { group = g; master = o }) ∷ [])) s.members) c.master_of_group.ensures.master in
    let rises : RiseFrom 0 c.lift_followers.new.members.rows =
    subst (λ (xs : List MemberRow). RiseFrom 0 xs) (sym members) (RiseFrom-map (past_member s g) (λ r. refl) 0 s.members orderly.rising) in
    (members_lists_rise c.lift_followers.new.members.rows rises c.lift_followers.new.indexes c.in_ok-lift_followers.ensures.members_listed).1

pub drop_group-requires-clause-rising : goal.drop_group-requires-clause-rising
drop_group-requires-clause-rising c =
    let s = c.args.self.now in
    let g = c.args.group in
    let orderly = subst (λ (x : PeerGroups). IsOrderly x) c.self.view_is c.self.invariant.orderly in
    let groups : c.lift_followers.new.groups.rows ≡ map (past_group s g) s.groups =
    c.in_ok-lift_followers.ensures.groups ∙
    ap (λ (x : PeerGroups). map (lift_group ((record { group = g; master = c.master_of_group.result }) ∷ [])) x.groups) c.self.view_is ∙
    ap (λ (o : Option ℕ). map (lift_group ((record { group = g; master = o }) ∷ [])) s.groups) c.master_of_group.ensures.master in
    subst (λ (xs : List GroupRow). GroupsRise xs) (sym groups)
    (RiseBy-map (λ (r : GroupRow). r.group) (past_group s g) (λ r. refl) 0 s.groups orderly.groups_rising)

pub write_row-requires : goal.write_row-requires
write_row-requires c =
    let s = c.args.self.now in
    let g = c.args.group in
    let orderly = subst (λ (x : PeerGroups). IsOrderly x) c.self.view_is c.self.invariant.orderly in
    let members : c.lift_followers.new.members.rows ≡ map (past_member s g) s.members =
    c.in_ok-lift_followers.ensures.members ∙
    ap (λ (x : PeerGroups). map (lift_member ((record { group = g; master = c.master_of_group.result }) ∷ [])) x.members) c.self.view_is ∙
    ap (λ (o : Option ℕ). map (lift_member ((record { group = g; master = o }) ∷ [])) s.members) c.master_of_group.ensures.master in
    let rises : RiseFrom 0 c.lift_followers.new.members.rows =
    subst (λ (xs : List MemberRow). RiseFrom 0 xs) (sym members) (RiseFrom-map (past_member s g) (λ r. refl) 0 s.members orderly.rising) in
    rises

pub invariant_of-self-2 : goal.invariant_of-self-2
invariant_of-self-2 c =
    let s = c.args.self.now in
    let g = c.args.group in
    let orderly = subst (λ (x : PeerGroups). IsOrderly x) c.self.view_is c.self.invariant.orderly in
    let members : c.lift_followers.new.members.rows ≡ map (past_member s g) s.members =
    c.in_ok-lift_followers.ensures.members ∙
    ap (λ (x : PeerGroups). map (lift_member ((record { group = g; master = c.master_of_group.result }) ∷ [])) x.members) c.self.view_is ∙
    ap (λ (o : Option ℕ). map (lift_member ((record { group = g; master = o }) ∷ [])) s.members) c.master_of_group.ensures.master in
    let rises : RiseFrom 0 c.lift_followers.new.members.rows =
    subst (λ (xs : List MemberRow). RiseFrom 0 xs) (sym members) (RiseFrom-map (past_member s g) (λ r. refl) 0 s.members orderly.rising) in
    let groups : c.lift_followers.new.groups.rows ≡ map (past_group s g) s.groups =
    c.in_ok-lift_followers.ensures.groups ∙
    ap (λ (x : PeerGroups). map (lift_group ((record { group = g; master = c.master_of_group.result }) ∷ [])) x.groups) c.self.view_is ∙
    ap (λ (o : Option ℕ). map (lift_group ((record { group = g; master = o }) ∷ [])) s.groups) c.master_of_group.ensures.master in
    let row = c.args.row in
    let mount = c.args.mount in
    let change = row_of c.args.change 0 in
    let after : MemberRow = c.past_row-after.result in
    let raw_orderly = change_orderly c.args.change 0 c.requires.gives_up mount s orderly in
    let is_after : after ≡ (record (change row) { master = past s g (change row).master }) =
    c.past_row-after.ensures ∙ ap (past_member s g) c.changed_row-changed.ensures in
    let rows : c.write_row.new.members.rows ≡ map (at_row (λ r. after) mount) (map (past_member s g) s.members) =
    c.write_row.ensures ∙ ap (map (at_row (λ r. after) mount)) members in
    let stay : c.drop_group.new.groups.rows ≡ filter (λ r. not (is_among (g ∷ []) r.group)) (map (past_group s g) s.groups) =
    c.drop_group.ensures.rows ∙ ap (λ (xs : List GroupRow). filter (λ (r : GroupRow). not (is_among (g ∷ []) r.group)) xs) groups in
    let made = followed_left s orderly mount row c.requires.found g c.requires.own c.requires.alone change
    (out_of_group c.args.change c.requires.gives_up row g c.requires.own) raw_orderly after is_after
    c.write_row.new.members.rows rows c.drop_group.new.groups.rows stay c.self.inside.last_group
    (ap (λ (x : PeerGroups). x.last_group) c.self.view_is) in
    let before : MemberRow = c.past_row-before.result in
    let found : member_row c.lift_followers.new.members.rows mount ≡ Some before =
    ap (λ (xs : List MemberRow). member_row xs mount) members ∙
    find_map_same (λ (r : MemberRow). r.mount) mount (past_member s g) (λ r. refl) s.members ∙
    ap (option_map (past_member s g)) c.requires.found ∙ ap Some (sym c.past_row-before.ensures) in
    let turned : ListMembers (map (at_row (λ r. after) mount) c.lift_followers.new.members.rows) c.replace.new.self =
    changed_indexed c.lift_followers.new.members.rows rises mount before after found
    (ap (λ (r : MemberRow). r.mount) is_after ∙ turned_number c.args.change 0 row ∙ found_number s.members mount row c.requires.found)
    c.lift_followers.new.indexes c.replace.new.self c.replace.ensures c.in_ok-lift_followers.ensures.members_listed in
    record {
      orderly = subst (λ (x : PeerGroups). IsOrderly x) (sym made) (left_orderly s (with_row change mount s) raw_orderly);
      indexed = left_indexed c.write_row.new.members.rows c.drop_group.new.groups.rows c.replace.new.self c.drop_group.new.indexes
          (subst (λ (xs : List MemberRow). ListMembers xs c.replace.new.self) (sym c.write_row.ensures) turned)
          c.drop_group.ensures.members c.drop_group.ensures.slaves c.drop_group.ensures.below;
    }

pub returns-clause-ok : goal.returns-clause-ok
returns-clause-ok c =
    let s = c.args.self.now in
    let g = c.args.group in
    let orderly = subst (λ (x : PeerGroups). IsOrderly x) c.self.view_is c.self.invariant.orderly in
    let members : c.lift_followers.new.members.rows ≡ map (past_member s g) s.members =
    c.in_ok-lift_followers.ensures.members ∙
    ap (λ (x : PeerGroups). map (lift_member ((record { group = g; master = c.master_of_group.result }) ∷ [])) x.members) c.self.view_is ∙
    ap (λ (o : Option ℕ). map (lift_member ((record { group = g; master = o }) ∷ [])) s.members) c.master_of_group.ensures.master in
    let rises : RiseFrom 0 c.lift_followers.new.members.rows =
    subst (λ (xs : List MemberRow). RiseFrom 0 xs) (sym members) (RiseFrom-map (past_member s g) (λ r. refl) 0 s.members orderly.rising) in
    let groups : c.lift_followers.new.groups.rows ≡ map (past_group s g) s.groups =
    c.in_ok-lift_followers.ensures.groups ∙
    ap (λ (x : PeerGroups). map (lift_group ((record { group = g; master = c.master_of_group.result }) ∷ [])) x.groups) c.self.view_is ∙
    ap (λ (o : Option ℕ). map (lift_group ((record { group = g; master = o }) ∷ [])) s.groups) c.master_of_group.ensures.master in
    let row = c.args.row in
    let mount = c.args.mount in
    let change = row_of c.args.change 0 in
    let after : MemberRow = c.past_row-after.result in
    let raw_orderly = change_orderly c.args.change 0 c.requires.gives_up mount s orderly in
    let is_after : after ≡ (record (change row) { master = past s g (change row).master }) =
    c.past_row-after.ensures ∙ ap (past_member s g) c.changed_row-changed.ensures in
    let rows : c.write_row.new.members.rows ≡ map (at_row (λ r. after) mount) (map (past_member s g) s.members) =
    c.write_row.ensures ∙ ap (map (at_row (λ r. after) mount)) members in
    let stay : c.drop_group.new.groups.rows ≡ filter (λ r. not (is_among (g ∷ []) r.group)) (map (past_group s g) s.groups) =
    c.drop_group.ensures.rows ∙ ap (λ (xs : List GroupRow). filter (λ (r : GroupRow). not (is_among (g ∷ []) r.group)) xs) groups in
    let made = followed_left s orderly mount row c.requires.found g c.requires.own c.requires.alone change
    (out_of_group c.args.change c.requires.gives_up row g c.requires.own) raw_orderly after is_after
    c.write_row.new.members.rows rows c.drop_group.new.groups.rows stay c.self.inside.last_group
    (ap (λ (x : PeerGroups). x.last_group) c.self.view_is) in
    made
