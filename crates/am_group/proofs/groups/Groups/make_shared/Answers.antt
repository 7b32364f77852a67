use Rattle.std.proofs.Common.{◌≡◌, ◌+◌, ◌++◌, ℕ, [], ◌∷◌, Option, Some, None, ap, sym, subst, ◌∙◌}
use Rattle.std.specs.Prelude.{map}
use Rattle.am_names.proofs.Basics.{none_where_not_some}
use Rattle.am_names.specs.{MemberRow}
use Rattle.am_names.specs.PeerGroups.{PeerGroups}
use Rattle.am_group.specs.{member_row, at_row, shared_row, IsOrderly, IsPeopled, AddsNoReceivers}
use Rattle.am_index.specs.{Index}
use Rattle.am_group.specs.declared.mount_state.Change.TheVariants.{MakeShared}
use Rattle.am_group.specs.{RoomFor}
use Rattle.am_group.specs.View.{view_of}
use Rattle.am_group.proofs.IndexedLemmas.{shared_indexed, kept_rise, turned_number}
use Rattle.am_group.proofs.LiftLemmas.{pushed, same_state}
use Rattle.am_group.proofs.SharedLemmas.{shared_here, shared_orderly, made_shared_keeps}
use Rattle.am_group.proofs.SpareLemmas.{shared_alone}
use Rattle.am_group.proofs.groups.Groups.make_shared.Goals as goal

pub invariant_of-self-2 : goal.invariant_of-self-2
invariant_of-self-2 c =
    let s = c.args.self.now in
    let orderly = subst (λ (x : PeerGroups). IsOrderly x) c.self.view_is c.self.invariant.orderly in
    let row = c.in-Some.row in
    let n = c.self.inside.last_group + 1 in
    let found : member_row s.members c.args.mount ≡ Some row = cc in
    let alone : row.group ≡ None = none_where_not_some row.group (cc) in
    let number : n ≡ s.last_group + 1 = ap (λ (x : PeerGroups). x.last_group + 1) c.self.view_is in
    let members : c.write_row.new.members.rows ≡ map (at_row (λ r. shared_row n row) c.args.mount) s.members =
    c.write_row.ensures ∙
    ap (λ (x : MemberRow). map (at_row (λ r. x) c.args.mount) c.self.inside.members.rows) c.changed_row-changed.ensures ∙
    ap (λ (x : PeerGroups). map (at_row (λ r. shared_row n row) c.args.mount) x.members) c.self.view_is in
    let groups : c.push_reserved.new.self.rows ≡ s.groups ++ (record { group = n; master = row.master }) ∷ [] =
    pushed _ _ _ _ c.push_reserved.ensures.rows c.reserve.ensures.rows ∙ ap (λ (x : PeerGroups). x.groups ++ (record { group = n; master = c.master.result }) ∷ []) c.self.view_is ∙
    ap (λ (o : Option ℕ). s.groups ++ (record { group = n; master = o }) ∷ []) c.master.ensures in
    let made = shared_alone s orderly c.args.mount row found n number c.write_row.new.members.rows members c.push_reserved.new.self.rows groups c.number.inside.0 c.number.view_is in
    record {
      orderly = subst (λ (x : PeerGroups). IsOrderly x) (sym made) (shared_orderly s orderly c.args.mount row found alone);
      indexed = shared_indexed (view_of c.self.inside) c.self.invariant.orderly c.args.mount row c.changed_row-changed.result
          (ap (λ (x : PeerGroups). member_row x.members c.args.mount) c.self.view_is ∙ found)
          (ap (λ (r : MemberRow). r.mount) c.changed_row-changed.ensures ∙ turned_number MakeShared n row)
          (record { group = n; master = c.master.result }) c.self.inside.indexes c.make_all_room.new.self c.replace.new.self c.add_group.new.self
          c.make_all_room.ensures.same c.replace.ensures c.add_group.ensures c.self.invariant.indexed
          c.write_row.new.members.rows c.write_row.ensures c.push_reserved.new.self.rows (pushed _ _ _ _ c.push_reserved.ensures.rows c.reserve.ensures.rows);
    }

pub returns-in_err-make_all_room-clause-peopled : goal.returns-in_err-make_all_room-clause-peopled
returns-in_err-make_all_room-clause-peopled c = λ peopled.
    subst (λ (x : PeerGroups). IsPeopled x) (sym c.self.view_is) peopled

pub replace-requires-clause-members : goal.replace-requires-clause-members
replace-requires-clause-members c =
    (kept_rise (view_of c.self.inside) c.self.invariant.orderly c.self.inside.indexes c.make_all_room.new.self
    c.self.invariant.indexed c.make_all_room.ensures.same).members

pub replace-requires-clause-slaves : goal.replace-requires-clause-slaves
replace-requires-clause-slaves c =
    (kept_rise (view_of c.self.inside) c.self.invariant.orderly c.self.inside.indexes c.make_all_room.new.self
    c.self.invariant.indexed c.make_all_room.ensures.same).slaves

pub add_group-requires : goal.add_group-requires
add_group-requires c =
    subst (λ (t : Index). RoomFor c.master.result t) (sym c.replace.ensures.below) c.in_ok-make_all_room.ensures.group

pub returns-clause-ok : goal.returns-clause-ok
returns-clause-ok c =
    let s = c.args.self.now in
    let orderly = subst (λ (x : PeerGroups). IsOrderly x) c.self.view_is c.self.invariant.orderly in
    let row = c.in-Some.row in
    let n = c.self.inside.last_group + 1 in
    let found : member_row s.members c.args.mount ≡ Some row = cc in
    let alone : row.group ≡ None = none_where_not_some row.group (cc) in
    let number : n ≡ s.last_group + 1 = ap (λ (x : PeerGroups). x.last_group + 1) c.self.view_is in
    let members : c.write_row.new.members.rows ≡ map (at_row (λ r. shared_row n row) c.args.mount) s.members =
    c.write_row.ensures ∙
    ap (λ (x : MemberRow). map (at_row (λ r. x) c.args.mount) c.self.inside.members.rows) c.changed_row-changed.ensures ∙
    ap (λ (x : PeerGroups). map (at_row (λ r. shared_row n row) c.args.mount) x.members) c.self.view_is in
    let groups : c.push_reserved.new.self.rows ≡ s.groups ++ (record { group = n; master = row.master }) ∷ [] =
    pushed _ _ _ _ c.push_reserved.ensures.rows c.reserve.ensures.rows ∙ ap (λ (x : PeerGroups). x.groups ++ (record { group = n; master = c.master.result }) ∷ []) c.self.view_is ∙
    ap (λ (o : Option ℕ). s.groups ++ (record { group = n; master = o }) ∷ []) c.master.ensures in
    let made = shared_alone s orderly c.args.mount row found n number c.write_row.new.members.rows members c.push_reserved.new.self.rows groups c.number.inside.0 c.number.view_is in
    made ∙ sym (shared_here s c.args.mount row found alone)

pub returns-clause-law : goal.returns-clause-law
returns-clause-law c = λ peopled.
    let s = c.args.self.now in
    let orderly = subst (λ (x : PeerGroups). IsOrderly x) c.self.view_is c.self.invariant.orderly in
    let row = c.in-Some.row in
    let n = c.self.inside.last_group + 1 in
    let found : member_row s.members c.args.mount ≡ Some row = cc in
    let alone : row.group ≡ None = none_where_not_some row.group (cc) in
    let number : n ≡ s.last_group + 1 = ap (λ (x : PeerGroups). x.last_group + 1) c.self.view_is in
    let members : c.write_row.new.members.rows ≡ map (at_row (λ r. shared_row n row) c.args.mount) s.members =
    c.write_row.ensures ∙
    ap (λ (x : MemberRow). map (at_row (λ r. x) c.args.mount) c.self.inside.members.rows) c.changed_row-changed.ensures ∙
    ap (λ (x : PeerGroups). map (at_row (λ r. shared_row n row) c.args.mount) x.members) c.self.view_is in
    let groups : c.push_reserved.new.self.rows ≡ s.groups ++ (record { group = n; master = row.master }) ∷ [] =
    pushed _ _ _ _ c.push_reserved.ensures.rows c.reserve.ensures.rows ∙ ap (λ (x : PeerGroups). x.groups ++ (record { group = n; master = c.master.result }) ∷ []) c.self.view_is ∙
    ap (λ (o : Option ℕ). s.groups ++ (record { group = n; master = o }) ∷ []) c.master.ensures in
    let made = shared_alone s orderly c.args.mount row found n number c.write_row.new.members.rows members c.push_reserved.new.self.rows groups c.number.inside.0 c.number.view_is in
    let here = shared_here s c.args.mount row found alone in
    subst (λ (x : PeerGroups). AddsNoReceivers s x) (sym (made ∙ sym here)) (made_shared_keeps c.args.mount s (record { orderly = orderly; peopled = peopled })).law

pub returns-clause-peopled : goal.returns-clause-peopled
returns-clause-peopled c = λ peopled.
    let s = c.args.self.now in
    let orderly = subst (λ (x : PeerGroups). IsOrderly x) c.self.view_is c.self.invariant.orderly in
    let row = c.in-Some.row in
    let n = c.self.inside.last_group + 1 in
    let found : member_row s.members c.args.mount ≡ Some row = cc in
    let alone : row.group ≡ None = none_where_not_some row.group (cc) in
    let number : n ≡ s.last_group + 1 = ap (λ (x : PeerGroups). x.last_group + 1) c.self.view_is in
    let members : c.write_row.new.members.rows ≡ map (at_row (λ r. shared_row n row) c.args.mount) s.members =
    c.write_row.ensures ∙
    ap (λ (x : MemberRow). map (at_row (λ r. x) c.args.mount) c.self.inside.members.rows) c.changed_row-changed.ensures ∙
    ap (λ (x : PeerGroups). map (at_row (λ r. shared_row n row) c.args.mount) x.members) c.self.view_is in
    let groups : c.push_reserved.new.self.rows ≡ s.groups ++ (record { group = n; master = row.master }) ∷ [] =
    pushed _ _ _ _ c.push_reserved.ensures.rows c.reserve.ensures.rows ∙ ap (λ (x : PeerGroups). x.groups ++ (record { group = n; master = c.master.result }) ∷ []) c.self.view_is ∙
    ap (λ (o : Option ℕ). s.groups ++ (record { group = n; master = o }) ∷ []) c.master.ensures in
    let made = shared_alone s orderly c.args.mount row found n number c.write_row.new.members.rows members c.push_reserved.new.self.rows groups c.number.inside.0 c.number.view_is in
    let here = shared_here s c.args.mount row found alone in
    subst (λ (x : PeerGroups). IsPeopled x) (sym (made ∙ sym here)) (made_shared_keeps c.args.mount s (record { orderly = orderly; peopled = peopled })).sound.peopled

pub returns-in_err-reserve-clause-peopled : goal.returns-in_err-reserve-clause-peopled
returns-in_err-reserve-clause-peopled c = λ peopled.
    let same = same_state c.args.self.now c.self.inside.members.rows c.reserve.new.self.rows c.self.inside.last_group
    (ap (λ (x : PeerGroups). x.members) c.self.view_is)
    (c.reserve.ensures.rows ∙ ap (λ (x : PeerGroups). x.groups) c.self.view_is)
    (ap (λ (x : PeerGroups). x.last_group) c.self.view_is) in
    subst (λ (x : PeerGroups). IsPeopled x) (sym same) peopled
