use Rattle.std.proofs.Common.{◌≡◌, ◌++◌, ◌∷◌, ℕ, List, length, true, None, ap, sym, subst, ◌∙◌}
use Rattle.std.specs.List.{insert}
use Rattle.am_names.proofs.Basics.{none_where_not_some}
use Rattle.am_names.specs.{MemberRow, row_with}
use Rattle.am_names.specs.PeerGroups.{PeerGroups}
use Rattle.am_group.specs.{member_row, IsOrderly, IsPeopled, AddsNoReceivers, below, above, with_member, may_have}
use Rattle.am_names.specs.declared.membership.Membership.TheVariants.{Private}
use Rattle.am_group.specs.View.{view_of}
use Rattle.am_group.proofs.IndexedLemmas.{come_indexed, kept_rise}
use Rattle.am_group.proofs.LiftLemmas.{same_state}
use Rattle.am_group.proofs.MemberLemmas.{put_rows, row_mount, member_orderly, member_law, member_peopled}
use Rattle.am_group.proofs.groups.Groups.add.Goals as goal

pub invariant_of-self-2 : goal.invariant_of-self-2
invariant_of-self-2 c =
    let s = c.args.self.now in
    let orderly = subst (λ (x : PeerGroups). IsOrderly x) c.self.view_is c.self.invariant.orderly in
    let new : member_row s.members c.args.mount ≡ None = none_where_not_some (member_row s.members c.args.mount) (cc) in
    let may : may_have s c.args.membership ≡ true = cc in
    let members : c.insert_reserved.new.self.rows ≡ insert s.members (length (below c.args.mount s.members)) (row_with c.args.membership c.args.mount) = c.insert_reserved.ensures.rows ∙ ap (λ (ms : List MemberRow). insert ms c.rank-index.result c.row-row.result) c.reserve.ensures.rows ∙ ap (λ (ms : List MemberRow). insert ms c.rank-index.result c.row-row.result) (ap (λ (x : PeerGroups). x.members) c.self.view_is) ∙ ap (λ (n : ℕ). insert s.members n c.row-row.result) c.rank-index.ensures.rank ∙ ap (λ (r : MemberRow). insert s.members (length (below c.args.mount s.members)) r) c.row-row.ensures in
    let made = same_state (with_member (row_with c.args.membership c.args.mount) s) c.insert_reserved.new.self.rows c.self.inside.groups.rows c.self.inside.last_group (members ∙ put_rows s orderly c.args.mount c.args.membership new) (ap (λ (x : PeerGroups). x.groups) c.self.view_is) (ap (λ (x : PeerGroups). x.last_group) c.self.view_is) in
    record {
      orderly = subst (λ (x : PeerGroups). IsOrderly x) (sym made) (member_orderly s orderly c.args.mount c.args.membership new may);
      indexed =
          let number : c.row-row.result.mount ≡ c.args.mount = ap (λ (r : MemberRow). r.mount) c.row-row.ensures ∙ row_mount s orderly c.args.mount c.args.membership new c.args.membership in
          let first : c.row.result ≡ row_with Private c.args.mount = c.row.ensures in
          let absent : member_row c.self.inside.members.rows c.args.mount ≡ None = ap (λ (x : PeerGroups). member_row x.members c.args.mount) c.self.view_is ∙ new in
          come_indexed (view_of c.self.inside) c.self.invariant.orderly c.row-row.result c.row.result
          (ap (λ (m : ℕ). member_row c.self.inside.members.rows m) number ∙ absent)
          (ap (λ (r : MemberRow). r.mount) first ∙ sym number) (ap (λ (r : MemberRow). r.group) first) (ap (λ (r : MemberRow). r.master) first)
          c.self.inside.indexes c.make_room.new.self c.replace.new.self c.make_room.ensures.same c.replace.ensures c.self.invariant.indexed
          c.insert_reserved.new.self.rows
          (members ∙ put_rows s orderly c.args.mount c.args.membership new ∙
          ap (λ (r : MemberRow). below r.mount s.members ++ r ∷ above r.mount s.members) (sym c.row-row.ensures) ∙
          ap (λ (x : PeerGroups). below c.row-row.result.mount x.members ++ c.row-row.result ∷ above c.row-row.result.mount x.members) (sym c.self.view_is));
    }

pub returns-in_err-make_room-clause-peopled : goal.returns-in_err-make_room-clause-peopled
returns-in_err-make_room-clause-peopled c = λ peopled has.
    subst (λ (x : PeerGroups). IsPeopled x) (sym c.self.view_is) peopled

pub replace-requires-clause-members : goal.replace-requires-clause-members
replace-requires-clause-members c =
    (kept_rise (view_of c.self.inside) c.self.invariant.orderly c.self.inside.indexes c.make_room.new.self
    c.self.invariant.indexed c.make_room.ensures.same).members

pub replace-requires-clause-slaves : goal.replace-requires-clause-slaves
replace-requires-clause-slaves c =
    (kept_rise (view_of c.self.inside) c.self.invariant.orderly c.self.inside.indexes c.make_room.new.self
    c.self.invariant.indexed c.make_room.ensures.same).slaves

pub returns-clause-ok : goal.returns-clause-ok
returns-clause-ok c =
    let s = c.args.self.now in
    let orderly = subst (λ (x : PeerGroups). IsOrderly x) c.self.view_is c.self.invariant.orderly in
    let new : member_row s.members c.args.mount ≡ None = none_where_not_some (member_row s.members c.args.mount) (cc) in
    let may : may_have s c.args.membership ≡ true = cc in
    let members : c.insert_reserved.new.self.rows ≡ insert s.members (length (below c.args.mount s.members)) (row_with c.args.membership c.args.mount) = c.insert_reserved.ensures.rows ∙ ap (λ (ms : List MemberRow). insert ms c.rank-index.result c.row-row.result) c.reserve.ensures.rows ∙ ap (λ (ms : List MemberRow). insert ms c.rank-index.result c.row-row.result) (ap (λ (x : PeerGroups). x.members) c.self.view_is) ∙ ap (λ (n : ℕ). insert s.members n c.row-row.result) c.rank-index.ensures.rank ∙ ap (λ (r : MemberRow). insert s.members (length (below c.args.mount s.members)) r) c.row-row.ensures in
    let made = same_state (with_member (row_with c.args.membership c.args.mount) s) c.insert_reserved.new.self.rows c.self.inside.groups.rows c.self.inside.last_group (members ∙ put_rows s orderly c.args.mount c.args.membership new) (ap (λ (x : PeerGroups). x.groups) c.self.view_is) (ap (λ (x : PeerGroups). x.last_group) c.self.view_is) in
    made

pub returns-clause-law : goal.returns-clause-law
returns-clause-law c = λ peopled.
    let s = c.args.self.now in
    let orderly = subst (λ (x : PeerGroups). IsOrderly x) c.self.view_is c.self.invariant.orderly in
    let new : member_row s.members c.args.mount ≡ None = none_where_not_some (member_row s.members c.args.mount) (cc) in
    let may : may_have s c.args.membership ≡ true = cc in
    let members : c.insert_reserved.new.self.rows ≡ insert s.members (length (below c.args.mount s.members)) (row_with c.args.membership c.args.mount) = c.insert_reserved.ensures.rows ∙ ap (λ (ms : List MemberRow). insert ms c.rank-index.result c.row-row.result) c.reserve.ensures.rows ∙ ap (λ (ms : List MemberRow). insert ms c.rank-index.result c.row-row.result) (ap (λ (x : PeerGroups). x.members) c.self.view_is) ∙ ap (λ (n : ℕ). insert s.members n c.row-row.result) c.rank-index.ensures.rank ∙ ap (λ (r : MemberRow). insert s.members (length (below c.args.mount s.members)) r) c.row-row.ensures in
    let made = same_state (with_member (row_with c.args.membership c.args.mount) s) c.insert_reserved.new.self.rows c.self.inside.groups.rows c.self.inside.last_group (members ∙ put_rows s orderly c.args.mount c.args.membership new) (ap (λ (x : PeerGroups). x.groups) c.self.view_is) (ap (λ (x : PeerGroups). x.last_group) c.self.view_is) in
    subst (λ (x : PeerGroups). AddsNoReceivers s x) (sym made) (member_law s orderly c.args.mount c.args.membership new peopled)

pub returns-clause-peopled : goal.returns-clause-peopled
returns-clause-peopled c = λ peopled has.
    let s = c.args.self.now in
    let orderly = subst (λ (x : PeerGroups). IsOrderly x) c.self.view_is c.self.invariant.orderly in
    let new : member_row s.members c.args.mount ≡ None = none_where_not_some (member_row s.members c.args.mount) (cc) in
    let may : may_have s c.args.membership ≡ true = cc in
    let members : c.insert_reserved.new.self.rows ≡ insert s.members (length (below c.args.mount s.members)) (row_with c.args.membership c.args.mount) = c.insert_reserved.ensures.rows ∙ ap (λ (ms : List MemberRow). insert ms c.rank-index.result c.row-row.result) c.reserve.ensures.rows ∙ ap (λ (ms : List MemberRow). insert ms c.rank-index.result c.row-row.result) (ap (λ (x : PeerGroups). x.members) c.self.view_is) ∙ ap (λ (n : ℕ). insert s.members n c.row-row.result) c.rank-index.ensures.rank ∙ ap (λ (r : MemberRow). insert s.members (length (below c.args.mount s.members)) r) c.row-row.ensures in
    let made = same_state (with_member (row_with c.args.membership c.args.mount) s) c.insert_reserved.new.self.rows c.self.inside.groups.rows c.self.inside.last_group (members ∙ put_rows s orderly c.args.mount c.args.membership new) (ap (λ (x : PeerGroups). x.groups) c.self.view_is) (ap (λ (x : PeerGroups). x.last_group) c.self.view_is) in
    subst (λ (x : PeerGroups). IsPeopled x) (sym made) (member_peopled s orderly c.args.mount c.args.membership new peopled has)

pub returns-in_err-reserve-clause-peopled : goal.returns-in_err-reserve-clause-peopled
returns-in_err-reserve-clause-peopled c = λ peopled has.
    let s = c.args.self.now in
    let same = same_state s c.reserve.new.self.rows c.self.inside.groups.rows c.self.inside.last_group (c.reserve.ensures.rows ∙ ap (λ (x : PeerGroups). x.members) c.self.view_is) (ap (λ (x : PeerGroups). x.groups) c.self.view_is) (ap (λ (x : PeerGroups). x.last_group) c.self.view_is) in
    subst (λ (x : PeerGroups). IsPeopled x) (sym same) peopled
