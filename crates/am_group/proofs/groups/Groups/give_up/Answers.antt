use Rattle.std.proofs.Common.{◌≡◌, Some, true, sym, ap, subst, ◌∙◌}
use Rattle.std.specs.Prelude.{map}
use Rattle.am_names.specs.{MemberRow}
use Rattle.am_names.specs.PeerGroups.{PeerGroups}
use Rattle.am_group.specs.{member_row, at_row, with_row, IsOrderly, IsPeopled, AddsNoReceivers, row_of, is_not_alone}
use Rattle.am_group.specs.View.{view_of}
use Rattle.am_group.proofs.IndexedLemmas.{turned_indexed, kept_rise, turned_number}
use Rattle.am_group.proofs.ChangeLemmas.{left_orderly}
use Rattle.am_group.proofs.KindLemmas.{change_orderly, change_law, change_peopled}
use Rattle.am_group.proofs.SpareLemmas.{changed_alone}
use Rattle.am_group.proofs.groups.Groups.give_up.Goals as goal

pub invariant_of-self-then-is_not_alone : goal.invariant_of-self-then-is_not_alone
invariant_of-self-then-is_not_alone c =
    let s = c.args.self.now in
    let change = row_of c.args.change 0 in
    let orderly = subst (λ (x : PeerGroups). IsOrderly x) c.self.view_is c.self.invariant.orderly in
    let row = c.in-Some.row in
    let found : member_row s.members c.args.mount ≡ Some row = sym c.member.ensures ∙ c.in-Some.is in
    let spared : is_not_alone s row ≡ true = sym c.is_not_alone.ensures ∙ c.if-is_not_alone.true in
    let rows : c.write_row.new.members.rows ≡ map (at_row (λ r. change row) c.args.mount) s.members =
    c.write_row.ensures ∙
    ap (λ (x : MemberRow). map (at_row (λ r. x) c.args.mount) c.self.inside.members.rows) c.changed_row-changed.ensures ∙
    ap (λ (x : PeerGroups). map (at_row (λ r. change row) c.args.mount) x.members) c.self.view_is in
    let made = changed_alone change c.args.mount s orderly.rising row found spared c.write_row.new.members.rows rows
    c.self.inside.groups.rows (ap (λ (x : PeerGroups). x.groups) c.self.view_is) c.self.inside.last_group (ap (λ (x : PeerGroups). x.last_group) c.self.view_is) in
    record {
      orderly = subst (λ (x : PeerGroups). IsOrderly x) (sym made) (left_orderly s (with_row change c.args.mount s) (change_orderly c.args.change 0 c.requires c.args.mount s orderly));
      indexed = turned_indexed (view_of c.self.inside) c.self.invariant.orderly c.args.mount row c.changed_row-changed.result
          (ap (λ (x : PeerGroups). member_row x.members c.args.mount) c.self.view_is ∙ found)
          (ap (λ (r : MemberRow). r.mount) c.changed_row-changed.ensures ∙ turned_number c.args.change 0 row)
          c.self.inside.indexes c.make_room.new.self c.replace.new.self
          c.make_room.ensures.same c.replace.ensures c.self.invariant.indexed
          c.write_row.new.members.rows c.write_row.ensures;
    }

pub returns-in_err-make_room-clause-peopled : goal.returns-in_err-make_room-clause-peopled
returns-in_err-make_room-clause-peopled c = λ peopled.
    subst (λ (x : PeerGroups). IsPeopled x) (sym c.self.view_is) peopled

pub replace-requires-clause-members : goal.replace-requires-clause-members
replace-requires-clause-members c =
    (kept_rise (view_of c.self.inside) c.self.invariant.orderly c.self.inside.indexes c.make_room.new.self
    c.self.invariant.indexed c.make_room.ensures.same).members

pub replace-requires-clause-slaves : goal.replace-requires-clause-slaves
replace-requires-clause-slaves c =
    (kept_rise (view_of c.self.inside) c.self.invariant.orderly c.self.inside.indexes c.make_room.new.self
    c.self.invariant.indexed c.make_room.ensures.same).slaves

pub returns-then-is_not_alone-clause-ok : goal.returns-then-is_not_alone-clause-ok
returns-then-is_not_alone-clause-ok c =
    let s = c.args.self.now in
    let change = row_of c.args.change 0 in
    let orderly = subst (λ (x : PeerGroups). IsOrderly x) c.self.view_is c.self.invariant.orderly in
    let row = c.in-Some.row in
    let found : member_row s.members c.args.mount ≡ Some row = sym c.member.ensures ∙ c.in-Some.is in
    let spared : is_not_alone s row ≡ true = sym c.is_not_alone.ensures ∙ c.if-is_not_alone.true in
    let rows : c.write_row.new.members.rows ≡ map (at_row (λ r. change row) c.args.mount) s.members =
    c.write_row.ensures ∙
    ap (λ (x : MemberRow). map (at_row (λ r. x) c.args.mount) c.self.inside.members.rows) c.changed_row-changed.ensures ∙
    ap (λ (x : PeerGroups). map (at_row (λ r. change row) c.args.mount) x.members) c.self.view_is in
    let made = changed_alone change c.args.mount s orderly.rising row found spared c.write_row.new.members.rows rows
    c.self.inside.groups.rows (ap (λ (x : PeerGroups). x.groups) c.self.view_is) c.self.inside.last_group (ap (λ (x : PeerGroups). x.last_group) c.self.view_is) in
    made

pub returns-then-is_not_alone-clause-law : goal.returns-then-is_not_alone-clause-law
returns-then-is_not_alone-clause-law c = λ peopled.
    let s = c.args.self.now in
    let change = row_of c.args.change 0 in
    let orderly = subst (λ (x : PeerGroups). IsOrderly x) c.self.view_is c.self.invariant.orderly in
    let row = c.in-Some.row in
    let found : member_row s.members c.args.mount ≡ Some row = sym c.member.ensures ∙ c.in-Some.is in
    let spared : is_not_alone s row ≡ true = sym c.is_not_alone.ensures ∙ c.if-is_not_alone.true in
    let rows : c.write_row.new.members.rows ≡ map (at_row (λ r. change row) c.args.mount) s.members =
    c.write_row.ensures ∙
    ap (λ (x : MemberRow). map (at_row (λ r. x) c.args.mount) c.self.inside.members.rows) c.changed_row-changed.ensures ∙
    ap (λ (x : PeerGroups). map (at_row (λ r. change row) c.args.mount) x.members) c.self.view_is in
    let made = changed_alone change c.args.mount s orderly.rising row found spared c.write_row.new.members.rows rows
    c.self.inside.groups.rows (ap (λ (x : PeerGroups). x.groups) c.self.view_is) c.self.inside.last_group (ap (λ (x : PeerGroups). x.last_group) c.self.view_is) in
    subst (λ (x : PeerGroups). AddsNoReceivers s x) (sym made) (change_law c.args.change 0 c.requires c.args.mount s orderly peopled)

pub returns-then-is_not_alone-clause-peopled : goal.returns-then-is_not_alone-clause-peopled
returns-then-is_not_alone-clause-peopled c = λ peopled.
    let s = c.args.self.now in
    let change = row_of c.args.change 0 in
    let orderly = subst (λ (x : PeerGroups). IsOrderly x) c.self.view_is c.self.invariant.orderly in
    let row = c.in-Some.row in
    let found : member_row s.members c.args.mount ≡ Some row = sym c.member.ensures ∙ c.in-Some.is in
    let spared : is_not_alone s row ≡ true = sym c.is_not_alone.ensures ∙ c.if-is_not_alone.true in
    let rows : c.write_row.new.members.rows ≡ map (at_row (λ r. change row) c.args.mount) s.members =
    c.write_row.ensures ∙
    ap (λ (x : MemberRow). map (at_row (λ r. x) c.args.mount) c.self.inside.members.rows) c.changed_row-changed.ensures ∙
    ap (λ (x : PeerGroups). map (at_row (λ r. change row) c.args.mount) x.members) c.self.view_is in
    let made = changed_alone change c.args.mount s orderly.rising row found spared c.write_row.new.members.rows rows
    c.self.inside.groups.rows (ap (λ (x : PeerGroups). x.groups) c.self.view_is) c.self.inside.last_group (ap (λ (x : PeerGroups). x.last_group) c.self.view_is) in
    subst (λ (x : PeerGroups). IsPeopled x) (sym made) (change_peopled c.args.change 0 c.requires c.args.mount s orderly peopled)

pub returns-in_err-give_up_last-clause-peopled : goal.returns-in_err-give_up_last-clause-peopled
returns-in_err-give_up_last-clause-peopled c = λ peopled.
    subst (λ (x : PeerGroups). IsPeopled x) (sym c.in_err-give_up_last.ensures.err) peopled

pub returns-clause-law : goal.returns-clause-law
returns-clause-law c = λ peopled.
    let orderly = subst (λ (x : PeerGroups). IsOrderly x) c.self.view_is c.self.invariant.orderly in
    subst (λ (x : PeerGroups). AddsNoReceivers c.args.self.now x) (sym c.in_ok-give_up_last.ensures.ok)
    (change_law c.args.change 0 c.requires c.args.mount c.args.self.now orderly peopled)

pub returns-clause-peopled : goal.returns-clause-peopled
returns-clause-peopled c = λ peopled.
    let orderly = subst (λ (x : PeerGroups). IsOrderly x) c.self.view_is c.self.invariant.orderly in
    subst (λ (x : PeerGroups). IsPeopled x) (sym c.in_ok-give_up_last.ensures.ok)
    (change_peopled c.args.change 0 c.requires c.args.mount c.args.self.now orderly peopled)
