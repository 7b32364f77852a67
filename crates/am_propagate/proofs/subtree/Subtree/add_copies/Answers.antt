use Rattle.std.proofs.Common.{◌≡◌, ◌-◌, length, take, List, sym, ap, subst, ◌∙◌}
use Rattle.std.specs.Prelude.{is_some}
use Rattle.am_names.specs.{MountRow}
use Rattle.am_group.specs.{member_row}
use Rattle.am_propagate.specs.{IsWhole}
use Rattle.am_propagate.specs.Copying.{AreThere, rows_in, with_copies}
use Rattle.am_propagate.specs.MountTable.{MountTable}
use Rattle.am_propagate.specs.View.{table_of}
use Rattle.am_propagate.proofs.CopyingLemmas.{copies_long, copies_made, taken_back}
use Rattle.am_propagate.proofs.RemovalLemmas.{same_there, some_of}
use Rattle.am_propagate.proofs.subtree.Subtree.add_copies.Goals as goal

pub add_rows_in-requires-clause-there : goal.add_rows_in-requires-clause-there
add_rows_in-requires-clause-there c =
    subst (λ (x : MountTable). AreThere c.args.mounts.now x.rows) (sym c.self.view_is) c.requires.there

pub add_members_in-requires-clause-joined : goal.add_members_in-requires-clause-joined
add_members_in-requires-clause-joined c = λ m among.
    let t = table_of c.self.inside in
    let there : AreThere c.args.mounts.now t.rows = subst (λ (x : MountTable). AreThere c.args.mounts.now x.rows) (sym c.self.view_is) c.requires.there in
    let row = there m among in
    some_of (member_row t.groups.members m) (sym (same_there t c.self.invariant m) ∙ ap is_some row.1)

pub invariant_of-self-in-Err : goal.invariant_of-self-in-Err
invariant_of-self-in-Err c =
    let t = table_of c.self.inside in
    let there : AreThere c.args.mounts.now t.rows = subst (λ (x : MountTable). AreThere c.args.mounts.now x.rows) (sym c.self.view_is) c.requires.there in
    let came = c.in_ok-add_rows_in.ensures.ok in
    let back : c.take_back.new.self ≡ t.rows =
    c.take_back.ensures ∙ ap (λ (xs : List MountRow). take (length xs - length c.args.mounts.now) xs) came ∙
    taken_back t.rows (rows_in t.last_mount c.args.mounts.now c.args.to t.rows) (length c.args.mounts.now) (copies_long t c.args.mounts.now c.args.to there) in
    let same : c.add_members_in.new.groups ≡ t.groups = c.in-Err.ensures.err in
    rw (back, same) c.self.invariant

pub returns-in-Err-clause-err : goal.returns-in-Err-clause-err
returns-in-Err-clause-err c =
    let t = table_of c.self.inside in
    let there : AreThere c.args.mounts.now t.rows = subst (λ (x : MountTable). AreThere c.args.mounts.now x.rows) (sym c.self.view_is) c.requires.there in
    let came = c.in_ok-add_rows_in.ensures.ok in
    let back : c.take_back.new.self ≡ t.rows =
    c.take_back.ensures ∙ ap (λ (xs : List MountRow). take (length xs - length c.args.mounts.now) xs) came ∙
    taken_back t.rows (rows_in t.last_mount c.args.mounts.now c.args.to t.rows) (length c.args.mounts.now) (copies_long t c.args.mounts.now c.args.to there) in
    let same : c.add_members_in.new.groups ≡ t.groups = c.in-Err.ensures.err in
    rw (back, same) c.self.view_is

pub returns-clause-ok : goal.returns-clause-ok
returns-clause-ok c =
    let t = table_of c.self.inside in
    let there : AreThere c.args.mounts.now t.rows = subst (λ (x : MountTable). AreThere c.args.mounts.now x.rows) (sym c.self.view_is) c.requires.there in
    copies_made t c.args.mounts.now c.args.to there c.args.form c.add_rows_in.new.tree c.add_members_in.new.groups c.to.inside.0
    c.in_ok-add_rows_in.ensures.ok c.in_default.ensures.ok c.to.view_is ∙
    ap (with_copies c.args.form c.args.mounts.now c.args.to) c.self.view_is

pub invariant_of-self-2 : goal.invariant_of-self-2
invariant_of-self-2 c =
    let t = table_of c.self.inside in
    let there : AreThere c.args.mounts.now t.rows = subst (λ (x : MountTable). AreThere c.args.mounts.now x.rows) (sym c.self.view_is) c.requires.there in
    subst (λ (x : MountTable). IsWhole x)
    (sym (copies_made t c.args.mounts.now c.args.to there c.args.form c.add_rows_in.new.tree c.add_members_in.new.groups c.to.inside.0
    c.in_ok-add_rows_in.ensures.ok c.in_default.ensures.ok c.to.view_is ∙
    ap (with_copies c.args.form c.args.mounts.now c.args.to) c.self.view_is))
    c.requires.whole
