use Rattle.std.proofs.Common.{rules, ◌≡◌, ◌<◌, ◌+◌, ◌∷◌, ℕ, List, length, arith, refl, ap, sym, subst, ◌∙◌}
use Rattle.am_names.specs.{GroupRow}
use Rattle.am_group.specs.{IsSound, all_added, group_of, receivers_of}
use Rattle.am_names.specs.PeerGroups.{PeerGroups}
use Rattle.am_propagate.specs.Copying.{AreThere}
use Rattle.am_propagate.specs.MountTable.{MountTable}
use Rattle.am_propagate.specs.{IsWhole, groups_made, mounted, new_groups, new_members}
use Rattle.am_propagate.specs.View.{table_of}
use Rattle.am_propagate.proofs.AdditionLemmas.{made_length, mounted_whole}
use Rattle.am_propagate.proofs.ComingLemmas.{adds_back, joined_is, made_is, parents_there}
use Rattle.am_propagate.proofs.subtree.Subtree.add_with.Goals as goal

pub add_rows_at-requires-clause-there : goal.add_rows_at-requires-clause-there
add_rows_at-requires-clause-there c =
    let t = c.args.self.now in
    let at = c.args.at.now.mount in
    let whole : IsWhole t = subst (λ (x : MountTable). IsWhole x) c.self.view_is c.self.invariant in
    subst (λ (x : MountTable). AreThere (at ∷ c.args.receivers.now) x.rows) (sym c.self.view_is)
    (subst (λ (rs : List ℕ). AreThere (at ∷ rs) t.rows) (sym c.requires.receivers) (parents_there t whole at c.requires.there))

pub add_all-requires-clause-numbers : goal.add_all-requires-clause-numbers
add_all-requires-clause-numbers c =
    let s = c.args.self.now.groups in
    let rs = c.args.receivers.now in
    let fits : s.last_group + groups_made c.args.membership (group_of s c.args.at.now.mount) rs s < 18446744073709551616 = search rules in
    let made : length c.in_ok-joining.joining.groups.items ≡ groups_made c.args.membership (group_of s c.args.at.now.mount) rs s = ap (λ (xs : List GroupRow). length xs) c.in_ok-joining.ensures.groups_are ∙ made_length c.args.membership (group_of s c.args.at.now.mount) rs s in
    let last : c.self.inside.groups.last_group ≡ s.last_group = ap (λ (x : MountTable). x.groups.last_group) c.self.view_is in
    omega arith

pub add_all-requires-clause-sound : goal.add_all-requires-clause-sound
add_all-requires-clause-sound c =
    let t = c.args.self.now in
    let whole : IsWhole t = subst (λ (x : MountTable). IsWhole x) c.self.view_is c.self.invariant in
    let members = c.in_ok-joining.joining.members.items in
    let fresh = c.in_ok-joining.joining.groups.items in
    subst (λ (x : MountTable). IsSound (all_added members fresh x.groups)) (sym c.self.view_is)
    (subst (λ (s : PeerGroups). IsSound s)
    (sym (joined_is t c.args.at.now c.args.fs c.args.membership c.args.receivers.now (c.self.inside.last_mount + 1) members fresh
    c.requires.receivers (ap (λ (x : MountTable). x.last_mount + 1) c.self.view_is) c.in_ok-joining.ensures.members_are c.in_ok-joining.ensures.groups_are))
    (mounted_whole t whole c.args.at.now c.args.fs c.args.membership c.requires.there c.requires.source).sound)

pub invariant_of-self-in-Err : goal.invariant_of-self-in-Err
invariant_of-self-in-Err c =
    let t = table_of c.self.inside in
    let n = c.self.inside.last_mount + 1 in
    let rs = c.args.receivers.now in
    let many : length (c.args.at.now.mount ∷ rs) ≡ length rs + 1 = omega arith in
    let back : c.take_back.new.self ≡ t.rows =
    c.take_back.ensures ∙
    adds_back c.args.at.now.place c.args.fs n n (length rs + 1) (c.args.at.now.mount ∷ rs) t.rows c.add_rows_at.new.tree c.in_ok-add_rows_at.ensures.ok many in
    let same : c.add_all.new.self ≡ t.groups = c.in-Err.ensures.err in
    rw (back, same) c.self.invariant

pub returns-in-Err-clause-err : goal.returns-in-Err-clause-err
returns-in-Err-clause-err c =
    let t = table_of c.self.inside in
    let n = c.self.inside.last_mount + 1 in
    let rs = c.args.receivers.now in
    let many : length (c.args.at.now.mount ∷ rs) ≡ length rs + 1 = omega arith in
    let back : c.take_back.new.self ≡ t.rows =
    c.take_back.ensures ∙
    adds_back c.args.at.now.place c.args.fs n n (length rs + 1) (c.args.at.now.mount ∷ rs) t.rows c.add_rows_at.new.tree c.in_ok-add_rows_at.ensures.ok many in
    let same : c.add_all.new.self ≡ t.groups = c.in-Err.ensures.err in
    rw (back, same) c.self.view_is

pub invariant_of-self-2 : goal.invariant_of-self-2
invariant_of-self-2 c =
    let t = table_of c.self.inside in
    let at = c.args.at.now in
    let fs = c.args.fs in
    let k = c.args.membership in
    let rs = c.args.receivers.now in
    let n = c.self.inside.last_mount + 1 in
    let members = c.in_ok-joining.joining.members.items in
    let fresh = c.in_ok-joining.joining.groups.items in
    let rs_is : rs ≡ receivers_of t.groups at.mount =
    subst (λ (x : MountTable). rs ≡ receivers_of x.groups at.mount) (sym c.self.view_is) c.requires.receivers in
    let members_are : members ≡ new_members k (group_of t.groups at.mount) rs n t.groups =
    subst (λ (x : MountTable). members ≡ new_members k (group_of x.groups at.mount) rs n x.groups) (sym c.self.view_is) c.in_ok-joining.ensures.members_are in
    let fresh_are : fresh ≡ new_groups k (group_of t.groups at.mount) rs t.groups =
    subst (λ (x : MountTable). fresh ≡ new_groups k (group_of x.groups at.mount) rs x.groups) (sym c.self.view_is) c.in_ok-joining.ensures.groups_are in
    let groups_are : c.add_all.new.self ≡ (mounted at fs k t).groups =
    c.in_default.ensures.ok ∙ joined_is t at fs k rs n members fresh rs_is refl members_are fresh_are in
    let last_is : c.self.inside.last_mount + (length rs + 1) ≡ n + length rs = omega arith in
    let made : record t { rows = c.add_rows_at.new.tree; groups = c.add_all.new.self; last_mount = c.self.inside.last_mount + (length rs + 1) } ≡ mounted at fs k c.args.self.now =
    made_is t at fs k rs n (c.self.inside.last_mount + (length rs + 1)) c.add_rows_at.new.tree c.add_all.new.self rs_is refl last_is (c.in_ok-add_rows_at.ensures.ok t refl) groups_are ∙
    ap (mounted at fs k) c.self.view_is in
    let whole : IsWhole c.args.self.now = subst (λ (x : MountTable). IsWhole x) c.self.view_is c.self.invariant in
    subst (λ (x : MountTable). IsWhole x) (sym made) (mounted_whole c.args.self.now whole at fs k c.requires.there c.requires.source)

pub returns-clause-ok : goal.returns-clause-ok
returns-clause-ok c =
    let t = table_of c.self.inside in
    let at = c.args.at.now in
    let fs = c.args.fs in
    let k = c.args.membership in
    let rs = c.args.receivers.now in
    let n = c.self.inside.last_mount + 1 in
    let members = c.in_ok-joining.joining.members.items in
    let fresh = c.in_ok-joining.joining.groups.items in
    let rs_is : rs ≡ receivers_of t.groups at.mount =
    subst (λ (x : MountTable). rs ≡ receivers_of x.groups at.mount) (sym c.self.view_is) c.requires.receivers in
    let members_are : members ≡ new_members k (group_of t.groups at.mount) rs n t.groups =
    subst (λ (x : MountTable). members ≡ new_members k (group_of x.groups at.mount) rs n x.groups) (sym c.self.view_is) c.in_ok-joining.ensures.members_are in
    let fresh_are : fresh ≡ new_groups k (group_of t.groups at.mount) rs t.groups =
    subst (λ (x : MountTable). fresh ≡ new_groups k (group_of x.groups at.mount) rs x.groups) (sym c.self.view_is) c.in_ok-joining.ensures.groups_are in
    let groups_are : c.add_all.new.self ≡ (mounted at fs k t).groups =
    c.in_default.ensures.ok ∙ joined_is t at fs k rs n members fresh rs_is refl members_are fresh_are in
    let last_is : c.self.inside.last_mount + (length rs + 1) ≡ n + length rs = omega arith in
    let made : record t { rows = c.add_rows_at.new.tree; groups = c.add_all.new.self; last_mount = c.self.inside.last_mount + (length rs + 1) } ≡ mounted at fs k c.args.self.now =
    made_is t at fs k rs n (c.self.inside.last_mount + (length rs + 1)) c.add_rows_at.new.tree c.add_all.new.self rs_is refl last_is (c.in_ok-add_rows_at.ensures.ok t refl) groups_are ∙
    ap (mounted at fs k) c.self.view_is in
    made
