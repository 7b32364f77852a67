use Rattle.std.proofs.Common.{◌≡◌, ◌+◌, ◌++◌, length, [], ℕ, List, refl, ap, sym, subst, rules, ◌∙◌}
use Rattle.std.specs.List.{Contains}
use Rattle.am_group.specs.{AddsNoReceivers}
use Rattle.am_mount.specs.{mount_row}
use Rattle.am_propagate.specs.Copying.{rows_in, members_in}
use Rattle.am_propagate.specs.MountTable.{MountTable}
use Rattle.am_propagate.specs.{all_mounts, IsWhole, numbers_after, new_mounts, mounts_in, with_copy, AreCopies}
use Rattle.am_propagate.proofs.NamespaceLemmas.{with_copy_whole, with_copy_law, copy_grown}
use Rattle.am_propagate.proofs.CameLemmas.{copied_came}
use Rattle.am_propagate.proofs.NamespaceCopyLemmas.{copies_rise}
use Rattle.am_propagate.proofs.subtree.Subtree.copy_namespace.Goals as goal

pub add_copies-requires-clause-there : goal.add_copies-requires-clause-there
add_copies-requires-clause-there c m among =
    let there = (c.in_ok-mounts.ensures.every m).0 (subst (λ (xs : List ℕ). Contains xs m) c.as_slice.ensures.value among) in
    (there.0, ap (λ (x : MountTable). mount_row x.rows m) (sym c.self.view_is) ∙ there.1)

pub add_copies-requires-clause-whole : goal.add_copies-requires-clause-whole
add_copies-requires-clause-whole c =
    let t = c.args.self.now in
    let mounts = c.as_slice.result.now in
    let ns = c.self.inside.last_ns + 1 in
    let whole : IsWhole t = subst (λ (x : MountTable). IsWhole x) c.self.view_is c.self.invariant in
    let items : mounts ≡ mounts_in t c.args.ns = c.as_slice.ensures.value ∙ c.in_ok-mounts.ensures.exact ∙ ap (λ (x : MountTable). mounts_in x c.args.ns) c.self.view_is in
    let to : ns ≡ t.last_ns + 1 = ap (λ (x : MountTable). x.last_ns + 1) c.self.view_is in
    subst (λ (x : MountTable). IsWhole x)
    (sym (copy_grown t whole c.args.ns c.args.form mounts ns (rows_in t.last_mount mounts ns t.rows) (members_in c.args.form t.last_mount mounts t.groups.members) [] items to refl refl refl))
    (with_copy_whole t whole c.args.ns c.args.form)

pub returns-clause-ok : goal.returns-clause-ok
returns-clause-ok c =
    let t = c.args.self.now in
    let mounts = c.as_slice.result.now in
    let ns = c.self.inside.last_ns + 1 in
    let whole : IsWhole t = subst (λ (x : MountTable). IsWhole x) c.self.view_is c.self.invariant in
    let items : mounts ≡ mounts_in t c.args.ns = c.as_slice.ensures.value ∙ c.in_ok-mounts.ensures.exact ∙ ap (λ (x : MountTable). mounts_in x c.args.ns) c.self.view_is in
    let to : ns ≡ t.last_ns + 1 = ap (λ (x : MountTable). x.last_ns + 1) c.self.view_is in
    c.in_ok-add_copies.ensures.ok ∙
    copy_grown t whole c.args.ns c.args.form mounts ns (rows_in t.last_mount mounts ns t.rows) (members_in c.args.form t.last_mount mounts t.groups.members) [] items to refl refl refl

pub returns-clause-came : goal.returns-clause-came
returns-clause-came c =
    let t = c.args.self.now in
    let whole : IsWhole t = subst (λ (x : MountTable). IsWhole x) c.self.view_is c.self.invariant in
    let items : c.in_ok-mounts.mounts.items ≡ mounts_in t c.args.ns = c.in_ok-mounts.ensures.exact ∙ ap (λ (x : MountTable). mounts_in x c.args.ns) c.self.view_is in
    let many : c.len-2.result ≡ length c.in_ok-mounts.mounts.items = search rules in
    let numbers : c.in_ok-copies.copies.items ≡ numbers_after c.self.inside.last_mount c.len-2.result = c.in_ok-copies.ensures in
    let told : c.in_ok-copies.copies.items ≡ new_mounts t (length (mounts_in t c.args.ns)) =
    numbers ∙ ap (λ (x : MountTable). numbers_after x.last_mount c.len-2.result) c.self.view_is ∙
    ap (numbers_after t.last_mount) many ∙
    ap (λ (xs : List ℕ). numbers_after t.last_mount (length xs)) items
    in
    ap all_mounts (returns-clause-ok c) ∙ copied_came t whole c.args.ns c.args.form ∙ ap (λ (xs : List ℕ). all_mounts t ++ xs) (sym told)

pub returns-clause-law : goal.returns-clause-law
returns-clause-law c =
    let t = c.args.self.now in
    let whole : IsWhole t = subst (λ (x : MountTable). IsWhole x) c.self.view_is c.self.invariant in
    subst (λ (x : MountTable). AddsNoReceivers t.groups x.groups) (sym (returns-clause-ok c)) (with_copy_law t whole c.args.ns c.args.form)

pub returns-clause-copies : goal.returns-clause-copies
returns-clause-copies c =
    let t = c.args.self.now in
    let whole : IsWhole t = subst (λ (x : MountTable). IsWhole x) c.self.view_is c.self.invariant in
    let to : c.self.inside.last_ns + 1 ≡ t.last_ns + 1 = ap (λ (x : MountTable). x.last_ns + 1) c.self.view_is in
    subst (λ (x : MountTable). AreCopies c.args.form c.args.ns (c.self.inside.last_ns + 1) t x) (sym (returns-clause-ok c))
    (subst (λ (n : ℕ). AreCopies c.args.form c.args.ns n t (with_copy c.args.form c.args.ns t)) (sym to) (copies_rise t whole c.args.ns c.args.form))
