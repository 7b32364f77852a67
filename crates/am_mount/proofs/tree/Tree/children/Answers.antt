use Rattle.std.proofs.Common.{◌≡◌, ◌↔◌, ℕ, List, sym, ap, subst, ◌∙◌}
use Rattle.std.specs.List.{Contains}
use Rattle.std.specs.List.Sorted.{IsStrictlyIncreasing}
use Rattle.am_names.specs.{MountRow}
use Rattle.am_mount.specs.{IsRising, children_of, mounts_where, is_child, HasRow, IsOn}
use Rattle.am_mount.proofs.RowLemmas.{child_every, where_rises}
use Rattle.am_mount.proofs.IndexLemmas.{ok_copy}
use Rattle.am_mount.proofs.tree.Tree.children.Goals as goal

pub returns-clause-exact : goal.returns-clause-exact
returns-clause-exact c =
    let rows = c.args.self.now in
    let mounts = children_of c.self.inside.indexes.families c.mount.inside.0 in
    let listed : mounts ≡ mounts_where (is_child c.args.mount) rows =
    c.self.invariant.indexed.children c.mount.inside.0 ∙
    ap (λ (n : ℕ). mounts_where (is_child n) c.self.inside.rows.rows) c.mount.view_is ∙
    ap (mounts_where (is_child c.args.mount)) c.self.view_is in
    ok_copy (λ ys. ys ≡ mounts_where (is_child c.args.mount) rows) mounts c.mounts.result
    (listed)
    c.mounts.ensures

pub returns-clause-every : goal.returns-clause-every
returns-clause-every c =
    let rows = c.args.self.now in
    let mounts = children_of c.self.inside.indexes.families c.mount.inside.0 in
    let listed : mounts ≡ mounts_where (is_child c.args.mount) rows =
    c.self.invariant.indexed.children c.mount.inside.0 ∙
    ap (λ (n : ℕ). mounts_where (is_child n) c.self.inside.rows.rows) c.mount.view_is ∙
    ap (mounts_where (is_child c.args.mount)) c.self.view_is in
    let rises : IsRising rows = subst (λ (xs : List MountRow). IsRising xs) c.self.view_is c.self.invariant.rising in
    ok_copy (λ ys. (m : ℕ) → Contains ys m ↔ HasRow (IsOn c.args.mount) rows m) mounts c.mounts.result
    (λ m. subst (λ (xs : List ℕ). Contains xs m ↔ HasRow (IsOn c.args.mount) rows m) (sym listed) (child_every c.args.mount rows rises m))
    c.mounts.ensures

pub returns-clause-rising : goal.returns-clause-rising
returns-clause-rising c =
    let rows = c.args.self.now in
    let mounts = children_of c.self.inside.indexes.families c.mount.inside.0 in
    let listed : mounts ≡ mounts_where (is_child c.args.mount) rows =
    c.self.invariant.indexed.children c.mount.inside.0 ∙
    ap (λ (n : ℕ). mounts_where (is_child n) c.self.inside.rows.rows) c.mount.view_is ∙
    ap (mounts_where (is_child c.args.mount)) c.self.view_is in
    let rises : IsRising rows = subst (λ (xs : List MountRow). IsRising xs) c.self.view_is c.self.invariant.rising in
    ok_copy (λ ys. IsStrictlyIncreasing ys) mounts c.mounts.result
    (subst (λ (xs : List ℕ). IsStrictlyIncreasing xs) (sym listed) (where_rises (is_child c.args.mount) rows rises))
    c.mounts.ensures
