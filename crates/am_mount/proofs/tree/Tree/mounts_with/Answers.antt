use Rattle.std.proofs.Common.{◌≡◌, ℕ, List, ap, subst, ◌∙◌}
use Rattle.am_mount.specs.{mounts_where, has_fs, watched, IsIfAny}
use Rattle.am_mount.proofs.IndexLemmas.{told_if_any}
use Rattle.am_mount.proofs.tree.Tree.mounts_with.Goals as goal

pub returns : goal.returns
returns c =
    let number = c.fs.inside.0 in
    let list = watched c.self.inside.indexes.by_fs number in
    let mounts : mounts_where (has_fs number) c.self.inside.rows.rows ≡ mounts_where (has_fs c.args.fs) c.args.self.now =
    ap (λ (n : ℕ). mounts_where (has_fs n) c.self.inside.rows.rows) c.fs.view_is ∙
    ap (mounts_where (has_fs c.args.fs)) c.self.view_is in
    told_if_any (λ told. told.now) (mounts_where (has_fs c.args.fs) c.args.self.now) list
    (subst (λ (xs : List ℕ). IsIfAny xs list) mounts (c.self.invariant.indexed.by_fs.lists number))
    c.list.result c.list.ensures.some
