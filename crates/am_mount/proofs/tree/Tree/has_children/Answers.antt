use Rattle.std.proofs.Common.{ℕ, List, length, not, ap, ◌∙◌}
use Rattle.std.specs.Prelude.{◌==◌}
use Rattle.std.specs.List.{list_any}
use Rattle.am_mount.specs.{is_child}
use Rattle.am_mount.proofs.IndexLemmas.{any_where}
use Rattle.am_mount.proofs.tree.Tree.has_children.Goals as goal

pub returns : goal.returns
returns c =
    let number = c.mount.inside.0 in
    let rows = c.self.inside.rows.rows in
    ap not c.is_childless.ensures ∙
    ap (λ (xs : List ℕ). not (length xs == 0)) (c.self.invariant.indexed.children number) ∙
    any_where (is_child number) rows ∙
    ap (λ (n : ℕ). list_any (is_child n) rows) c.mount.view_is ∙
    ap (list_any (is_child c.args.mount)) c.self.view_is
