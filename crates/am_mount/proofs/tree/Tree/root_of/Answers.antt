use Rattle.std.proofs.Common.{List, ap, ◌∙◌}
use Rattle.std.specs.Prelude.{find}
use Rattle.am_names.specs.{MountRow}
use Rattle.am_mount.specs.{stands_alone, root_of}
use Rattle.am_mount.proofs.IndexLemmas.{root_in_ns}
use Rattle.am_mount.proofs.tree.Tree.root_of.Goals as goal

pub returns : goal.returns
returns c =
    let rows = c.self.inside.rows.rows in
    let number = c.ns.inside.0 in
    c.first_alone.ensures ∙
    ap (λ (xs : List MountRow). find (λ m. stands_alone xs m) c.list.result.now) c.as_slice.ensures.value ∙
    root_in_ns rows c.self.invariant.rising number c.list.result.now (c.list.ensures ∙ c.self.invariant.indexed.by_ns number) ∙
    ap (root_of rows) c.ns.view_is ∙
    ap (λ (xs : List MountRow). root_of xs c.args.ns) c.self.view_is
