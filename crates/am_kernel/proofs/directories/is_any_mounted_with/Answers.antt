use Rattle.std.proofs.Common.{◌==◌, ◌&&◌, sym, ◌∙◌, rules, tests}
use Rattle.std.specs.Prelude.{is_some}
use Rattle.std.proofs.lemmas.Iterator.{YieldsList-from_slice}
use Rattle.std.proofs.lemmas.Iterator.Search.{any_from_yields_List}
use Rattle.am_names.specs.{MountRow, names_of}
use Rattle.am_mount.specs.{top_of}
use Rattle.am_kernel.proofs.ListedLemmas.{any_with}
use Rattle.am_kernel.proofs.directories.is_any_mounted_with.Goals as goal

pub returns : goal.returns
returns c =
    let rows = c.args.tree.now in
    let names = names_of c.args.place.now in
    any_from_yields_List
    (λ (row : MountRow). row.fs == c.args.fs && is_some (top_of rows row.mount names)) _ _ _
    c.any.ensures.ran (YieldsList-from_slice rows cc) (λ x b q k. search (rules, tests)) ∙
    sym (any_with c.args.fs (λ m. is_some (top_of rows m names)) rows)
