use Rattle.std.proofs.Common.{◌≡◌, ◌∷◌, ◌++◌, [], slice_get, Some, sym}
use Rattle.indexmap.specs.IndexMap.{values}
use Rattle.am_mount.specs.Index.{listed_in}
use Rattle.am_index.proofs.EntryLemmas.{changed}
use Rattle.am_mount.proofs.index.Index.add.Goals as goal

pub returns-in-Some : goal.returns-in-Some
returns-in-Some c =
    let lists = c.args.self.now.lists in
    let here : slice_get (values lists) c.args.place ≡ Some c.in-Some.list.now =
    sym c.in-Some.ensures.value in
    λ n stands.
    changed listed_in lists c.in-Some.ensures.unique c.args.place n c.in-Some.list.now stands here
    (λ mounts. mounts ++ c.args.mount ∷ []) c.push_reserved.new.self c.push_reserved.ensures
