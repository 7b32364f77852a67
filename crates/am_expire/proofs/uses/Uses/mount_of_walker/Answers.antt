use Rattle.std.proofs.Common.{ap, ◌∙◌, List}
use Rattle.am_expire.specs.{Use, mount_of_walker}
use Rattle.am_expire.proofs.IndexLemmas.{lookup_is}
use Rattle.am_expire.proofs.uses.Uses.mount_of_walker.Goals as goal

pub returns : goal.returns
returns c =
    let walker = c.walker.inside.0 in
    rw (← c.walker.view_is)
    (c.copied.ensures ∙ c.get.ensures ∙ lookup_is walker c.self.inside.mounts.entries
    ∙ ap (λ (u : List Use). mount_of_walker u walker) c.self.view_is)
