use Rattle.std.proofs.Common.{ap, ◌∙◌, List}
use Rattle.am_expire.specs.{Use, use_count}
use Rattle.am_expire.proofs.uses.Uses.count.Goals as goal

pub returns : goal.returns
returns c =
    c.counted.ensures ∙ c.self.invariant.counts c.args.mount
    ∙ ap (λ (u : List Use). use_count u c.args.mount) c.self.view_is
