use Rattle.std.proofs.Common.{ap, ◌∙◌}
use Rattle.am_wait.specs.{WaitRows, open_on}
use Rattle.am_wait.proofs.ViewLemmas.{held_open_on_is}
use Rattle.am_wait.proofs.waits.Waits.open_on.Goals as goal

pub returns : goal.returns
returns c =
    let i = c.self.inside in
    c.open_on.ensures
    ∙ held_open_on_is i.slab i.tokens.items c.args.kind c.args.trigger.now
    ∙ ap (λ (w : WaitRows). open_on w.tokens c.args.kind c.args.trigger.now) c.self.view_is
