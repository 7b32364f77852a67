use Rattle.std.proofs.Common.{◌+◌, drop, ap, sym, ◌∙◌}
use Rattle.std.proofs.Math.Seq.{drop-append-add}
use Rattle.am_world.specs.{WorldTable}
use Rattle.am_world.proofs.world.World.seen_since.Goals as goal

pub returns : goal.returns
returns c =
    c.behind.ensures ∙ ap (drop c.args.before) c.as_slice.ensures.value
    ∙ sym (drop-append-add c.self.inside.handed.items c.self.inside.machine.trace.items c.args.before)
    ∙ ap (λ (t : WorldTable). drop (t.handed + c.args.before) t.trace) c.self.view_is
