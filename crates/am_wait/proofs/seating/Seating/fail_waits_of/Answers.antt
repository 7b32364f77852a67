use Rattle.std.proofs.Common.{Bool, cond, sym, ap, ◌∙◌}
use Rattle.std.specs.Option.{option_map}
use Rattle.slab.specs.Slab.{get}
use Rattle.am_wait.specs.{failed_row, sits_at}
use Rattle.am_wait.specs.Seating.{SeatTable}
use Rattle.am_wait.proofs.SeatingLemmas.{sits_found}
use Rattle.am_wait.proofs.seating.Seating.fail_waits_of.Goals as goal

pub returns : goal.returns
returns c key =
    c.fail_waits_at.ensures key
    ∙ ap (λ (b : Bool). cond b (option_map (failed_row c.args.fs) (get c.args.slab.now key)) (get c.args.slab.now key))
    (sym (sits_found c.self.inside.keys.entries key c.len-walkers.ensures.unique) ∙ ap (λ (t : SeatTable). sits_at t.rows key) c.self.view_is)
