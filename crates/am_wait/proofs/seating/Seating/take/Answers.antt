use Rattle.std.proofs.Common.{ap, ◌∙◌}
use Rattle.am_wait.specs.{without_seat}
use Rattle.am_wait.specs.Seating.{SeatTable}
use Rattle.am_wait.proofs.SeatingLemmas.{seats_taken}
use Rattle.am_wait.proofs.seating.Seating.take.Goals as goal

pub returns-clause-rows : goal.returns-clause-rows
returns-clause-rows c =
    let walker = c.walker.inside.0 in
    rw (← c.walker.view_is)
    (seats_taken walker c.self.inside.keys.entries c.swap_remove-taken.new.self.entries c.swap_remove-taken.ensures.updates.0
    ∙ ap (λ (t : SeatTable). without_seat walker t.rows) c.self.view_is)
