use Rattle.std.proofs.Common.{length, sym, ap, ◌∙◌}
use Rattle.am_wait.specs.Seating.{SeatTable}
use Rattle.am_wait.proofs.SeatingLemmas.{seats_counted}
use Rattle.am_wait.proofs.seating.Seating.len.Goals as goal

pub returns : goal.returns
returns c =
    c.len.ensures.len ∙ sym (seats_counted c.self.inside.keys.entries c.len.ensures.unique)
    ∙ ap (λ (t : SeatTable). length t.rows) c.self.view_is
