use Rattle.std.proofs.Common.{sym, ap, ◌∙◌}
use Rattle.am_wait.specs.{key_of}
use Rattle.am_wait.specs.Seating.{SeatTable}
use Rattle.am_wait.proofs.SeatingLemmas.{key_found}
use Rattle.am_wait.proofs.seating.Seating.key_of.Goals as goal

pub returns : goal.returns
returns c =
    let walker = c.walker.inside.0 in
    rw (← c.walker.view_is)
    (c.copied.ensures ∙ c.get.ensures.value ∙ sym (key_found c.self.inside.keys.entries walker)
    ∙ ap (λ (t : SeatTable). key_of t.rows walker) c.self.view_is)
