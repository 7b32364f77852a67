use Rattle.std.proofs.Common.{◌≡◌, ◌==◌, None, sym, ◌∙◌}
use Rattle.am_wait.specs.{Seat, key_of}
use Rattle.am_wait.proofs.SeatLemmas.{no_key}
use Rattle.am_wait.proofs.CallLemmas.{all_kept}
use Rattle.am_wait.proofs.seats.take_wait.Goals as goal

pub returns-in_default-clause-seats : goal.returns-in_default-clause-seats
returns-in_default-clause-seats c =
    let seats = c.args.seats.now.rows in
    let none : key_of seats c.args.walker ≡ None = sym c.key_of.ensures ∙ c.in_default.is in
    sym (all_kept (λ (s : Seat). s.walker == c.args.walker) seats (no_key seats c.args.walker none))
