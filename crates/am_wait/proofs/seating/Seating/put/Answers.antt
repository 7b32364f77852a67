use Rattle.std.proofs.Common.{◌<◌, ap, ◌∙◌, arith}
use Rattle.indexmap.specs.IndexMap.{spare}
use Rattle.am_names.proofs.Basics.{holds_where_ok}
use Rattle.am_wait.specs.{Seat, with_seat}
use Rattle.am_wait.specs.Seating.{SeatTable, seats_in}
use Rattle.am_wait.proofs.SeatingLemmas.{seats_put}
use Rattle.am_wait.proofs.seating.Seating.put.Goals as goal

pub returns : goal.returns
returns c =
    let old = c.self.inside.keys.entries in
    let room : 0 < spare c.self.inside.keys = omega (arith, c.requires, ap (λ (t : SeatTable). t.room) c.self.view_is) in
    let updates = holds_where_ok c.insert-put.result (c.insert-put.ensures.succeeds room) c.insert-put.ensures.updates in
    seats_put _ old c.insert-put.new.self.entries updates.0
    ∙ ap (λ (s : Seat). with_seat s (seats_in old)) c.seat.view_is
    ∙ ap (λ (t : SeatTable). with_seat c.args.seat t.rows) c.self.view_is
