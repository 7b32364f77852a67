use Rattle.std.proofs.Common.{◌≡◌, ℕ, List, sym, ap, subst}
use Rattle.std.specs.Prelude.{All}
use Rattle.am_wait.specs.{HasSameWait, Seat}
use Rattle.am_wait.specs.Seating.{SeatTable, seats_in}
use Rattle.am_wait.proofs.AlikeLemmas.{seats_where, entries_where}
use Rattle.am_wait.proofs.seating.Seating.are_same_waits.Goals as goal

pub returns : goal.returns
returns c =
    let P : ℕ → Type 0 = λ walker. HasSameWait c.args.slab.now c.args.self.now.rows c.args.others.now c.args.other.now.rows walker in
    let entries = c.self.inside.keys.entries in
    let is : seats_in entries ≡ c.args.self.now.rows = ap (λ (t : SeatTable). t.rows) c.self.view_is in
    let Each : List Seat → Type 0 = λ rows. All (λ (s : Seat). P s.walker) rows in
    (λ h. subst Each is (seats_where P entries (c.are_same_waits.ensures.0 h)), λ h. c.are_same_waits.ensures.1 (entries_where P entries (subst Each (sym is) h)))
