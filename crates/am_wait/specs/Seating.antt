-- The key of the wait of each walker as a table: own choice (docs/DECISIONS.md, "An open token has
-- its waiters, and waits are rows that rise by walker").
use Rattle.std.specs.Prelude.{ℕ, List, [], ◌∷◌}
use Rattle.indexmap.specs.IndexMap.{spare}
use Rattle.am_wait.specs.declared.seats.Seat.{Seat}
use Rattle.am_wait.specs.Seats.{with_seat, seat_at}
use Rattle.am_wait.specs.declared.seating.Seating.TheInside.{Inside}

-- the seats of all walkers that have a wait, and for how many more there is room
pub record SeatTable : Type 0 where
  -- in rising order of walkers
  pub rows : List Seat
  pub room : ℕ

-- each walker with its key, in rising order of walkers
abbrev pub seats_in : List (ℕ × ℕ) → List Seat
seats_in [] = []
seats_in (entry ∷ entries) = with_seat (seat_at entry.0 entry.1) (seats_in entries)

-- the table that the field holds
abbrev pub table_of : Inside → SeatTable
table_of s = record { rows = seats_in s.keys.entries; room = spare s.keys }
