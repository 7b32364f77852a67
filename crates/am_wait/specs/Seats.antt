-- Waits in a slab, each at the key of its walker: own choice (docs/DECISIONS.md, "An open token has
-- its waiters, and waits are rows that rise by walker").
use Rattle.std.specs.Prelude.{◌≡◌, ℕ, ◌==◌, nat_lt, Bool, false, not, List, ◌∷◌, ◌++◌, map, filter, find, Option, Some, None, is_some, if◌then◌else◌}
use Rattle.std.specs.Option.{option_map}
use Rattle.std.specs.List.{list_any}
use Rattle.slab.specs.Slab.{Slab, get}
use Rattle.am_names.specs.{WaitRow, Status}
use Rattle.am_names.specs.declared.row.TokenKind.TheVariants.{Missing}
use Rattle.am_wait.specs.declared.seats.Seat.{Seat}

-- the seat of a walker
abbrev pub seat_of : List Seat → ℕ → Option Seat
seat_of seats walker = find (λ seat. seat.walker == walker) seats

-- the key of the wait of a walker
abbrev pub key_of : List Seat → ℕ → Option ℕ
key_of seats walker = option_map (λ seat. seat.key) (seat_of seats walker)

-- the walker has no seat any more
abbrev pub without_seat : ℕ → List Seat → List Seat
without_seat walker seats = filter (λ seat. not (seat.walker == walker)) seats

-- in a list that rises by walkers, this seat is that of its walker
abbrev pub with_seat : Seat → List Seat → List Seat
with_seat seat seats =
    filter (λ other. nat_lt other.walker seat.walker) seats ++
    seat ∷ filter (λ other. nat_lt seat.walker other.walker) seats

-- the wait was released with this status
abbrev pub with_status : Status → WaitRow → WaitRow
with_status status row = record row { status = Some status }

-- the key is one of these
abbrev pub among_keys : List ℕ → ℕ → Bool
among_keys keys key = list_any (λ other. other == key) keys

-- one of these seats has this key
abbrev pub sits_at : List Seat → ℕ → Bool
sits_at seats key = list_any (λ seat. seat.key == key) seats

-- the walker's seat is at this key
abbrev pub seat_at : ℕ → ℕ → Seat
seat_at walker key = record { walker = walker; key = key }

-- the key is the one that was given back
abbrev pub frees : Option ℕ → ℕ → Bool
frees None key = false
frees (Some freed) key = freed == key

-- in place of the wait at a key that is free
abbrev pub no_row : WaitRow
no_row = record { walker = 0; token = 0; trigger = record { fs = 0; name = None }; kind = Missing; status = None }

-- the wait that was found, or what stands for none
abbrev pub row_in : Option WaitRow → WaitRow
row_in None = no_row
row_in (Some row) = row

-- the wait at a key
abbrev pub row_at : Slab WaitRow → ℕ → WaitRow
row_at slab key = row_in (get slab key)

-- the walkers whose waits are at these keys
abbrev pub walkers_at : Slab WaitRow → List ℕ → List ℕ
walkers_at slab keys = map (λ key. (row_at slab key).walker) keys

-- the key that is given back, if a wait is there, or else the one that is free next
abbrev pub next_by : Option ℕ → Slab WaitRow → ℕ
next_by None slab = slab.vacant_key
next_by (Some key) slab = if is_some (get slab key) then key else slab.vacant_key

-- the key that the next wait of a walker gets, once the wait that it has is taken away
abbrev pub next_key : List Seat → Slab WaitRow → ℕ → ℕ
next_key seats slab walker = next_by (key_of seats walker) slab

-- the waits to which the seats lead
abbrev pub waits_in : Slab WaitRow → List Seat → List WaitRow
waits_in slab seats = map (λ seat. row_at slab seat.key) seats

-- the seat leads to the wait of its walker
abbrev pub IsSeat : Slab WaitRow → Seat → Type 0
IsSeat slab seat = (row : WaitRow) × (get slab seat.key ≡ Some row) × (row.walker ≡ seat.walker)

-- the wait at a key, if there is one
abbrev pub wait_at : Slab WaitRow → Option ℕ → Option WaitRow
wait_at slab None = None
wait_at slab (Some key) = get slab key

-- the wait of a walker, by its seat
abbrev pub its_wait : Slab WaitRow → List Seat → ℕ → Option WaitRow
its_wait slab seats walker = wait_at slab (key_of seats walker)

-- the walker has the same wait by its seat here as by its seat there
abbrev pub HasSameWait : Slab WaitRow → List Seat → Slab WaitRow → List Seat → ℕ → Type 0
HasSameWait slab seats others other_seats walker =
    its_wait slab seats walker ≡ its_wait others other_seats walker
