-- What the fields stand for, and how they hang together.
use Rattle.std.specs.Prelude.{◌≡◌, ◌≤◌, true, is_some, None, All, List}
use Rattle.slab.specs.Slab.{Slab}
use Rattle.am_names.specs.{WaitRow, RiseBy}
use Rattle.am_wait.specs.Rows.{WaitRows, token_of}
use Rattle.am_wait.specs.Invariant.{IsSound}
use Rattle.am_wait.specs.Seats.{waits_in, IsSeat}
use Rattle.am_wait.specs.Held.{tokens_in, HasKeys}
use Rattle.am_wait.specs.declared.seats.Seat.{Seat}
use Rattle.am_wait.specs.declared.held.HeldToken.{HeldToken}
use Rattle.am_wait.specs.declared.waits.Waits.TheInside.{Inside}

-- the fields as rows: each key is the wait that it leads to
abbrev pub rows_of : Inside → WaitRows
rows_of w = record {
  tokens = tokens_in w.slab w.tokens.items;
  waits = waits_in w.slab w.seats.rows;
  last_token = w.last_token;
  most_waits = w.most_waits;
  most_tokens = w.most_tokens;
}

-- the wait's token was given, and if the wait was released its token is closed
pub record IsSettled (w : WaitRows) (row : WaitRow) : Type 0 where
  pub given : row.token ≤ w.last_token
  pub closed : is_some row.status ≡ true → token_of w.tokens row.token ≡ None

-- seats, keys and the slab hang together
pub record IsLinked (slab : Slab WaitRow) (seats : List Seat) (tokens : List HeldToken) : Type 0 where
  pub rising : RiseBy (λ seat. seat.walker) 0 seats
  pub seated : All (IsSeat slab) seats
  pub held : All (HasKeys slab seats) tokens

-- tokens and waits agree, and so do seats, keys and the slab
pub record IsKept (w : Inside) : Type 0 where
  pub sound : IsSound (rows_of w)
  pub settled : All (IsSettled (rows_of w)) (rows_of w).waits
  pub linked : IsLinked w.slab w.seats.rows w.tokens.items
