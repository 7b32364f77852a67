-- Open tokens and waits as rows (autofs.rst, "Communicating with autofs: the event pipe"; Linux: the
-- wait queues of fs/autofs/waitq.c).
use Rattle.std.specs.Prelude.{ℕ, ◌==◌, nat_lt, Bool, true, false, not, ◌&&◌, List, [], ◌∷◌, ◌++◌, map, filter, find, Option, Some, None, if◌then◌else◌}
use Rattle.std.specs.Option.{option_map}
use Rattle.am_names.specs.{same_trigger, OpenToken, WaitRow, TokenKind}
use Rattle.am_names.specs.declared.trigger.Trigger.{Trigger}
use Rattle.am_names.specs.declared.row.TokenKind.TheVariants.{Missing, Expire}

-- the open tokens, the waits, and how many there may be of each
pub record WaitRows : Type 0 where
  -- the open tokens, in rising order, each with its waiters in the order in which they joined
  pub tokens : List OpenToken
  -- for each walker that waits, or has not collected its status yet, its wait; in rising order of
  -- walkers
  pub waits : List WaitRow
  -- the greatest token that was ever given; 0 for none
  pub last_token : ℕ
  -- the most waits at one time, and the greatest token
  pub most_waits : ℕ
  pub most_tokens : ℕ

-- nobody waits, and no token was ever given
abbrev pub no_waits : ℕ → ℕ → WaitRows
no_waits waiters tokens =
    record { tokens = []; waits = []; last_token = 0; most_waits = waiters; most_tokens = tokens }

-- both ask for a mount, or both for an expiry
abbrev pub same_kind : TokenKind → TokenKind → Bool
same_kind Missing Missing = true
same_kind Expire Expire = true
same_kind Missing Expire = false
same_kind Expire Missing = false

-- it is a token of this kind for the trigger
abbrev pub is_open_on : TokenKind → Trigger → OpenToken → Bool
is_open_on kind trigger row = same_trigger row.trigger trigger && same_kind row.kind kind

-- the open token of this kind for a trigger
abbrev pub open_on : List OpenToken → TokenKind → Trigger → Option ℕ
open_on tokens kind trigger =
    option_map (λ row. row.token) (find (λ row. is_open_on kind trigger row) tokens)

-- the row of a token, if it is open
abbrev pub token_of : List OpenToken → ℕ → Option OpenToken
token_of tokens token = find (λ row. row.token == token) tokens

-- the wait of a walker
abbrev pub wait_of : List WaitRow → ℕ → Option WaitRow
wait_of waits walker = find (λ row. row.walker == walker) waits

-- the waiters in a row, if there is one
abbrev pub waiters_in : Option OpenToken → List ℕ
waiters_in None = []
waiters_in (Some row) = row.waiters

-- the waiters of a token, in the order in which they joined
abbrev pub waiters_of : List OpenToken → ℕ → List ℕ
waiters_of tokens token = waiters_in (token_of tokens token)

-- the open tokens of a file system, in rising order
abbrev pub tokens_of : List OpenToken → ℕ → List ℕ
tokens_of tokens fs = map (λ row. row.token) (filter (λ row. row.trigger.fs == fs) tokens)

-- in a list that rises by walkers, this row is that of its walker
abbrev pub with_wait : WaitRow → List WaitRow → List WaitRow
with_wait row waits =
    filter (λ other. nat_lt other.walker row.walker) waits ++
    row ∷ filter (λ other. nat_lt row.walker other.walker) waits

-- the wait of the walker has gone
abbrev pub without_wait : ℕ → List WaitRow → List WaitRow
without_wait walker waits = filter (λ row. not (row.walker == walker)) waits

-- the walker is the last in the row
abbrev pub joined_row : OpenToken → ℕ → OpenToken
joined_row row walker = record row { waiters = row.waiters ++ walker ∷ [] }

-- the walker is the last in the row of waiters of this token
abbrev pub with_waiter : ℕ → ℕ → List OpenToken → List OpenToken
with_waiter token walker [] = []
with_waiter token walker (row ∷ tokens) =
    if row.token == token then joined_row row walker ∷ tokens
    else row ∷ with_waiter token walker tokens

-- the token isn't open any more
abbrev pub without_token : ℕ → List OpenToken → List OpenToken
without_token token tokens = filter (λ row. not (row.token == token)) tokens
