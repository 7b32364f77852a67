-- Open tokens with the keys of their waiters: own choice (docs/DECISIONS.md, "An open token has its
-- waiters, and waits are rows that rise by walker").
use Rattle.std.specs.Prelude.{◌≡◌, ℕ, ◌==◌, Bool, not, ◌&&◌, List, [], ◌∷◌, ◌++◌, map, filter, find, Option, Some, All, if◌then◌else◌}
use Rattle.std.specs.Option.{option_map}
use Rattle.slab.specs.Slab.{Slab}
use Rattle.am_names.specs.{same_trigger, OpenToken, WaitRow, TokenKind}
use Rattle.am_names.specs.declared.trigger.Trigger.{Trigger}
use Rattle.am_wait.specs.declared.seats.Seat.{Seat}
use Rattle.am_wait.specs.declared.held.HeldToken.{HeldToken}
use Rattle.am_wait.specs.Rows.{same_kind}
use Rattle.am_wait.specs.Seats.{row_at, key_of, walkers_at}

-- the row of a token, if it is open
abbrev pub held_of : List HeldToken → ℕ → Option HeldToken
held_of tokens token = find (λ row. row.token == token) tokens

-- the token isn't open any more
abbrev pub without_held : ℕ → List HeldToken → List HeldToken
without_held token tokens = filter (λ row. not (row.token == token)) tokens

-- it is a token of this kind for the trigger
abbrev pub is_held_on : TokenKind → Trigger → HeldToken → Bool
is_held_on kind trigger row = same_trigger row.trigger trigger && same_kind row.kind kind

-- the open token of this kind for a trigger
abbrev pub held_open_on : List HeldToken → TokenKind → Trigger → Option ℕ
held_open_on tokens kind trigger =
    option_map (λ row. row.token) (find (λ row. is_held_on kind trigger row) tokens)

-- the open tokens of a file system
abbrev pub held_tokens_of : List HeldToken → ℕ → List ℕ
held_tokens_of tokens fs = map (λ row. row.token) (filter (λ row. row.trigger.fs == fs) tokens)

-- the key is the last in the row
abbrev pub joined_key : HeldToken → ℕ → HeldToken
joined_key row key = record row { keys = row.keys ++ key ∷ [] }

-- the key is the last in the row of this token
abbrev pub with_key : ℕ → ℕ → List HeldToken → List HeldToken
with_key token key [] = []
with_key token key (row ∷ tokens) =
    if row.token == token then joined_key row key ∷ tokens
    else row ∷ with_key token key tokens

-- a token with one waiter
abbrev pub held_row : ℕ → Trigger → TokenKind → ℕ → HeldToken
held_row token trigger kind key =
    record { token = token; trigger = trigger; kind = kind; keys = key ∷ [] }

-- the token's row, with the waits in place of their keys
abbrev pub token_in : Slab WaitRow → HeldToken → OpenToken
token_in slab row = record { token = row.token; trigger = row.trigger; kind = row.kind; waiters = walkers_at slab row.keys }

-- the rows of all tokens, with the waits in place of their keys
abbrev pub tokens_in : Slab WaitRow → List HeldToken → List OpenToken
tokens_in slab tokens = map (token_in slab) tokens

-- each key is that of the walker whose wait is there
abbrev pub HasKeys : Slab WaitRow → List Seat → HeldToken → Type 0
HasKeys slab seats row = All (λ key. key_of seats (row_at slab key).walker ≡ Some key) row.keys
