-- What tokens and waits keep (autofs.rst, "Communicating with autofs: the event pipe").
use Rattle.std.specs.Prelude.{◌≡◌, ◌≤◌, ◌==◌, ◌&&◌, ℕ, Bool, false, is_none, List, [], ◌∷◌, Option, Some, None}
use Rattle.am_names.specs.{is_among, RiseBy, OpenToken, WaitRow}
use Rattle.am_wait.specs.Rows.{WaitRows, token_of, wait_of, waiters_of}

-- no token is above the last that was given
abbrev pub NumbersAreAllocated : ℕ → List OpenToken → Type 0
NumbersAreAllocated last [] = Unit {0}
NumbersAreAllocated last (row ∷ rows) = (row.token ≤ last) × NumbersAreAllocated last rows

-- the wait is on this token, and was not released yet
abbrev pub is_waiting_on : ℕ → Option WaitRow → Bool
is_waiting_on token None = false
is_waiting_on token (Some row) = row.token == token && is_none row.status

-- a wait that was not released is on an open token, which is for the same trigger and of the same
-- kind
abbrev pub IsOnOpen : List OpenToken → WaitRow → Type 0
IsOnOpen tokens row =
    row.status ≡ None →
    (its : OpenToken) ×
    (token_of tokens row.token ≡ Some its) × (its.trigger ≡ row.trigger) × (its.kind ≡ row.kind)

-- tokens and waits agree
pub record IsSound (w : WaitRows) : Type 0 where
  -- each walker has one wait at most
  pub waits : RiseBy (λ row. row.walker) 0 w.waits
  -- the open tokens are different ones, and all were given
  pub tokens : RiseBy (λ row. row.token) 0 w.tokens
  pub given : NumbersAreAllocated w.last_token w.tokens
  -- a token's waiters are those whose wait is on it and was not released yet
  pub agree : (token walker : ℕ) →
      is_among (waiters_of w.tokens token) walker ≡ is_waiting_on token (wait_of w.waits walker)
  pub same : (walker : ℕ) (row : WaitRow) →
      wait_of w.waits walker ≡ Some row → IsOnOpen w.tokens row
