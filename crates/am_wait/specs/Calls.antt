-- The calls: their tests in order, and what they leave (autofs.rst, "Communicating with autofs:
-- root directory ioctls").
use Rattle.std.specs.Prelude.{ℕ, ◌==◌, ◌+◌, nat_le, Bool, false, ◌&&◌, not, is_some, is_none, [], ◌∷◌, ◌++◌, map, filter, length, Option, Some, None, if◌then◌else◌}
use Rattle.am_names.specs.declared.errno.Errno.{Errno}
use Rattle.am_names.specs.declared.errno.Errno.TheVariants.{EINVAL, ENOSPC, NotReleased}
use Rattle.am_names.specs.declared.fail_no.FailNo.TheVariants.{ENOENT}
use Rattle.am_names.specs.declared.trigger.Trigger.{Trigger}
use Rattle.am_names.specs.{Status, OpenToken, WaitRow, TokenKind}
use Rattle.am_names.specs.declared.trigger.Status.TheVariants.{Fail}
use Rattle.am_wait.specs.Rows.{WaitRows, token_of, wait_of, with_wait, without_wait, with_waiter, without_token}

-- the numbers of tokens are exhausted
abbrev pub is_exhausted : WaitRows → Bool
is_exhausted w = nat_le w.most_tokens w.last_token

-- as many wait as may; one that was released counts until it collects its status
abbrev pub is_full : WaitRows → Bool
is_full w = nat_le w.most_waits (length w.waits)

-- the tests of `open`: the walker has no wait, a token is left, and a place among the waits
abbrev pub open_refusal : ℕ → WaitRows → Option Errno
open_refusal walker w =
    if is_some (wait_of w.waits walker) then Some EINVAL
    else if is_exhausted w then Some ENOSPC
    else if is_full w then Some ENOSPC
    else None

-- a wait that nobody has answered yet
abbrev pub waiting_on : ℕ → Trigger → TokenKind → ℕ → WaitRow
waiting_on token trigger kind walker =
    record { walker = walker; token = token; trigger = trigger; kind = kind; status = None }

-- the next token is open, and the walker is the first that waits on it
abbrev pub opened : Trigger → TokenKind → ℕ → WaitRows → WaitRows
opened trigger kind walker w =
    let token = w.last_token + 1 in
    let row : OpenToken = record { token = token; trigger = trigger; kind = kind; waiters = walker ∷ [] } in
    record w {
      tokens = w.tokens ++ row ∷ [];
      waits = with_wait (waiting_on token trigger kind walker) w.waits;
      last_token = token;
    }

-- the tests of `join`: the walker has no wait, the token is open, a place is left among the waits
abbrev pub join_refusal : ℕ → ℕ → WaitRows → Option Errno
join_refusal token walker w =
    if is_some (wait_of w.waits walker) then Some EINVAL
    else if is_none (token_of w.tokens token) then Some EINVAL
    else if is_full w then Some ENOSPC
    else None

-- the walker is the last that waits on this token, which is open
abbrev pub joined_on : Option OpenToken → ℕ → ℕ → WaitRows → WaitRows
joined_on None token walker w = w
joined_on (Some row) token walker w = record w {
  tokens = with_waiter token walker w.tokens;
  waits = with_wait (waiting_on token row.trigger row.kind walker) w.waits;
}

-- the walker is the last that waits on an open token
abbrev pub joined : ℕ → ℕ → WaitRows → WaitRows
joined token walker w = joined_on (token_of w.tokens token) token walker w

-- the test of `answer`: the token is open
abbrev pub answer_refusal : ℕ → WaitRows → Option Errno
answer_refusal token w = if is_some (token_of w.tokens token) then None else Some EINVAL

-- a wait on this token has the status
abbrev pub released_row : ℕ → Status → WaitRow → WaitRow
released_row token status row =
    if row.token == token then record row { status = Some status } else row

-- the token closes, and each of its waiters has the status
abbrev pub answered : ℕ → Status → WaitRows → WaitRows
answered token status w = record w {
  tokens = without_token token w.tokens;
  waits = map (released_row token status) w.waits;
}

-- a wait on a token of the file system that has no status yet has FAIL, with ENOENT
abbrev pub failed_row : ℕ → WaitRow → WaitRow
failed_row fs row =
    if row.trigger.fs == fs && is_none row.status then record row { status = Some (Fail ENOENT) } else row

-- all tokens of the file system close, and whoever still waits on one has the status FAIL, with ENOENT
-- (autofs.rst, "Catatonic mode")
abbrev pub fs_released : ℕ → WaitRows → WaitRows
fs_released fs w = record w {
  tokens = filter (λ row. not (row.trigger.fs == fs)) w.tokens;
  waits = map (failed_row fs) w.waits;
}

-- a wait without a status was not released
abbrev pub status_refusal : Option Status → Option Errno
status_refusal None = Some NotReleased
status_refusal (Some status) = None

-- there is a wait, and it was released
abbrev pub wait_refusal : Option WaitRow → Option Errno
wait_refusal None = Some EINVAL
wait_refusal (Some row) = status_refusal row.status

-- the tests of `collect`: the walker has a wait, and it was released
abbrev pub collect_refusal : ℕ → WaitRows → Option Errno
collect_refusal walker w = wait_refusal (wait_of w.waits walker)

-- the status of a wait, if it was released
abbrev pub status_in : Option WaitRow → Option Status
status_in None = None
status_in (Some row) = row.status

-- the status with which a walker was released
abbrev pub status_of : ℕ → WaitRows → Option Status
status_of walker w = status_in (wait_of w.waits walker)

-- the wait counts no more
abbrev pub collected : ℕ → WaitRows → WaitRows
collected walker w = record w { waits = without_wait walker w.waits }

-- ---- waiting again: the walker's wait was released, and is collected in the same step

-- the walker has a wait that was not released
abbrev pub still_waits : Option WaitRow → Bool
still_waits None = false
still_waits (Some row) = is_none row.status

-- the tests of `reopen`: the walker waits no longer, a token is left, and with its wait collected a
-- place among the waits
abbrev pub reopen_refusal : ℕ → WaitRows → Option Errno
reopen_refusal walker w =
    if still_waits (wait_of w.waits walker) then Some EINVAL
    else if is_exhausted w then Some ENOSPC
    else if is_full (collected walker w) then Some ENOSPC
    else None

-- its wait is collected, and it opens the next token
abbrev pub reopened : Trigger → TokenKind → ℕ → WaitRows → WaitRows
reopened trigger kind walker w = opened trigger kind walker (collected walker w)

-- the tests of `rejoin`: the walker waits no longer, the token is open, and with its wait collected
-- a place is left among the waits
abbrev pub rejoin_refusal : ℕ → ℕ → WaitRows → Option Errno
rejoin_refusal token walker w =
    if still_waits (wait_of w.waits walker) then Some EINVAL
    else if is_none (token_of w.tokens token) then Some EINVAL
    else if is_full (collected walker w) then Some ENOSPC
    else None

-- its wait is collected, and it joins those that wait on an open token
abbrev pub rejoined : ℕ → ℕ → WaitRows → WaitRows
rejoined token walker w = joined token walker (collected walker w)
