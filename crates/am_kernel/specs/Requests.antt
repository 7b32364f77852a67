-- What the daemon asks of an attached file system (autofs.rst, "Communicating with autofs: root
-- directory ioctls"), and how a walker leaves a mount.
use Rattle.std.specs.Prelude.{ℕ, ◌==◌, Bool, false, not, List, [], ◌∷◌, map, filter, find, Option, Some, None, if◌then◌else◌}
use Rattle.std.specs.Option.{option_map}
use Rattle.am_names.specs.declared.errno.Errno.{Errno}
use Rattle.am_names.specs.declared.errno.Errno.TheVariants.{EPERM, EINVAL}
use Rattle.am_names.specs.declared.trigger.Trigger.{Trigger}
use Rattle.am_names.specs.{Status, OpenToken, TokenKind}
use Rattle.am_names.specs.declared.trigger.Status.TheVariants.{Ready, Fail}
use Rattle.am_names.specs.declared.row.TokenKind.TheVariants.{Missing, Expire}
use Rattle.am_trigger.specs.{FailureRows, with_failure, without_failure}
use Rattle.am_state.specs.{Obs, QueuedRow}
use Rattle.am_state.specs.declared.obs.Obs.TheVariants as seen
use Rattle.am_wait.specs.{token_of, waiters_of, answered}
use Rattle.am_expire.specs.{mount_of_walker, left}
use Rattle.am_kernel.specs.declared.row.Attached.{Attached}
use Rattle.am_kernel.specs.State.{KernelState}
use Rattle.am_kernel.specs.Lookups.{fs_of_attach, is_current}
use Rattle.am_kernel.specs.Observations.{releases}

-- ---- acknowledging a notification

-- the file system of an open token
abbrev pub token_fs : KernelState → ℕ → Option ℕ
token_fs k token = option_map (λ row. row.trigger.fs) (token_of k.waits.tokens token)

-- the number is there, and it is this one
abbrev pub is_number : Option ℕ → ℕ → Bool
is_number None n = false
is_number (Some m) n = m == n

-- the attachment is current, and the token is open and of its file system
abbrev pub answer_tests : Option ℕ → KernelState → ℕ → Option Errno
answer_tests None k token = Some EPERM
answer_tests (Some fs) k token = if is_number (token_fs k token) fs then None else Some EINVAL

-- the attachment is current; the token is open, and of its file system
abbrev pub answer_refusal : KernelState → ℕ → ℕ → Option Errno
answer_refusal k attach token = answer_tests (fs_of_attach k attach) k token

-- A mount that failed lasts from this moment on, and READY makes it good; what is acknowledged of an
-- expiry leaves what was: own choice (docs/DECISIONS.md, "A failure has a number, and may last").
abbrev pub settled : TokenKind → Trigger → Status → ℕ → FailureRows → FailureRows
settled Missing trigger Ready moment rows = without_failure trigger rows
settled Missing trigger (Fail error) moment rows =
    with_failure trigger (record { no = error; at = moment }) rows
settled Expire trigger status moment rows = rows

-- the same of a token that may not be open
abbrev pub settled_by : Option OpenToken → Status → ℕ → FailureRows → FailureRows
settled_by None status moment rows = rows
settled_by (Some row) status moment rows = settled row.kind row.trigger status moment rows

-- the token closes, its waiters are released with the status, and a failure lasts
abbrev pub acknowledged : ℕ → Status → KernelState → KernelState
acknowledged token status k = record k {
  waits = answered token status k.waits;
  failures = settled_by (token_of k.waits.tokens token) status k.latest k.failures;
}

-- this is seen of it
abbrev pub answering : ℕ → Status → KernelState → List Obs
answering token status k =
    seen.Answered token status ∷ releases token status (waiters_of k.waits.tokens token)

-- ---- the timeout of an autofs

-- the attachment is current for this file system
abbrev pub timeout_refusal : KernelState → ℕ → ℕ → Option Errno
timeout_refusal k attach fs = if is_current k fs attach then None else Some EPERM

-- the attachment of the file system has this timeout
abbrev pub timeout_row : ℕ → ℕ → Attached → Attached
timeout_row fs timeout row = if row.fs == fs then record row { timeout = timeout } else row

-- the file system has this timeout
abbrev pub with_timeout : ℕ → ℕ → KernelState → KernelState
with_timeout fs timeout k = record k { attached = map (timeout_row fs timeout) k.attached }

-- ---- the pipe

-- the packet of this token that is in a pipe
abbrev pub queued_of : List QueuedRow → ℕ → Option QueuedRow
queued_of queue token = find (λ row. row.token == token) queue

-- the packet of this token has been read
abbrev pub without_packet : ℕ → KernelState → KernelState
without_packet token k =
    record k { queue = filter (λ row. not (row.token == token)) k.queue }

-- ---- leaving a mount

-- this is seen of a walker that leaves the mount, if it is inside of one
abbrev pub leaving : Option ℕ → ℕ → List Obs
leaving None walker = []
leaving (Some mount) walker = seen.Left walker mount ∷ []

-- this is seen of a walker that leaves
abbrev pub leave_seen : KernelState → ℕ → List Obs
leave_seen k walker = leaving (mount_of_walker k.uses walker) walker

-- the walker is inside no mount
abbrev pub without_use : ℕ → KernelState → KernelState
without_use walker k = record k { uses = left walker k.uses }
