-- A walker asks for the expiry of what was not used for long: AUTOFS_IOC_EXPIRE_MULTI
-- (autofs.rst, "Mountpoint expiry" and "Communicating with autofs: root directory ioctls").
use Rattle.std.specs.Prelude.{ℕ, ◌+◌, ◌==◌, Bool, is_none, [], ◌∷◌, ◌++◌, find, Option, Some, None, if◌then◌else◌}
use Rattle.am_names.specs.declared.errno.Errno.TheVariants.{ENOENT, EINVAL, EAGAIN, ENOSPC}
use Rattle.am_names.specs.declared.trigger.Trigger.{Trigger}
use Rattle.am_names.specs.{PipeState}
use Rattle.am_names.specs.declared.trigger.PipeState.TheVariants.{Room, Full, Gone}
use Rattle.am_names.specs.declared.row.TokenKind.TheVariants.{Expire}
use Rattle.am_state.specs.declared.obs.Obs.TheVariants as seen
use Rattle.am_trigger.specs.{autofs_of}
use Rattle.am_wait.specs.{is_exhausted, is_full, opened}
use Rattle.am_expire.specs.{Expiry, pick_of}
use Rattle.am_kernel.specs.declared.row.Attached.{Attached}
use Rattle.am_kernel.specs.declared.progress.Progress.TheVariants.{Waits, Failed}
use Rattle.am_kernel.specs.State.{KernelState}
use Rattle.am_kernel.specs.Lookups.{attach_of, is_busy}
use Rattle.am_kernel.specs.CallOutcome.{CallOutcome, Proceeds, Fails, moment_of, at_moment}
use Rattle.am_kernel.specs.Walks.{packet_for}
use Rattle.am_kernel.specs.Catatonic.{catatonic_observations, made_catatonic}

-- ---- what is to expire

-- the attachment of the file system, also one that has ended
abbrev pub attached_of : KernelState → ℕ → Option Attached
attached_of k fs = find (λ row. row.fs == fs) k.attached

-- the timeout of the attachment, 0 where there is none
abbrev pub timeout_in : Option Attached → ℕ
timeout_in None = 0
timeout_in (Some row) = row.timeout

-- the timeout of the file system, in seconds
abbrev pub timeout_of : KernelState → ℕ → ℕ
timeout_of k fs = timeout_in (attached_of k fs)

-- what decides
abbrev pub expiry_of : KernelState → ℕ → ℕ → Bool → Expiry
expiry_of k fs moment immediate = record {
  table = k.table;
  triggers = k.triggers;
  waits = k.waits;
  uses = k.uses;
  fs = fs;
  timeout = timeout_of k fs;
  moment = moment;
  immediate = immediate;
}

-- the trigger of the file system that expires next
abbrev pub next_of : KernelState → ℕ → ℕ → Bool → Option Trigger
next_of k fs moment immediate = pick_of (expiry_of k fs moment immediate)

-- ---- what comes of it

-- a token is opened for the trigger, its packet is queued, and the caller waits on it; it walks
-- nowhere, and being told of is no use of the trigger
abbrev pub with_expiring : ℕ → Trigger → ℕ → KernelState → KernelState
with_expiring walker trigger attach k =
    let token = k.waits.last_token + 1 in
    let packet = packet_for Expire token walker trigger in
    record k {
      waits = opened trigger Expire walker k.waits;
      queue = k.queue ++ (record { token = token; attach = attach; packet = packet }) ∷ [];
    }

-- the expiry begins: its packet is queued, and the caller waits
abbrev pub expires : KernelState → ℕ → Trigger → ℕ → CallOutcome
expires k walker trigger attach =
    let token = k.waits.last_token + 1 in
    let packet = packet_for Expire token walker trigger in
    Proceeds (Waits token) (seen.Queued token attach packet ∷ seen.Waits walker token ∷ [])
    (with_expiring walker trigger attach k)

-- by what the pipe does with one more packet
abbrev pub expires_by : PipeState → KernelState → ℕ → Trigger → ℕ → CallOutcome
expires_by Room k walker trigger attach = expires k walker trigger attach
expires_by Full k walker trigger attach = Fails EAGAIN
expires_by Gone k walker trigger attach =
    Proceeds (Failed ENOENT) (catatonic_observations trigger.fs k) (made_catatonic trigger.fs k)

-- there is one that may expire; tokens are left, then waits, and then there is the pipe
abbrev pub expires_next : Option Trigger → PipeState → KernelState → ℕ → ℕ → CallOutcome
expires_next None pipe k walker attach = Fails EAGAIN
expires_next (Some trigger) pipe k walker attach =
    if is_exhausted k.waits then Fails ENOSPC
    else if is_full k.waits then Fails ENOSPC
    else expires_by pipe k walker trigger attach

-- a daemon is attached
abbrev pub expires_under : Option ℕ → PipeState → KernelState → ℕ → Option Trigger → CallOutcome
expires_under None pipe k walker next = Fails ENOENT
expires_under (Some attach) pipe k walker next = expires_next next pipe k walker attach

-- the file system is an autofs, the caller is idle, and a daemon is attached; and then what expires
-- next does so
abbrev pub expire_at : PipeState → KernelState → ℕ → ℕ → ℕ → Bool → CallOutcome
expire_at pipe k walker fs moment immediate =
    if is_none (autofs_of k.triggers fs) then Fails EINVAL
    else if is_busy k walker then Fails EINVAL
    else expires_under (attach_of k fs) pipe k walker (next_of k fs moment immediate)

-- by the moment of the event
abbrev pub expire_outcome : PipeState → KernelState → ℕ → ℕ → ℕ → Bool → CallOutcome
expire_outcome pipe k walker fs now immediate =
    let moment = moment_of k now in
    at_moment moment (expire_at pipe k walker fs moment immediate)
