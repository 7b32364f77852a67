-- Catatonic mode: an attachment ends, and the autofs is without a daemon (autofs.rst, "Catatonic
-- mode").
use Rattle.std.specs.Prelude.{ℕ, ◌==◌, Bool, true, not, is_some, List, [], ◌∷◌, filter, Option, Some, None, if◌then◌else◌}
use Rattle.std.specs.List.{flat_map}
use Rattle.am_names.specs.declared.errno.Errno.{Errno}
use Rattle.am_names.specs.declared.errno.Errno.TheVariants.{EPERM, EINVAL}
use Rattle.am_names.specs.declared.fail_no.FailNo.TheVariants as error
use Rattle.am_names.specs.declared.trigger.Status.TheVariants.{Fail}
use Rattle.am_state.specs.{Obs, QueuedRow}
use Rattle.am_state.specs.declared.obs.Obs.TheVariants as seen
use Rattle.am_trigger.specs.{autofs_of, with_catatonic, without_failures}
use Rattle.am_wait.specs.{waiters_of, tokens_of, fs_released}
use Rattle.am_kernel.specs.State.{KernelState}
use Rattle.am_kernel.specs.Lookups.{is_live, is_current}
use Rattle.am_kernel.specs.Observations.{releases}

-- ---- a file system becomes catatonic

-- who waits on the token fails with ENOENT
abbrev pub failures : KernelState → ℕ → List Obs
failures k token = releases token (Fail error.ENOENT) (waiters_of k.waits.tokens token)

-- the file system becomes catatonic: all that wait on it are released, by rising token
abbrev pub catatonic_observations : ℕ → KernelState → List Obs
catatonic_observations fs k = seen.Catatonic fs ∷ flat_map (failures k) (tokens_of k.waits.tokens fs)

-- the packet is one of the file system
abbrev pub is_packet_of : ℕ → QueuedRow → Bool
is_packet_of fs row = row.packet.dev == fs

-- the file system is catatonic: its tokens close, its waiters fail, its packets go
-- (autofs.rst, "Catatonic mode"), and nothing that failed in it lasts
abbrev pub made_catatonic : ℕ → KernelState → KernelState
made_catatonic fs k = record k {
  triggers = with_catatonic fs true k.triggers;
  failures = without_failures fs k.failures;
  waits = fs_released fs k.waits;
  queue = filter (λ row. not (is_packet_of fs row)) k.queue;
}

-- ---- who may end an attachment

-- the daemon's call: the attachment is current for this file system
abbrev pub catatonic_refusal : KernelState → ℕ → ℕ → Option Errno
catatonic_refusal k attach fs = if is_current k fs attach then None else Some EPERM

-- the administrator's: it is an autofs
abbrev pub admin_catatonic_refusal : KernelState → ℕ → Option Errno
admin_catatonic_refusal k fs = if is_some (autofs_of k.triggers fs) then None else Some EINVAL

-- one that is catatonic already stays as it is
abbrev pub made_catatonic_if_live : ℕ → KernelState → KernelState
made_catatonic_if_live fs k = if is_live k fs then made_catatonic fs k else k

-- and nothing is seen of it then
abbrev pub catatonic_observations_if_live : ℕ → KernelState → List Obs
catatonic_observations_if_live fs k = if is_live k fs then catatonic_observations fs k else []
