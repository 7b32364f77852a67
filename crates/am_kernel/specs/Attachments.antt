-- Attachments that begin: a daemon that attaches again (autofs.rst, "Communicating with autofs:
-- root directory ioctls").
use Rattle.std.specs.Prelude.{ℕ, ◌+◌, ◌==◌, false, not, is_some, map, Option, Some, if◌then◌else◌}
use Rattle.am_names.specs.declared.errno.Errno.{Errno}
use Rattle.am_names.specs.declared.errno.Errno.TheVariants.{EBUSY, EINVAL}
use Rattle.am_trigger.specs.{autofs_of, with_catatonic, without_failures}
use Rattle.am_kernel.specs.declared.row.Attached.{Attached}
use Rattle.am_kernel.specs.State.{KernelState}
use Rattle.am_kernel.specs.Lookups.{is_live, attach_refusal}

-- the tests of a new pipe: it is an autofs, it is catatonic, and a number of an attachment is left
abbrev pub pipe_refusal : KernelState → ℕ → Option Errno
pipe_refusal k fs =
    if not (is_some (autofs_of k.triggers fs)) then Some EINVAL
    else if is_live k fs then Some EBUSY
    else attach_refusal k

-- this attachment is the latest of the file system
abbrev pub reattached_row : ℕ → ℕ → Attached → Attached
reattached_row fs attach row = if row.fs == fs then record row { attach = attach } else row

-- the file system has a new attachment, and nothing that failed in it lasts
abbrev pub with_pipe : ℕ → KernelState → KernelState
with_pipe fs k = record k {
  triggers = with_catatonic fs false k.triggers;
  failures = without_failures fs k.failures;
  attached = map (reattached_row fs (k.last_attach + 1)) k.attached;
  last_attach = k.last_attach + 1;
}
