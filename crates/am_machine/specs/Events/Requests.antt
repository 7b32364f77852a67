-- What the daemon asks of the kernel beside its jobs, attachments that end and begin, and the
-- daemon's death (autofs.rst, "Catatonic mode" and "Communicating with autofs: root directory
-- ioctls").
use Rattle.std.specs.Prelude.{ℕ, ◌+◌, not, is_some, [], ◌∷◌, Option, if◌then◌else◌}
use Rattle.am_names.specs.declared.errno.Errno.{Errno}
use Rattle.am_names.specs.declared.errno.Errno.TheVariants.{EPERM, EINVAL, Stranger}
use Rattle.am_names.specs.declared.trigger.Trigger.{Trigger}
use Rattle.am_state.specs.declared.obs.Obs.TheVariants as seen
use Rattle.am_wait.specs.{token_of}
use Rattle.am_kernel.specs.{fs_of_attach, or_else, is_trigger, timeout_refusal, with_timeout, pipe_refusal, with_pipe, catatonic_refusal, admin_catatonic_refusal, made_catatonic_if_live, catatonic_observations_if_live, catatonic_observations, made_catatonic, standing}
use Rattle.am_job.specs.{record_of}
use Rattle.am_daemon.specs.{dead, reattach_refusal, reattached}
use Rattle.am_machine.specs.declared.answer.Answer.TheVariants as answers
use Rattle.am_machine.specs.State.{State}
use Rattle.am_machine.specs.EventOutcome.{EventOutcome, refused, unless, with_kernel, told}

-- a reply that no job makes is never taken: under an old attachment; for an open token, which is its
-- job's to answer; or for a closed one
abbrev pub repeat_outcome : State → ℕ → ℕ → EventOutcome
repeat_outcome s attach token =
    if not (is_some (fs_of_attach s.kernel attach)) then refused s EPERM
    else if is_some (token_of s.kernel.waits.tokens token) then refused s Stranger
    else refused s EINVAL

-- the daemon has its file system made catatonic
abbrev pub catatonic_outcome : State → ℕ → ℕ → EventOutcome
catatonic_outcome s attach fs =
    unless (catatonic_refusal s.kernel attach fs) s
    (with_kernel answers.Done (catatonic_observations fs s.kernel) (made_catatonic fs s.kernel) s)

-- an autofs that is catatonic already stays so
abbrev pub admin_catatonic_outcome : State → ℕ → EventOutcome
admin_catatonic_outcome s fs =
    unless (admin_catatonic_refusal s.kernel fs) s
    (with_kernel answers.Done (catatonic_observations_if_live fs s.kernel) (made_catatonic_if_live fs s.kernel) s)

-- the daemon sets the timeout of its file system
abbrev pub timeout_outcome : State → ℕ → ℕ → ℕ → EventOutcome
timeout_outcome s attach fs timeout =
    unless (timeout_refusal s.kernel attach fs) s
    (with_kernel answers.Done [] (with_timeout fs timeout s.kernel) s)

-- the book and the attachments held are lost
abbrev pub die_outcome : State → EventOutcome
die_outcome s = record { answer = answers.Done; seen = seen.Died ∷ []; state = record s { daemon = dead s.daemon } }

-- the kernel's tests, and the daemon's, which knows each autofs
abbrev pub reattach_refused : State → ℕ → Option Errno
reattach_refused s fs = or_else (pipe_refusal s.kernel fs) (reattach_refusal fs s.daemon)

-- there is a new attachment, and the daemon writes down what is mounted
abbrev pub reattaches : State → ℕ → EventOutcome
reattaches s fs =
    let attach = s.kernel.last_attach + 1 in
    record {
      answer = answers.Reattached attach;
      seen = seen.Reattached fs attach ∷ [];
      state = record s {
        kernel = with_pipe fs s.kernel;
        daemon = reattached fs attach (standing s.kernel fs) s.daemon;
      };
    }

-- a daemon attaches again to an autofs that lost its own
abbrev pub reattach_outcome : State → ℕ → EventOutcome
reattach_outcome s fs = unless (reattach_refused s fs) s (reattaches s fs)

-- of a trigger of an autofs
abbrev pub record_outcome : State → Trigger → EventOutcome
record_outcome s trigger =
    if not (is_trigger s.kernel trigger) then refused s EINVAL
    else told (answers.Record (record_of s.daemon.book trigger)) s
