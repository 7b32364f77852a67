-- A walker whose token was acknowledged goes on (autofs.rst, "Mount Traps"): own choice
-- (docs/DECISIONS.md, "A walker that is released goes on at an event of its own").
use Rattle.std.specs.Prelude.{ℕ, ◌+◌, ◌==◌, nat_le, is_some, List, [], Option, Some, None, find, if◌then◌else◌}
use Rattle.am_names.specs.declared.errno.Errno.{Errno}
use Rattle.am_names.specs.{errno_of, Status, PipeState, WaitRow, TokenKind}
use Rattle.am_names.specs.declared.errno.Errno.TheVariants.{EINVAL, ELOOP, NotReleased, NoMemory}
use Rattle.am_names.specs.declared.trigger.Status.TheVariants.{Ready, Fail}
use Rattle.am_names.specs.declared.row.TokenKind.TheVariants.{Missing, Expire}
use Rattle.am_trigger.specs.{used}
use Rattle.am_wait.specs.{wait_of, collected}
use Rattle.am_kernel.specs.declared.row.WalkRow.{WalkRow}
use Rattle.am_kernel.specs.declared.progress.Attempt.{Attempt}
use Rattle.am_kernel.specs.declared.progress.Progress.TheVariants.{Failed, Expired}
use Rattle.am_kernel.specs.State.{KernelState}
use Rattle.am_kernel.specs.CallOutcome.{CallOutcome, Proceeds, Fails, moment_of, at_moment}
use Rattle.am_expire.specs.{mount_of_walker}
use Rattle.am_walk.specs.{walk_of}
use Rattle.am_kernel.specs.Lookups.{scene_of}
use Rattle.am_kernel.specs.Walks.{without_walk, attempted_with}

-- the walker's wait is collected, and the walker is idle
abbrev pub wait_collected : ℕ → KernelState → KernelState
wait_collected walker k = record k {
  waits = collected walker k.waits;
  walks = without_walk walker k.walks;
}

-- a wait on an expiry that is collected is a use of the trigger
abbrev pub wait_collected_from : TokenKind → WaitRow → ℕ → KernelState → KernelState
wait_collected_from Missing row moment k = wait_collected row.walker k
wait_collected_from Expire row moment k =
    record (wait_collected row.walker k) { triggers = used row.trigger moment k.triggers }

-- nothing is seen of it
abbrev pub failed : Errno → KernelState → CallOutcome
failed e k = Proceeds (Failed e) [] k

-- what can't go on fails, and what was collected before stays so
abbrev pub or_failed : CallOutcome → KernelState → CallOutcome
or_failed (Proceeds answer shown made) k = Proceeds answer shown made
or_failed (Fails e) k = failed e k

-- the most walks that one event of `walk` leads to (Linux: MAXSYMLINKS)
abbrev pub max_attempts : ℕ
max_attempts = 40

-- the walk of a walker begins once more
abbrev pub next_attempt : WalkRow → ℕ → Attempt
next_attempt row moment = record {
  walker = row.walker;
  ns = row.ns;
  path = row.path;
  attempts = row.attempts + 1;
  moment = moment;
}

-- the walk begins again from its first name, but not the 41st time: own choice (docs/DECISIONS.md,
-- "A walk begins again from its first name") What it meets is as before its wait was collected, in
-- k; it goes on from base.
abbrev pub retry : PipeState → KernelState → KernelState → WalkRow → ℕ → CallOutcome
retry pipe k base row moment =
    if nat_le max_attempts row.attempts then failed ELOOP base
    else or_failed
    (attempted_with (walk_of (scene_of k moment) row.ns row.path) pipe base (next_attempt row moment))
    base

-- after a mount that failed the walk fails with its error; after one that came, and after an
-- expiry, it begins again
abbrev pub resumed_as : TokenKind → Status → PipeState → KernelState → WaitRow → WalkRow → ℕ
    → CallOutcome
resumed_as Missing (Fail error) pipe k wait row moment =
    failed (errno_of error) (wait_collected_from Missing wait moment k)
resumed_as Missing Ready pipe k wait row moment =
    retry pipe k (wait_collected_from Missing wait moment k) row moment
resumed_as Expire status pipe k wait row moment =
    retry pipe k (wait_collected_from Expire wait moment k) row moment

-- whoever asked for an expiry is told how it went, and walks nowhere
abbrev pub expired_as : Status → KernelState → CallOutcome
expired_as Ready k = Proceeds Expired [] k
expired_as (Fail error) k = failed (errno_of error) k

-- a walker that has no walk asked for an expiry: nobody waits on a mount without a walk
abbrev pub expiry_finished_as : TokenKind → Status → KernelState → WaitRow → ℕ → CallOutcome
expiry_finished_as Missing status k wait moment = Fails EINVAL
expiry_finished_as Expire status k wait moment = expired_as status (wait_collected_from Expire wait moment k)

-- the walk that the walker began
abbrev pub walk_in : List WalkRow → ℕ → Option WalkRow
walk_in walks walker = find (λ row. row.walker == walker) walks

-- by whether the walker has a walk
abbrev pub resumed_walk : Option WalkRow → Status → PipeState → KernelState → WaitRow → ℕ → CallOutcome
resumed_walk None status pipe k wait moment = expiry_finished_as wait.kind status k wait moment
resumed_walk (Some row) status pipe k wait moment =
    resumed_as wait.kind status pipe k wait row moment

-- by whether the walker's token was acknowledged
abbrev pub resumed_by : Option Status → PipeState → KernelState → WaitRow → ℕ → CallOutcome
resumed_by None pipe k wait moment = Fails NotReleased
resumed_by (Some status) pipe k wait moment =
    resumed_walk (walk_in k.walks wait.walker) status pipe k wait moment

-- by whether the walker waits
abbrev pub resumed_at : Option WaitRow → PipeState → KernelState → ℕ → CallOutcome
resumed_at None pipe k moment = Fails EINVAL
resumed_at (Some wait) pipe k moment = resumed_by wait.status pipe k wait moment

-- the walker is inside no mount, and waits; its token was acknowledged
abbrev pub resume_at : PipeState → KernelState → ℕ → ℕ → CallOutcome
resume_at pipe k walker moment =
    if is_some (mount_of_walker k.uses walker) then Fails EINVAL
    else resumed_at (wait_of k.waits.waits walker) pipe k moment

-- by the moment of the event
abbrev pub resume_outcome : PipeState → KernelState → ℕ → ℕ → CallOutcome
resume_outcome pipe k walker now =
    let moment = moment_of k now in
    at_moment moment (resume_at pipe k walker moment)

-- ---- what a step of it leaves

-- an error that was met on the way fails the walk, but not that of memory
abbrev pub retry_failed : Errno → KernelState → CallOutcome
retry_failed NoMemory k = Fails NoMemory
retry_failed e k = failed e k

-- the walk of the walker begins again, if it has one
abbrev pub retry_for : Option WalkRow → PipeState → KernelState → WaitRow → ℕ → CallOutcome
retry_for None pipe k wait moment = Fails EINVAL
retry_for (Some row) pipe k wait moment =
    retry pipe k (wait_collected_from wait.kind wait moment k) row moment
