-- What walkers do: they walk, wait and go on, leave, and ask for expiries (autofs.rst, "Mount
-- Traps" and "Mountpoint expiry").
use Rattle.std.specs.Prelude.{ℕ, Bool, List}
use Rattle.am_names.specs.{PipeState}
use Rattle.am_expire.specs.{leave_refusal}
use Rattle.am_kernel.specs.{Progress, leave_seen, without_use}
use Rattle.am_kernel.specs.declared.progress.Progress.TheVariants as progress
use Rattle.am_kernel.specs.CallOutcome as kernel
use Rattle.am_kernel.specs.Walks as walks
use Rattle.am_kernel.specs.Resumes as resumes
use Rattle.am_kernel.specs.Expires as expires
use Rattle.am_machine.specs.declared.answer.Answer.{Answer}
use Rattle.am_machine.specs.declared.answer.Answer.TheVariants as answers
use Rattle.am_machine.specs.State.{State}
use Rattle.am_machine.specs.EventOutcome.{EventOutcome, refused, unless, with_kernel}

-- what the walker is told, one line for each way that it goes on
abbrev pub answer_of : Progress → Answer
answer_of (progress.Arrived at) = answers.At at
answer_of (progress.Waits token) = answers.Wait token
answer_of (progress.Failed e) = answers.Failed e
answer_of progress.Expired = answers.Expired

-- what the kernel makes of it
abbrev pub goes : kernel.CallOutcome → State → EventOutcome
goes (kernel.Proceeds progress shown made) s = with_kernel (answer_of progress) shown made s
goes (kernel.Fails e) s = refused s e

-- a walker walks along a path
abbrev pub walk_outcome : State → ℕ → ℕ → List (List ℕ) → ℕ → PipeState → EventOutcome
walk_outcome s walker ns path now pipe =
    goes (walks.walk_outcome pipe s.kernel walker ns path now) s

-- a walker goes on once its token is acknowledged
abbrev pub resume_outcome : State → ℕ → ℕ → PipeState → EventOutcome
resume_outcome s walker now pipe = goes (resumes.resume_outcome pipe s.kernel walker now) s

-- a walker asks for the expiry of a trigger of a file system
abbrev pub expire_outcome : State → ℕ → ℕ → ℕ → Bool → PipeState → EventOutcome
expire_outcome s walker fs now immediate pipe =
    goes (expires.expire_outcome pipe s.kernel walker fs now immediate) s

-- a walker leaves the mount that it is inside of
abbrev pub leave_outcome : State → ℕ → EventOutcome
leave_outcome s walker =
    unless (leave_refusal walker s.kernel.uses) s
    (with_kernel answers.Done (leave_seen s.kernel walker) (without_use walker s.kernel) s)
