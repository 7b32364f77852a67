-- Who has an open token: its packet is in the pipe, or a job of the daemon has taken it up
-- (own choice).
use Rattle.std.specs.Prelude.{◌≡◌, ◌⊎◌, ℕ, true, is_some, List, map, Some, None}
use Rattle.std.specs.List.{All}
use Rattle.am_names.specs.{same_trigger, OpenToken}
use Rattle.am_wait.specs.{token_of}
use Rattle.am_state.specs.{QueuedRow}
use Rattle.am_kernel.specs.{KernelState, attach_of, queued_of}
use Rattle.am_daemon.specs.{JobPlan, job_of}
use Rattle.am_machine.specs.Invariant.Traces.{AreDifferent, asked_in, asked_by}
use Rattle.am_machine.specs.Invariant.Walks.{is_named}

-- A packet in the pipe: it asks for what its token does, which is open and no job's, and the file
-- system's daemon is attached as it was when the packet was queued.
pub record IsInPipe (k : KernelState) (jobs : List JobPlan) (row : QueuedRow) : Type 0 where
  pub token : OpenToken
  pub is_open : token_of k.waits.tokens row.token ≡ Some token
  pub numbered : row.packet.token ≡ row.token
  pub asks : asked_in row.packet ≡ asked_by token
  pub current : attach_of k token.trigger.fs ≡ Some row.attach
  pub untaken : job_of jobs row.token ≡ None

-- A job has taken the token up, under the attachment that the file system still has.
pub record IsAtWork (k : KernelState) (jobs : List JobPlan) (row : OpenToken) : Type 0 where
  pub job : JobPlan
  pub is_job : job_of jobs row.token ≡ Some job
  pub fs : job.trigger.fs ≡ row.trigger.fs
  pub current : attach_of k row.trigger.fs ≡ Some job.attach

-- A job whose attachment the file system still has: its token is open, and asks for the job's
-- trigger, where the daemon can read its name.
pub record HasToken (k : KernelState) (job : JobPlan) : Type 0 where
  pub token : OpenToken
  pub is_open : token_of k.waits.tokens job.token ≡ Some token
  pub fs : job.trigger.fs ≡ token.trigger.fs
  pub trigger : is_named token.trigger ≡ true → job.trigger ≡ token.trigger

-- each open token has its packet or its job, and no packet or job is of another
pub record TokensAgree (k : KernelState) (jobs : List JobPlan) : Type 0 where
  -- a trigger has one open token at most
  pub once : (a b : ℕ) (x y : OpenToken) →
      token_of k.waits.tokens a ≡ Some x → token_of k.waits.tokens b ≡ Some y →
      same_trigger x.trigger y.trigger ≡ true → a ≡ b
  -- a token has one packet in the pipes at most, and one job
  pub packets : AreDifferent (map (λ (row : QueuedRow). row.token) k.queue)
  pub numbers : AreDifferent (map (λ (row : JobPlan). row.token) jobs)
  -- an open token is in the pipe or at work; what is in the pipe, or at work under an attachment that
  -- still lasts, is an open token
  pub open_tokens : (token : ℕ) (row : OpenToken) → token_of k.waits.tokens token ≡ Some row →
      (is_some (queued_of k.queue token) ≡ true) ⊎ IsAtWork k jobs row
  pub in_pipe : All (IsInPipe k jobs) k.queue
  pub at_work : All (λ (job : JobPlan). attach_of k job.trigger.fs ≡ Some job.attach → HasToken k job) jobs
