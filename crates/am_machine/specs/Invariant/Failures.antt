-- What failed last at a trigger, and what is mounted there (own choice).
use Rattle.std.specs.Prelude.{◌≡◌, ◌⊎◌, ⊤, ◌≤◌, ℕ, List, Some, None}
use Rattle.std.specs.List.{All}
use Rattle.am_names.specs.declared.fail_no.FailNo.{FailNo}
use Rattle.am_names.specs.declared.trigger.Trigger.{Trigger}
use Rattle.am_names.specs.declared.trigger.Status.TheVariants.{Fail}
use Rattle.am_names.specs.{OpenToken, TokenKind}
use Rattle.am_names.specs.declared.row.TokenKind.TheVariants.{Missing, Expire}
use Rattle.am_wait.specs.{WaitRows, token_of}
use Rattle.am_trigger.specs.{Autofs, autofs_of, failure_of}
use Rattle.am_job.specs.{Act, Outcome, Plan, Ended, Next, next_of}
use Rattle.am_job.specs.declared.act.Act.TheVariants as act
use Rattle.am_kernel.specs.{KernelState, attach_of, mounted_on}
use Rattle.am_daemon.specs.{DaemonState, JobPlan, job_of}

-- ---- what a job does, by the kind of its token

-- What is missing is mounted, and not unmounted, and what expires the other way round. Before a missing
-- mount is acknowledged as failed, it is written down that there is none.
abbrev pub Suits : TokenKind → Act → Plan → Type 0
Suits Missing (act.Umount trigger) rest = ⊥
Suits Missing (act.Record trigger entry) rest =
    (error : FailNo) → next_of rest ≡ Some (act.Reply (Fail error)) → entry ≡ None
Suits Expire (act.Mount trigger entry) rest = ⊥
Suits kind a rest = ⊤

-- so it is of all acts that are left, whatever comes of them
abbrev pub AllSuit : TokenKind → Plan → Type 0
AllSuit kind Ended = ⊤
AllSuit kind (Next a rest) = (o : Outcome) → Suits kind a (rest o) × AllSuit kind (rest o)

-- The token of a job was given, and as long as it is open the job's acts suit its kind.
pub record SuitsItsToken (w : WaitRows) (job : JobPlan) : Type 0 where
  pub given : job.token ≤ w.last_token
  pub acts : (row : OpenToken) → token_of w.tokens job.token ≡ Some row → AllSuit row.kind job.plan

-- ---- failures

-- a missing token of the trigger is open
pub record IsAwaited (tokens : List OpenToken) (g : Trigger) : Type 0 where
  pub token : ℕ
  pub row : OpenToken
  pub is_open : token_of tokens token ≡ Some row
  pub asks : row.trigger ≡ g
  pub kind : row.kind ≡ Missing

-- nothing that failed at the trigger is kept, or a missing token of it is open
abbrev pub IsMended : KernelState → Trigger → Type 0
IsMended k g = (failure_of k.failures g ≡ None) ⊎ IsAwaited k.waits.tokens g

-- so it is of each trigger on which something is mounted, at the daemon's mount of the autofs
abbrev pub MountsAreMended : KernelState → Type 0
MountsAreMended k = (g : Trigger) (a : Autofs) (mount : ℕ) →
    autofs_of k.triggers g.fs ≡ Some a → mounted_on k g ≡ Some mount → IsMended k g

-- where the job of a missing token is about to acknowledge it as failed, nothing is mounted
abbrev pub FailedIsFree : KernelState → DaemonState → Type 0
FailedIsFree k d = (job : ℕ) (row : JobPlan) (token : OpenToken) (error : FailNo) →
    job_of d.jobs job ≡ Some row → attach_of k row.trigger.fs ≡ Some row.attach →
    token_of k.waits.tokens row.token ≡ Some token → token.kind ≡ Missing →
    next_of row.plan ≡ Some (act.Reply (Fail error)) → mounted_on k row.trigger ≡ None

-- a failure is kept only where nothing is mounted, or the daemon is asked for a mount
pub record FailuresAgree (k : KernelState) (d : DaemonState) : Type 0 where
  pub suited : All (SuitsItsToken k.waits) d.jobs
  pub free : FailedIsFree k d
  pub mended : MountsAreMended k
