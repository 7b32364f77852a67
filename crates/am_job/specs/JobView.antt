-- What the fields of a job stand for, and what they keep: own choice (docs/DECISIONS.md,
-- "`am_daemon` keeps a job as `am_job` has it").
use Rattle.am_job.specs.Job.{JobState, plan_of}
use Rattle.am_job.specs.Laws.{IsLawful}
use Rattle.am_job.specs.declared.job.Job.TheInside.{Inside}

-- the job that has these fields
abbrev pub job_of : Inside → JobState
job_of j = record { token = j.job; attach = j.attach; trigger = j.trigger; left = j.left }

-- the acts that it has left follow the laws of plans
abbrev pub IsJob : Inside → Type 0
IsJob j = IsLawful (plan_of (job_of j))
