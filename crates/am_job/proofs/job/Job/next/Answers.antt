use Rattle.std.proofs.Common.{subst}
use Rattle.am_job.specs.{JobState, plan_of, IsLawful}
use Rattle.am_job.proofs.job.Job.next.Goals as goal

pub returns-in-Next-clause-laws : goal.returns-in-Next-clause-laws
returns-in-Next-clause-laws c = subst (λ (job : JobState). IsLawful (plan_of job)) c.self.view_is c.self.invariant
