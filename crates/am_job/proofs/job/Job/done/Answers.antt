use Rattle.std.proofs.Common.{◌≡◌, sym, ap, subst, ◌∙◌}
use Rattle.std.specs.Prelude.{IfSome}
use Rattle.am_job.specs.declared.left.Left.{Left}
use Rattle.am_job.specs.{JobState, plan_of, plan_left, IsLawful, ClaimsFollow, Plan, next_of, rest_of, claims}
use Rattle.am_job.specs.JobView.{job_of}
use Rattle.am_job.proofs.PlanLemmas.{rest_lawful, rest_claims}
use Rattle.am_job.proofs.job.Job.done.Goals as goal

-- what is left comes of what was left before
left_is : (c : goal.Joined-self-after) → plan_left c.self.inside.trigger c.after.result ≡ rest_of c.args.outcome (plan_of (job_of c.self.inside))
left_is c = c.after.ensures ∙ ap (λ (left : Left). rest_of c.args.outcome (plan_left c.self.inside.trigger left)) c.replace-left.ensures.value

pub invariant_of-self : goal.invariant_of-self
invariant_of-self c = subst IsLawful (sym (left_is c)) (rest_lawful (plan_of (job_of c.self.inside)) c.args.outcome c.self.invariant)

pub returns-clause-plan : goal.returns-clause-plan
returns-clause-plan c = left_is c ∙ ap (λ (job : JobState). rest_of c.args.outcome (plan_of job)) c.self.view_is

pub returns-clause-claims : goal.returns-clause-claims
returns-clause-claims c =
    let before = rest_claims (plan_of (job_of c.self.inside)) c.args.outcome c.self.invariant.claims_right in
    let new : Plan = plan_left c.self.inside.trigger c.after.result in
    subst (λ (job : JobState). IfSome (next_of (plan_of job)) (λ a. ClaimsFollow a c.args.outcome (claims (plan_of job)) new)) c.self.view_is
    (subst (λ (left : Plan). IfSome (next_of (plan_of (job_of c.self.inside))) (λ a. ClaimsFollow a c.args.outcome (claims (plan_of (job_of c.self.inside))) left)) (sym (left_is c)) before)
