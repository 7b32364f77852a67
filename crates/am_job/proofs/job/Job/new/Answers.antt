use Rattle.std.proofs.Common.{sym, subst}
use Rattle.am_job.specs.{IsLawful}
use Rattle.am_job.proofs.PlanLemmas.{plan_lawful, plan_acknowledges, plan_records, plan_claims}
use Rattle.am_job.proofs.job.Job.new.Goals as goal

pub invariant_of-result : goal.invariant_of-result
invariant_of-result c = subst IsLawful (sym c.plan_for-left.ensures) (plan_lawful c.args.kind c.args.trigger c.args.mounted c.args.entry)

pub returns-clause-acknowledges : goal.returns-clause-acknowledges
returns-clause-acknowledges c = rw c.plan_for-left.ensures (plan_acknowledges c.args.kind c.args.trigger c.args.mounted c.args.entry)

pub returns-clause-records : goal.returns-clause-records
returns-clause-records c = rw c.plan_for-left.ensures (plan_records c.args.kind c.args.trigger c.args.mounted c.args.entry)

pub returns-clause-claims : goal.returns-clause-claims
returns-clause-claims c = rw c.plan_for-left.ensures (plan_claims c.args.kind c.args.trigger c.args.mounted c.args.entry)
