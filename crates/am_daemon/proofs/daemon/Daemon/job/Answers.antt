use Rattle.std.proofs.Common.{◌==◌, ap, ◌∙◌}
use Rattle.std.specs.Prelude.{option_map}
use Rattle.am_daemon.specs.{DaemonTable, JobPlan, job_plan, rows_of, job_of}
use Rattle.am_daemon.proofs.JobLemmas.{find_mapped}
use Rattle.am_daemon.proofs.daemon.Daemon.job.Goals as goal

pub returns : goal.returns
returns c =
    ap (option_map job_plan) c.get.ensures
    ∙ find_mapped job_plan (λ (row : JobPlan). row.token == c.args.job) c.self.inside.jobs.rows
    ∙ ap (λ (t : DaemonTable). job_of (rows_of t).jobs c.args.job) c.self.view_is
