use Rattle.std.proofs.Common.{◌≡◌, List, map, ap, ◌∙◌}
use Rattle.am_job.specs.{JobState}
use Rattle.am_daemon.specs.declared.daemon.Daemon.TheInside.{Inside}
use Rattle.am_daemon.specs.{JobPlan, DaemonTable, job_plan, job_of, finished_in}
use Rattle.am_daemon.proofs.JobLemmas.{others_stay}
use Rattle.am_daemon.proofs.daemon.Daemon.finish_act.Goals as goal
use Rattle.am_daemon.proofs.daemon.Daemon.finish_act.Goals.{in-Some-writing+in_ok-write_down, in_default-writing}

pub returns-clause-others : goal.returns-clause-others
returns-clause-others c j other =
    let kept : c.match-writing.self-inside.jobs.rows ≡ c.self.inside.jobs.rows =
    elim c.match-writing.branch [
      | in-Some-writing+in_ok-write_down w ↦ ap (λ (i : Inside). i.jobs.rows) w.self-inside-is
      | in_default-writing w ↦ ap (λ (i : Inside). i.jobs.rows) w.self-inside-is
    ] in
    let old : c.match-writing.self-inside.jobs.rows ≡ c.args.self.now.jobs = kept ∙ ap (λ (t : DaemonTable). t.jobs) c.self.view_is in
    ap (λ (jobs : List JobPlan). job_of jobs j) (c.go_on.ensures ∙ ap (λ (jobs : List JobState). finished_in c.args.job c.args.outcome (map job_plan jobs)) old)
    ∙ others_stay (map job_plan c.args.self.now.jobs) c.args.job c.args.outcome j other
