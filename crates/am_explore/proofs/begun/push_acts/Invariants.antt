use Rattle.std.proofs.Common.{◌≡◌, ◌++◌, drop}
use Rattle.std.specs.Prelude.{map}
use Rattle.am_daemon.specs.{job_plan}
use Rattle.am_explore.specs.Choices.{acts}
use Rattle.am_explore.proofs.begun.push_acts.Given as goal

abbrev pub invariant-loop-job : goal.invariant-loop-job
invariant-loop-job l = l.choices.items ++ acts l.results (map job_plan (drop l.job-index l.jobs)) ≡ l.fn.choices.items
    ++ acts l.results (map job_plan l.jobs)
