-- Two daemons that are the same, part by part; jobs are known by their plans.
use Rattle.std.proofs.Common.{◌≡◌, List, ap}
use Rattle.std.specs.Prelude.{map}
use Rattle.am_job.specs.{JobState}
use Rattle.am_job.proofs.SameLemmas.{left_of, left_back}
use Rattle.am_job.specs.declared.left.Left.{Left}
use Rattle.am_ordered.proofs.SameLemmas.{known_by_rows}
use Rattle.am_daemon.specs.State.{DaemonState, DaemonTable, JobPlan, job_plan, rows_of}
use Rattle.am_daemon.specs.Same.{HaveSameMaps, HaveSameNotes}

abbrev kept_job : JobPlan → JobState
kept_job job = record { token = job.token; attach = job.attach; trigger = job.trigger; left = left_of job.plan }

abbrev with_left : JobState → Left → JobState
with_left job l = record { token = job.token; attach = job.attach; trigger = job.trigger; left = l }

job_back : (job : JobState) → kept_job (job_plan job) ≡ job
job_back job = ap (with_left job) (left_back job.trigger job.left)

-- jobs with the same plans are the same
known_by_plans : (jobs others : List JobState) → map job_plan jobs ≡ map job_plan others → jobs ≡ others
known_by_plans jobs others same = known_by_rows job_plan kept_job job_back jobs others same

pub same_daemons : (d e : DaemonTable) → HaveSameNotes d e → HaveSameMaps d e → rows_of d ≡ rows_of e
same_daemons d e notes maps = λ i. record {
  master = maps.master i;
  maps = maps.maps i;
  known = notes.known i;
  held = notes.held i;
  book = notes.book i;
  jobs = map job_plan (maps.jobs i);
}

pub same_notes : (d e : DaemonTable) → rows_of d ≡ rows_of e → HaveSameNotes d e
same_notes d e same = record {
  known = ap (λ (s : DaemonState). s.known) same;
  held = ap (λ (s : DaemonState). s.held) same;
  book = ap (λ (s : DaemonState). s.book) same;
}

pub same_maps : (d e : DaemonTable) → rows_of d ≡ rows_of e → HaveSameMaps d e
same_maps d e same = record {
  master = ap (λ (s : DaemonState). s.master) same;
  maps = ap (λ (s : DaemonState). s.maps) same;
  jobs = known_by_plans d.jobs e.jobs (ap (λ (s : DaemonState). s.jobs) same);
}
