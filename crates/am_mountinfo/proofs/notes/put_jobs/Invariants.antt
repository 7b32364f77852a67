use Rattle.std.proofs.Common.{take, map}
use Rattle.std.specs.List.{flat_map}
use Rattle.am_daemon.specs.{job_plan}
use Rattle.am_script.specs.{Puts}
use Rattle.am_mountinfo.specs.{job_note}
use Rattle.am_mountinfo.proofs.notes.put_jobs.Given as goal

abbrev pub invariant-loop-job : goal.invariant-loop-job
invariant-loop-job g l = Puts l.fn.output l.output (flat_map job_note (map job_plan (take l.job-index l.world.daemon.jobs))) (g.W.Write.contents l.fn.writer) (g.W.Write.contents l.writer)
