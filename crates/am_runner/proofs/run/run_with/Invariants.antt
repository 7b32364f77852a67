use Rattle.am_shared.specs.{opening_of}
use Rattle.am_runner.specs.{keep_of, plan_of}
use Rattle.am_runner.proofs.run.run_with.Given as goal

abbrev pub ghosts-run_among-L-Planned : goal.ghosts-run_among-L-Planned
ghosts-run_among-L-Planned g a = record { plan = plan_of a.run }

abbrev pub ghosts-run_among-L-Opened : goal.ghosts-run_among-L-Opened
ghosts-run_among-L-Opened g a = record {
  opening = opening_of a.start.opening;
  pipe = a.start.put.pipe;
  takers = a.start.put.takers;
  room = a.start.put.room;
  logbook = a.start.logbook;
  callers = a.start.callers;
  keep = keep_of a.run.watched;
}
