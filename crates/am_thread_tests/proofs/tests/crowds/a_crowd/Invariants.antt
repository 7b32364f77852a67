use Rattle.am_shared.specs.{opening_of}
use Rattle.am_shared.specs.declared.keep.Keep.TheVariants.{All}
use Rattle.am_thread_tests.proofs.tests.crowds.a_crowd.Given as goal

abbrev pub ghosts-crowd : goal.ghosts-crowd
ghosts-crowd g a = record {
  opening = opening_of a.begun;
  pipe = a.put.pipe;
  takers = a.put.takers;
  room = a.put.room;
  logbook = a.logbook;
  callers = a.size.threads;
  keep = All;
}
