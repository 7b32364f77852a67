use Rattle.am_shared.specs.{opening_of}
use Rattle.am_shared.specs.declared.keep.Keep.TheVariants.{Events}
use Rattle.am_thread_tests.proofs.tests.callers.plays_once.Given as goal

abbrev pub ghosts-played : goal.ghosts-played
ghosts-played g a = record {
  opening = opening_of a.begun;
  pipe = a.put.pipe;
  takers = a.put.takers;
  room = a.put.room;
  logbook = a.logbook;
  callers = a.callers;
  keep = Events;
}
