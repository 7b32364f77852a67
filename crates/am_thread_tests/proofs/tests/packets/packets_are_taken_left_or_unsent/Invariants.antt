use Rattle.am_shared.specs.{opening_of}
use Rattle.am_shared.specs.declared.keep.Keep.TheVariants.{Events}
use Rattle.am_thread_tests.proofs.tests.packets.packets_are_taken_left_or_unsent.Given as goal

abbrev pub ghosts-plays : goal.ghosts-plays
ghosts-plays g a = record {
  opening = opening_of a.begun;
  pipe = a.put.pipe;
  takers = a.put.takers;
  room = a.put.room;
  logbook = a.logbook;
  callers = 1;
  keep = Events;
}
