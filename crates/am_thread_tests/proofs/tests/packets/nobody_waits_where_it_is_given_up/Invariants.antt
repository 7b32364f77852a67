use Rattle.am_shared.specs.{opening_of}
use Rattle.am_shared.specs.declared.keep.Keep.TheVariants.{Events}
use Rattle.am_thread_tests.proofs.tests.packets.nobody_waits_where_it_is_given_up.Given as goal

abbrev pub ghosts-gives_up : goal.ghosts-gives_up
ghosts-gives_up g a = record {
  opening = opening_of a.begun;
  pipe = a.put.pipe;
  takers = a.put.takers;
  room = a.put.room;
  logbook = a.logbook;
  callers = 1;
  keep = Events;
}
