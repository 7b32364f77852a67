use Rattle.am_shared.specs.{opening_of}
use Rattle.am_shared.specs.declared.keep.Keep.TheVariants.{Events}
use Rattle.am_examples.proofs.tests.shared.two_callers_share_a_world.Given as goal

abbrev pub ghosts-plays : goal.ghosts-plays
ghosts-plays g a = record {
  opening = opening_of a.opening;
  pipe = a.put.pipe;
  takers = a.put.takers;
  room = a.put.room;
  logbook = a.logbook;
  callers = 2;
  keep = Events;
}
