use Rattle.am_shared.specs.{opening_of}
use Rattle.am_shared.specs.declared.keep.Keep.TheVariants.{Nothing}
use Rattle.am_examples.proofs.tests.shared.a_caller_takes_the_history.Given as goal

abbrev pub ghosts-takes : goal.ghosts-takes
ghosts-takes g a = record {
  opening = opening_of a.opening;
  pipe = a.put.pipe;
  takers = a.put.takers;
  room = a.put.room;
  logbook = a.logbook;
  callers = 2;
  keep = Nothing;
}
