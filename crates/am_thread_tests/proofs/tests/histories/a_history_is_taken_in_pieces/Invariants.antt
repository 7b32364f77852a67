use Rattle.am_shared.specs.{opening_of}
use Rattle.am_shared.specs.declared.keep.Keep.TheVariants.{Nothing}
use Rattle.am_thread_tests.proofs.tests.histories.a_history_is_taken_in_pieces.Given as goal

abbrev pub ghosts-all_take : goal.ghosts-all_take
ghosts-all_take g a = record {
  opening = opening_of a.begun;
  pipe = a.put.pipe;
  takers = a.put.takers;
  room = a.put.room;
  logbook = a.logbook;
  callers = 4;
  keep = Nothing;
}
