-- What becomes of the packets of a shared world (autofs.rst, "Communicating with autofs: the event
-- pipe").
use Rattle.std.specs.Prelude.{ℕ, List, length}
use Rattle.am_pipe.specs.{Note, AreAsPut, numbered}
use Rattle.am_pipe.specs.Ends.{HasEachOnce}
use Rattle.am_shared.specs.Sharing.{Sharing}
use Rattle.am_shared.specs.Notes.{notes_of}

-- each of these is a queued packet of the trace with its number in it, from 1, and each is there
-- once
pub record AreThePackets (s : Sharing) (notes : List (ℕ × Note)) : Type 0 where
  pub each : AreAsPut (notes_of s.world.trace) notes
  pub once : HasEachOnce (length (notes_of s.world.trace)) notes

-- the notes that wait for room in the pipe, each with the position that it is to have
abbrev pub waiting : Sharing → List (ℕ × Note)
waiting s = numbered (length s.put.sent) s.unsent
