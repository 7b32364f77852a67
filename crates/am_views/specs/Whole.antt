-- A script that is read whole, and played then. Own choice (docs/FORMATS.md, "Faults by command").
use Rattle.std.specs.Prelude.{ℕ, ◌+◌, Bool, cond, List, [], Option}
use Rattle.std.specs.Io.KnownBytes.{Appends}
use Rattle.am_script.specs.{ScriptFault, Summary, NotOpened}
use Rattle.am_script.specs.Script.{Script}

-- the head has a fault, or memory ran out for it or for the world, which is told at a line that isn't
-- behind `events`; nothing is written
pub record HeadStops (lines : ℕ) (script : Script) (old new : Option (List ℕ)) (fault : ScriptFault) : Type 0 where
  pub found : NotOpened lines script fault
  pub written : Appends old new []

-- one more event
abbrev pub one_more : Summary → Bool → Summary
one_more summary refused =
    record { lines = summary.lines + 1; refused = summary.refused + (cond refused 1 0) }
