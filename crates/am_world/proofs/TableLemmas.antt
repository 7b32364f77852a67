-- The machine's state of a world as it is kept.
use Rattle.std.proofs.Common.{◌≡◌, List, refl}
use Rattle.am_state.specs.{Obs}
use Rattle.am_daemon.specs.{rows_of}
use Rattle.am_machine.specs.State.{State}
use Rattle.am_world.specs.Capacity.{state_of}
use Rattle.am_world.specs.{WorldTable, behind, table_of, whole_state}
use Rattle.am_world.specs.declared.machine.Machine.{Machine}

abbrev pub kept : WorldTable → State
kept t = record { kernel = t.kernel; daemon = rows_of t.daemon; trace = t.trace }

pub state_is : (t : WorldTable) → state_of t ≡ kept t
unfolding state_of
state_is t = refl

-- that of the machine, behind what was handed on
pub state_behind : (gone : List Obs) (h : Machine) → state_of (table_of gone h) ≡ behind gone (whole_state h)
state_behind gone h = state_is (table_of gone h)
