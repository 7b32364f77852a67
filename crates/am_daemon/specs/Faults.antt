-- Why nothing comes of a packet, and the order of the tests: own choice (docs/DECISIONS.md, "A
-- script sees one error for each packet that isn't taken up").
use Rattle.std.specs.Prelude.{◌≡◌, ℕ, Option, Some, None, Result, Ok, Err}
use Rattle.am_daemon.specs.declared.fault.DaemonFault.{DaemonFault}
use Rattle.am_daemon.specs.declared.fault.DaemonFault.TheVariants.{Wire, UnknownFs, OldAttach, Busy, NoMemory}

-- from 1, in the order of the tests
abbrev pub fault_number : DaemonFault → ℕ
fault_number (Wire fault) = 1
fault_number UnknownFs = 2
fault_number OldAttach = 3
fault_number Busy = 4
fault_number NoMemory = 5

-- The first test that fails is told. Where none does, a job begins, or memory has run out.
abbrev pub FaultsAs : {T : Type 0} → Option DaemonFault → Result T DaemonFault → Type 0
FaultsAs first (Ok value) = first ≡ None
FaultsAs first (Err NoMemory) = first ≡ None
FaultsAs first (Err fault) = first ≡ Some fault
