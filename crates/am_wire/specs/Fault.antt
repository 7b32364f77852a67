-- The numbers of the faults, in the order of the tests: own choice (docs/FORMATS.md, "Packets").
use Rattle.std.specs.Prelude.{ℕ}
use Rattle.am_wire.specs.declared.fault.WireFault.{WireFault}
use Rattle.am_wire.specs.declared.fault.WireFault.TheVariants.{Length, Version, Kind, NameLength, BadName}

-- from 1, in the order of the tests
abbrev pub fault_number : WireFault → ℕ
fault_number Length = 1
fault_number Version = 2
fault_number Kind = 3
fault_number NameLength = 4
fault_number BadName = 5
