-- What is lent of the daemon's parts: own choice, so that a line is looked up in place.
use Rattle.std.specs.Prelude.{ℕ, List, Option}
use Rattle.std.specs.Borrow.{Bor}
use Rattle.std.specs.Option.{option_map}
use Rattle.am_map.specs.{Row}
use Rattle.am_master.specs.MasterRow.{MasterRow}
use Rattle.am_daemon.specs.Points.{Line}

-- the line and the map that are lent
abbrev pub line_in : Option (ℕ × (Bor MasterRow × Bor (List Row))) → Option Line
line_in line = option_map (λ l. (l.0, (l.1.0.now, l.1.1.now))) line
