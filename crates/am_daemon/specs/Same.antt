-- Two daemons, part by part, for the code alone: own choice.
use Rattle.std.specs.Prelude.{◌≡◌}
use Rattle.am_daemon.specs.State.{DaemonTable}

-- the same paths, attachments and records
pub record HaveSameNotes (d e : DaemonTable) : Type 0 where
  pub known : d.known ≡ e.known
  pub held : d.held ≡ e.held
  pub book : d.book ≡ e.book

-- the same maps and jobs
pub record HaveSameMaps (d e : DaemonTable) : Type 0 where
  pub master : d.master ≡ e.master
  pub maps : d.maps ≡ e.maps
  pub jobs : d.jobs ≡ e.jobs
