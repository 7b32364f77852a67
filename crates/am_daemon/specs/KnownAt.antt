-- A file system that the daemon was ever attached to, as it is lent.
use Rattle.am_state.specs.{KnownRow}
use Rattle.am_daemon.specs.declared.known.Known.{Known}

-- the row that is lent
abbrev pub known_row : Known → KnownRow
known_row k = record { fs = k.fs; path = k.path.now }
