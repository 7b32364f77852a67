-- What the fields of the daemon stand for, and the room in them: own choice (docs/DECISIONS.md,
-- "`am_daemon` keeps a job as `am_job` has it").
use Rattle.std.specs.Prelude.{min}
use Rattle.am_daemon.specs.declared.daemon.Daemon.TheInside.{Inside}
use Rattle.am_daemon.specs.State.{DaemonTable}

-- an attachment takes a row of each table
abbrev pub table_of : Inside → DaemonTable
table_of d = record {
  master = d.master;
  maps = d.maps.items;
  known = d.known.rows;
  held = d.held.rows;
  book = d.book.rows;
  jobs = d.jobs.rows;
  attach_room = min d.known.room d.held.room;
}
