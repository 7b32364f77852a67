-- The points of the master map, at which an autofs may be attached, and the maps that serve them
-- (auto.master(5), "FORMAT").
use Rattle.std.specs.Prelude.{ℕ, ◌==◌, Bool, true, false, is_some, List, [], Option, Some, None, find, slice_get, zip}
use Rattle.std.specs.List.{enumerate_from}
use Rattle.std.specs.Option.{option_map, option_map_or, option_or}
use Rattle.am_names.specs.{same_names}
use Rattle.am_names.specs.declared.trigger.Trigger.{Trigger}
use Rattle.am_map.specs.EntryText.{EntryText}
use Rattle.am_map.specs.{Row, row_for, entry_for, key_text}
use Rattle.am_master.specs.declared.point.Point.{Point as LinePoint}
use Rattle.am_master.specs.declared.point.Point.TheVariants.{Direct, Indirect}
use Rattle.am_master.specs.MasterRow.{MasterRow}
use Rattle.am_state.specs.{KnownRow}
use Rattle.am_daemon.specs.declared.served.Point.{Point}
use Rattle.am_daemon.specs.State.{DaemonState}

-- a line of the master map by its place, from 0, and the rows of its map
abbrev pub Line : Type 0
Line = ℕ × (MasterRow × List Row)

-- the line is of a direct map
abbrev pub is_direct : LinePoint → Bool
is_direct Direct = true
is_direct (Indirect names) = false

-- the point of the line is this path
abbrev pub has_point : List (List ℕ) → LinePoint → Bool
has_point path Direct = false
has_point path (Indirect names) = same_names names path

-- the line is of a direct map that has this path as a key
abbrev pub has_key : List (List ℕ) → LinePoint → List Row → Bool
has_key path Direct rows = is_some (row_for rows (key_text path))
has_key path (Indirect names) rows = false

-- the lines of the master, each beside its map
abbrev pub lines_of : DaemonState → List Line
lines_of d = enumerate_from 0 (zip d.master d.maps)

-- what serves a path: the line whose point it is, else the first `/-` line whose map has it as a
-- key
abbrev pub line_for : DaemonState → List (List ℕ) → Option Line
line_for d path =
    option_or (find (λ line. has_point path line.1.0.point) (lines_of d))
    (find (λ line. has_key path line.1.0.point line.1.1) (lines_of d))

-- the place of the line, and whether it is of a direct map
abbrev pub point_at : Line → Point
point_at line = record { entry = line.0; direct = is_direct line.1.0.point }

-- at this path an autofs may be attached, as this line has it
abbrev pub point_of : DaemonState → List (List ℕ) → Option Point
point_of d path = option_map point_at (line_for d path)

-- the timeout of the line at this place, 0 where there is none
abbrev pub line_timeout : DaemonState → ℕ → ℕ
line_timeout d entry = option_map_or (λ line. line.timeout) (slice_get d.master entry) 0

-- the rows of the map that serves a path
abbrev pub rows_at : DaemonState → List (List ℕ) → List Row
rows_at d path = option_map_or (λ line. line.1.1) (line_for d path) []

-- the path at which a file system was attached
abbrev pub path_of : List KnownRow → ℕ → Option (List (List ℕ))
path_of known fs = option_map (λ row. row.path) (find (λ row. row.fs == fs) known)

-- what is looked up: the name, or for a direct trigger the key of the path
abbrev pub key_of : Option (List ℕ) → List (List ℕ) → List ℕ
key_of (Some name) path = name
key_of None path = key_text path

-- the entry of a name, or of the path itself, in the map that serves the path, if there is one
abbrev pub entry_at : DaemonState → Option (List (List ℕ)) → Option (List ℕ) → Option EntryText
entry_at d None name = None
entry_at d (Some path) name = entry_for (rows_at d path) (key_of name path)

-- the entry of a trigger, in the map that serves the path at which its file system was attached
abbrev pub entry_of : DaemonState → Trigger → Option EntryText
entry_of d trigger = entry_at d (path_of d.known trigger.fs) trigger.name
