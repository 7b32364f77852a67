-- The maps of a master: for each of its lines, in order, the first section of that name. Own choice
-- (docs/FORMATS.md, "The head").
use Rattle.std.specs.Prelude.{ℕ, Bool, false, List, [], ◌∷◌, find, bytes_eq, Option, None, Some, Result, Ok, Err}
use Rattle.am_map.specs.{Row, map_read, MapFault, MapKind}
use Rattle.am_map.specs.declared.kind.MapKind.TheVariants as kinds
use Rattle.am_master.specs.MasterRow.{MasterRow}
use Rattle.am_master.specs.{Point}
use Rattle.am_master.specs.declared.point.Point.TheVariants.{Direct, Indirect}
use Rattle.am_machine.specs.{Setup}
use Rattle.am_script.specs.declared.fault.ScriptFault.{ScriptFault}
use Rattle.am_script.specs.declared.fault.ScriptFaultKind.TheVariants.{BadMap, NoSuchMap}
use Rattle.am_script.specs.Sections.{Section}
use Rattle.am_script.specs.Fault.{fault_in}
use Rattle.am_script.specs.Head.{Head}

-- it has a name, and it is this
abbrev pub is_named : List ℕ → Option (List ℕ) → Bool
is_named name None = false
is_named name (Some other) = bytes_eq other name

-- the first section of this name
abbrev pub section_for : List Section → List ℕ → Option Section
section_for sections name = find (λ section. is_named name section.name) sections

-- the map of `/-` is read as a direct one, any other as an indirect one
abbrev pub kind_for : Point → MapKind
kind_for Direct = kinds.Direct
kind_for (Indirect names) = kinds.Indirect

-- the rows of a map; its fault is told at the line of the script
abbrev pub rows_in : ℕ → Result (List Row) MapFault → Result (List Row) ScriptFault
rows_in first (Ok rows) = Ok rows
rows_in first (Err fault) = Err (fault_in first fault.line (BadMap fault.kind))

-- the section as the map of a line of the master section that begins at `first`
abbrev pub map_by : Option Section → ℕ → MasterRow → Result (List Row) ScriptFault
map_by None first row = Err (fault_in first row.line NoSuchMap)
map_by (Some section) first row = rows_in section.first (map_read (kind_for row.point) section.text)

-- a map before others, or the first fault
abbrev pub before_maps : Result (List Row) ScriptFault → Result (List (List Row)) ScriptFault → Result (List (List Row)) ScriptFault
before_maps (Ok rows) (Ok maps) = Ok (rows ∷ maps)
before_maps (Ok rows) (Err fault) = Err fault
before_maps (Err fault) maps = Err fault

-- the maps of the master's lines, or the fault of the first line whose map has one
abbrev pub maps_read : List Section → ℕ → List MasterRow → Result (List (List Row)) ScriptFault
maps_read sections first [] = Ok []
maps_read sections first (row ∷ rows) = before_maps (map_by (section_for sections row.map) first row) (maps_read sections first rows)

-- what a world begins with that has these maps
abbrev pub opening_with : Head → Result (List (List Row)) ScriptFault → Result Setup ScriptFault
opening_with head (Ok maps) = Ok (record { limits = head.limits; master = head.master.rows; maps = maps })
opening_with head (Err fault) = Err fault

-- what a world begins with, behind a whole head
abbrev pub opening_read : Head → Result Setup ScriptFault
opening_read head = opening_with head (maps_read head.maps head.master.first head.master.rows)
