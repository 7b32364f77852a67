-- What is told behind an imported script: own choice (docs/FORMATS.md, "Imported").
use Rattle.std.specs.Prelude.{ℕ, List, ◌++◌, codes, decimal, Option, None, Some}
use Rattle.std.specs.List.{flat_map}
use Rattle.am_mount_lines.specs.{MountLine}
use Rattle.am_propagate.specs.MountTable.{MountTable}
use Rattle.am_import.specs.declared.likeness.Row.{Row}
use Rattle.am_import.specs.declared.likeness.Unlike.{Unlike}
use Rattle.am_import.specs.declared.likeness.Unlike.TheVariants.{Missing, Namespace, Parent, Path, FileSystem, PeerGroup, Master, Unbindable}
use Rattle.am_import.specs.Likeness.{unlikeness}

-- the line that is told of
abbrev pub line_text : MountLine → List ℕ
line_text line = codes "# namespace " ++ decimal line.space ++ (codes " mount " ++ decimal line.number)

-- in what its mount is unlike it
abbrev pub unlike_text : Option Unlike → List ℕ
unlike_text None = codes "\n"
unlike_text (Some Missing) = codes ", which isn't there\n"
unlike_text (Some Namespace) = codes ", but for its namespace\n"
unlike_text (Some Parent) = codes ", but for what it is mounted on\n"
unlike_text (Some Path) = codes ", but for its path\n"
unlike_text (Some FileSystem) = codes ", but for what it shows\n"
unlike_text (Some PeerGroup) = codes ", but for its peer group\n"
unlike_text (Some Master) = codes ", but for its master\n"
unlike_text (Some Unbindable) = codes ", but for unbindable\n"

-- the mount that stands for it
abbrev pub seat_text : Option ℕ → Option Unlike → List ℕ
seat_text None unlike = codes ": none\n"
seat_text (Some m) unlike = codes ": mount " ++ decimal m ++ unlike_text unlike

-- what is told of a line
abbrev pub note_text : MountTable → List Row → Row → List ℕ
note_text t rows row = line_text row.line ++ seat_text row.seat (unlikeness t rows row)

-- a line for each of these
abbrev pub notes_text : MountTable → List Row → List ℕ
notes_text t rows = flat_map (note_text t rows) rows
