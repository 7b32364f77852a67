-- The path of a mount from the root of its namespace: through the mounts that it is mounted on. Own
-- choice (docs/FORMATS.md, "Pictures").
use Rattle.std.specs.Prelude.{ℕ, zero, suc, ◌==◌, List, ◌++◌, [], length, take, drop, codes, Option, None, Some, if◌then◌else◌}
use Rattle.am_names.specs.{MountRow, Position, text_of}
use Rattle.am_mount.specs.{mount_row}
use Rattle.am_draw.specs.Words.{words}

-- where the mount of this row is mounted; a root is mounted nowhere
abbrev pub point_in : Option MountRow → Option Position
point_in None = None
point_in (Some row) = row.mountpoint

-- where the mount is mounted
abbrev pub point_of : List MountRow → ℕ → Option Position
point_of rows mount = point_in (mount_row rows mount)

-- the path to a mountpoint: that of the mount on which it is, and the place there. It goes over at most
-- so many mounts, and three dots tell of others.
abbrev pub path_to : ℕ → List MountRow → Option Position → List ℕ
path_to most rows None = []
path_to zero rows (Some point) = codes "..."
path_to (suc most) rows (Some point) =
    path_to most rows (point_of rows point.mount) ++ text_of point.place

-- the path of a mount, which goes over sixteen mounts at most
abbrev pub path_of : List MountRow → ℕ → List ℕ
path_of rows mount = path_to 16 rows (point_of rows mount)

-- the same as text, cut in its middle: so many of its first and last bytes stay; a root's is one slash
abbrev pub path_words : ℕ → List ℕ → List ℕ
path_words half path = if length path == 0 then codes "/" else words half path

-- the bytes from one place to another
abbrev pub between : ℕ → ℕ → List ℕ → List ℕ
between from to bytes = drop from (take to bytes)
