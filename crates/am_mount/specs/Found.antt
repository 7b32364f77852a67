-- What is found out of mounts that an index lists: own choice.
use Rattle.std.specs.Prelude.{ℕ, Bool, false, is_none, List, Option, Some, None}
use Rattle.am_names.specs.{MountRow}
use Rattle.am_mount.specs.Rows.{mount_row, is_at}

-- there is a row, and it passes the test
abbrev pub passes_in : (MountRow → Bool) → Option MountRow → Bool
passes_in test None = false
passes_in test (Some row) = test row

-- the row of the mount passes the test
abbrev pub passes : (MountRow → Bool) → List MountRow → ℕ → Bool
passes test rows m = passes_in test (mount_row rows m)

-- the mount is there, and is mounted at this place of that one
abbrev pub stands_at : List MountRow → ℕ → List (List ℕ) → ℕ → Bool
stands_at rows parent place m = passes (is_at parent place) rows m

-- the mount is there, and is mounted nowhere
abbrev pub stands_alone : List MountRow → ℕ → Bool
stands_alone rows m = passes (λ row. is_none row.mountpoint) rows m
