-- Mounts by the bucket of their place: own choice (Linux: the hash of a mountpoint's dentry).
use Rattle.std.specs.Prelude.{◌==◌, ℕ, Bool, false, Option, Some, None}
use Rattle.am_names.specs.{bucket, text_of, MountRow, Position}

-- there is a position, and it is of this bucket
abbrev pub is_position_in : ℕ → Option Position → Bool
is_position_in b None = false
is_position_in b (Some position) = bucket (text_of position.place) == b

-- the mount is mounted at a place of this bucket
abbrev pub is_in_bucket : ℕ → MountRow → Bool
is_in_bucket b row = is_position_in b row.mountpoint
