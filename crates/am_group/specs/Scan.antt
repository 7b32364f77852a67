-- The numbers of mounts, and whether a peer group is one of some: own choice, as numbers stand for
-- mounts and groups.
use Rattle.std.specs.Prelude.{ℕ, Bool, false, List, map, Option, Some, None}
use Rattle.am_names.specs.{MemberRow, is_among}

-- the numbers of these mounts
abbrev pub numbers : List MemberRow → List ℕ
numbers members = map (λ row. row.mount) members

-- there is a group, and it is one of these
abbrev pub is_one_of : List ℕ → Option ℕ → Bool
is_one_of groups None = false
is_one_of groups (Some g) = is_among groups g
