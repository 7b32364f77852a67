-- A few mounts on one parent, and which of them are at places of a bucket: own choice.
use Rattle.std.specs.Prelude.{◌==◌, ℕ, Bool, not, List, map, filter}
use Rattle.am_mount.specs.declared.siblings.Child.{Child}

-- their mounts
abbrev pub mounts_of : List Child → List ℕ
mounts_of children = map (λ c. c.mount) children

-- the child is at a place of this bucket
abbrev pub is_placed : ℕ → Child → Bool
is_placed b child = child.bucket == b

-- the mounts of those that are at places of this bucket
abbrev pub placed_of : List Child → ℕ → List ℕ
placed_of children b = mounts_of (filter (is_placed b) children)

-- all of them but this mount
abbrev pub but_child : ℕ → List Child → List Child
but_child m children = filter (λ c. not (c.mount == m)) children
