-- The paths of mounts as they are kept. For the code alone: own choice.
use Rattle.std.specs.Prelude.{◌≡◌, ◌==◌, ℕ, nat_eq, List, [], Option, None, Some, Vec, if◌then◌else◌}
use Rattle.indexmap.specs.IndexMap.{get}
use Rattle.am_names.specs.{MountRow}
use Rattle.am_mountinfo.specs.declared.paths.Paths.{Paths}
use Rattle.am_mountinfo.specs.Mountinfo.{below, parent_of, path_of}

-- the text, if one is kept
abbrev pub text_in : {Z : Type 0} → Option (Vec ℕ Z) → List ℕ
text_in None = []
text_in (Some text) = text.items

-- the path that is kept of a mount; none is as that of a root
abbrev pub path_in : Paths → ℕ → List ℕ
path_in paths m = text_in (get nat_eq paths.texts m)

-- the paths of these mounts are kept
abbrev pub ArePaths : Paths → List MountRow → Type 0
ArePaths paths rows = (m : ℕ) → path_in paths m ≡ path_of rows m

-- that of this mount is kept too, below that of its parent
abbrev pub HasOneMore : MountRow → Paths → Paths → Type 0
HasOneMore row old new =
    (m : ℕ) →
    path_in new m ≡
    (if row.mount == m then below (path_in old (parent_of row)) row.mountpoint else path_in old m)
