-- Which walkers are inside which mounts: each is one use of its mount: own choice (docs/DECISIONS.md,
-- "`Uses` keeps which walker is inside which mount"; Linux: the references that `may_umount_tree` and
-- `propagate_mount_busy` count).
use Rattle.std.specs.Prelude.{◌≡◌, ℕ, ◌+◌, ◌==◌, Bool, not, is_some, List, [], ◌∷◌, ◌++◌, filter, find, Option, Some, None, if◌then◌else◌}
use Rattle.std.specs.List.{count_by, list_any}
use Rattle.std.specs.Option.{option_map}
use Rattle.am_names.specs.declared.errno.Errno.{Errno}
use Rattle.am_names.specs.declared.errno.Errno.TheVariants.{EINVAL}
use Rattle.am_expire.specs.declared.uses.Use.{Use}

-- nobody is inside a mount
abbrev pub no_uses : List Use
no_uses = []

-- the mount that a walker is inside of
abbrev pub mount_of_walker : List Use → ℕ → Option ℕ
mount_of_walker uses walker = option_map (λ row. row.mount) (find (λ row. row.walker == walker) uses)

-- how many walkers are inside the mount
abbrev pub use_count : List Use → ℕ → ℕ
use_count uses mount = count_by (λ row. row.mount == mount) uses

-- somebody is inside the mount
abbrev pub is_used : List Use → ℕ → Bool
is_used uses mount = list_any (λ row. row.mount == mount) uses

-- the test of `enter`: the walker isn't inside a mount
abbrev pub enter_refusal : ℕ → List Use → Option Errno
enter_refusal walker uses = if is_some (mount_of_walker uses walker) then Some EINVAL else None

-- the walker is inside the mount, the last who came
abbrev pub entered : ℕ → ℕ → List Use → List Use
entered walker mount uses = uses ++ (record { walker = walker; mount = mount }) ∷ []

-- the test of `leave`: the walker is inside a mount
abbrev pub leave_refusal : ℕ → List Use → Option Errno
leave_refusal walker uses = if is_some (mount_of_walker uses walker) then None else Some EINVAL

-- the walker isn't inside a mount
abbrev pub left : ℕ → List Use → List Use
left walker uses = filter (λ row. not (row.walker == walker)) uses

-- ---- the same as a finite map, and as counts

-- this walker is inside the mount now, and each other one where it was
abbrev pub IsInToo : ℕ → ℕ → List Use → List Use → Type 0
IsInToo walker mount old new =
    (w : ℕ) → mount_of_walker new w ≡ (if walker == w then Some mount else mount_of_walker old w)

-- this walker is inside no mount now, and each other one where it was
abbrev pub IsInNoMore : ℕ → List Use → List Use → Type 0
IsInNoMore walker old new =
    (w : ℕ) → mount_of_walker new w ≡ (if walker == w then None else mount_of_walker old w)

-- the mount has one use more, and each other one as many as before
abbrev pub HasOneMore : ℕ → List Use → List Use → Type 0
HasOneMore mount old new =
    (m : ℕ) → use_count new m ≡ use_count old m + (if mount == m then 1 else 0)
