-- How many walkers are inside each mount, as the index of mounts has it: own choice
-- (docs/DECISIONS.md, "`Uses` keeps which walker is inside which mount").
use Rattle.std.specs.Prelude.{◌≡◌, ℕ, ◌+◌, ◌==◌, nat_eq, List, if◌then◌else◌}
use Rattle.std.specs.Map.{lookup}
use Rattle.std.specs.Option.{unwrap_or}

-- the count of a mount; one that has no entry has no use
abbrev pub counted : List (ℕ × ℕ) → ℕ → ℕ
counted counts mount = unwrap_or (lookup (nat_eq mount) counts) 0

-- the second counts one use of the mount more
abbrev pub CountsOneMore : ℕ → List (ℕ × ℕ) → List (ℕ × ℕ) → Type 0
CountsOneMore mount less more =
    (m : ℕ) → counted more m ≡ counted less m + (if mount == m then 1 else 0)
