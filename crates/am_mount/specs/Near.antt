-- How many rows move where mounts are taken out one by one, and mounts that are numbered one after
-- another: own choice.
use Rattle.std.specs.Prelude.{◌≡◌, ◌+◌, ◌-◌, ℕ, nat_le, min, List, [], ◌∷◌, length}
use Rattle.std.specs.List.{position_or_len, slice_index}
use Rattle.am_names.specs.{MountRow}

-- how many rows stand in front of that of this number and those of greater ones
abbrev pub rows_below : List MountRow → ℕ → ℕ
rows_below rows m = position_or_len (λ row. nat_le m row.mount) rows

-- so many rows move at most where one of these mounts is taken out, which stand in order of
-- number: those in front of the last of them that stay, or those from the first on
abbrev pub most_moved : List MountRow → List ℕ → ℕ
most_moved rows gone =
    min (rows_below rows (slice_index gone (length gone - 1)) - (length gone - 1))
    (length rows - rows_below rows (slice_index gone 0))

-- the mounts are numbered one after another, from this number on
abbrev pub AreNumberedFrom : ℕ → List ℕ → Type 0
AreNumberedFrom n [] = Unit {0}
AreNumberedFrom n (m ∷ mounts) = (m ≡ n) × AreNumberedFrom (n + 1) mounts

-- the mounts are numbered one after another, from that of the first row on
abbrev pub AreNumberedAlike : List MountRow → List ℕ → Type 0
AreNumberedAlike [] mounts = ⊥
AreNumberedAlike (row ∷ rows) mounts = AreNumberedFrom row.mount mounts
