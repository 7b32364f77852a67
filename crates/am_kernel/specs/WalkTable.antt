-- The walks of those who wait, as a table, and what its fields keep: own choice, a walker has one
-- walk.
use Rattle.std.specs.Prelude.{◌≡◌, ◌≤◌, ℕ, ◌-◌, Bool, List, [], ◌∷◌, drop, None, is_some, nat_eq, vec_len, vec_capacity}
use Rattle.std.specs.Map.{lookup}
use Rattle.indexmap.specs.IndexMap.{spare}
use Rattle.am_kernel.specs.declared.row.WalkRow.{WalkRow}
use Rattle.am_kernel.specs.Resumes.{walk_in}
use Rattle.am_kernel.specs.declared.walks.Walks.TheInside.{Inside}

-- the walks of those who wait, and for how many more there is room
pub record WalkTable : Type 0 where
  -- the walk that each waiting walker began, in order of waiting
  pub rows : List WalkRow
  -- for how many walks more there is room, and for how many walkers
  pub room : ℕ
  pub seats : ℕ

-- the table that these fields hold: the rows that aren't over
abbrev pub table_of : Inside → WalkTable
table_of w = record {
  rows = drop w.over w.rows.items;
  room = vec_capacity w.rows - vec_len w.rows;
  seats = spare w.turns;
}

-- each walker has one walk at most
abbrev pub IsSingle : List WalkRow → Type 0
IsSingle [] = Unit {0}
IsSingle (row ∷ rows) = (walk_in rows row.walker ≡ None) × IsSingle rows

-- the walker has a turn
abbrev pub has_turn : List (ℕ × ℕ) → ℕ → Bool
has_turn turns walker = is_some (lookup (nat_eq walker) turns)

-- the walkers with a turn are those that have a walk
abbrev pub AreKnown : List (ℕ × ℕ) → List WalkRow → Type 0
AreKnown turns rows = (walker : ℕ) → has_turn turns walker ≡ is_some (walk_in rows walker)

-- as many rows are over as there are at most; each walker has one walk, and the walkers with a walk
-- are those that have a turn
pub record KeepsWalks (w : Inside) : Type 0 where
  pub within : w.over ≤ vec_len w.rows
  pub single : IsSingle (drop w.over w.rows.items)
  pub known : AreKnown w.turns.entries (drop w.over w.rows.items)
