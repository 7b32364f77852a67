-- The jobs as a table, and what its fields keep: own choice, a token has one job at most.
use Rattle.std.specs.Prelude.{◌≡◌, ◌≤◌, ℕ, ◌-◌, ◌==◌, min, Bool, false, List, [], ◌∷◌, map, drop, is_some, nat_eq, vec_len, vec_capacity}
use Rattle.std.specs.List.{list_any}
use Rattle.std.specs.Map.{lookup}
use Rattle.indexmap.specs.IndexMap.{spare}
use Rattle.am_job.specs.{JobState}
use Rattle.am_daemon.specs.declared.job_table.JobTable.TheInside.{Inside}

-- the jobs that have not ended, and the room for more
pub record JobRows : Type 0 where
  -- in order of delivery
  pub rows : List JobState
  -- how many more jobs take no memory
  pub room : ℕ

-- the table that these fields hold: the jobs behind those that ended
abbrev pub table_of : Inside → JobRows
table_of t = record {
  rows = drop t.over t.rows.items;
  room = min (vec_capacity t.rows - vec_len t.rows) (spare t.turns);
}

-- the tokens of the jobs
abbrev pub tokens_of : List JobState → List ℕ
tokens_of rows = map (λ row. row.token) rows

-- the token is one of these
abbrev pub is_among : ℕ → List ℕ → Bool
is_among token tokens = list_any (λ other. other == token) tokens

-- no token is there twice
abbrev pub IsSingle : List ℕ → Type 0
IsSingle [] = Unit {0}
IsSingle (token ∷ tokens) = (is_among token tokens ≡ false) × IsSingle tokens

-- the token has a turn
abbrev pub has_turn : List (ℕ × ℕ) → ℕ → Bool
has_turn turns token = is_some (lookup (nat_eq token) turns)

-- the tokens with a turn are these
abbrev pub AreKnown : List (ℕ × ℕ) → List ℕ → Type 0
AreKnown turns tokens = (token : ℕ) → has_turn turns token ≡ is_among token tokens

-- as many jobs ended as there are at most; each token has one job, and the tokens with a job are
-- those that have a turn
pub record KeepsJobs (t : Inside) : Type 0 where
  pub within : t.over ≤ vec_len t.rows
  pub single : IsSingle (tokens_of (drop t.over t.rows.items))
  pub known : AreKnown t.turns.entries (tokens_of (drop t.over t.rows.items))
