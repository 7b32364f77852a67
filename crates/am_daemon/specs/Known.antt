-- The paths at which file systems were attached, as they are kept: own choice (docs/DECISIONS.md,
-- "A map in order of insertion is a crate of its own").
use Rattle.std.specs.Prelude.{◌≡◌, ℕ, ◌+◌, ◌==◌, min, nat_eq, List, [], ◌∷◌, map, if◌then◌else◌}
use Rattle.std.specs.Map.{lookup}
use Rattle.std.specs.Option.{unwrap_or}
use Rattle.indexmap.specs.IndexMap.{spare}
use Rattle.am_names.specs.{bucket, text_of}
use Rattle.am_ordered.specs.RowTable.{RowTable}
use Rattle.am_state.specs.{KnownRow}
use Rattle.am_daemon.specs.Attachments.{AreOnce}
use Rattle.am_daemon.specs.declared.known.KnownTable.TheInside.{Inside}

-- a file system beside its path, as a row
abbrev pub row_of : (ℕ × List (List ℕ)) → KnownRow
row_of pair = record { fs = pair.0; path = pair.1 }

-- all of them
abbrev pub rows_of : List (ℕ × List (List ℕ)) → List KnownRow
rows_of pairs = map row_of pairs

-- the rows, and their room
abbrev pub table_of : Inside → RowTable KnownRow
table_of t = record {
  rows = rows_of t.places.entries;
  room = min t.places.room (spare t.buckets);
}

-- ---- buckets

-- the bucket of a path
abbrev pub bucket_of : List (List ℕ) → ℕ
bucket_of path = bucket (text_of path)

-- how many of the paths are in a bucket
abbrev pub in_bucket : List (ℕ × List (List ℕ)) → ℕ → ℕ
in_bucket [] b = 0
in_bucket (pair ∷ pairs) b = in_bucket pairs b + (if bucket_of pair.1 == b then 1 else 0)

-- the count of a bucket; one that has no entry has no path
abbrev pub counted : List (ℕ × ℕ) → ℕ → ℕ
counted counts b = unwrap_or (lookup (nat_eq b) counts) 0

-- the second counts one path more in the bucket
abbrev pub CountsOneMore : ℕ → List (ℕ × ℕ) → List (ℕ × ℕ) → Type 0
CountsOneMore b less more =
    (other : ℕ) → counted more other ≡ counted less other + (if b == other then 1 else 0)

-- for each bucket the paths in it are counted
abbrev pub AreCounts : List (ℕ × ℕ) → List (ℕ × List (List ℕ)) → Type 0
AreCounts counts pairs = (b : ℕ) → counted counts b ≡ in_bucket pairs b

-- of no file system are two paths known, and each path is counted
pub record IsKnown (t : Inside) : Type 0 where
  pub once : AreOnce (map (λ row. row.fs) (rows_of t.places.entries))
  pub counts : AreCounts t.buckets.entries t.places.entries
