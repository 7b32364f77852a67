-- What the fields stand for, and what they keep.
use Rattle.std.specs.Prelude.{◌≡◌, ℕ, ◌-◌, min, List, [], ◌∷◌, map, None}
use Rattle.std.specs.VecDeque.{deque_len, deque_capacity}
use Rattle.am_trigger.specs.{TriggerTable}
use Rattle.am_expire.specs.declared.uses.Use.{Use}
use Rattle.am_expire.specs.declared.uses.Uses.TheInside.{Inside}
use Rattle.am_expire.specs.Uses.{mount_of_walker, use_count}
use Rattle.am_expire.specs.Counts.{counted}
use Rattle.am_expire.specs.Order.{IsListed}
use Rattle.am_expire.specs.declared.ordered.OrderedTriggers.TheInside as ordered

-- an entry of the index is a use: a walker with its mount
abbrev pub use_of : ℕ × ℕ → Use
use_of entry = record { walker = entry.0; mount = entry.1 }

-- the uses, in order of entering
abbrev pub rows_of : Inside → List Use
rows_of u = map use_of u.mounts.entries

-- each walker is inside one mount at most
abbrev pub IsSingle : List Use → Type 0
IsSingle [] = Unit {0}
IsSingle (row ∷ rows) = (mount_of_walker rows row.walker ≡ None) × IsSingle rows

-- these are the counts of all mounts
abbrev pub AreCounts : List (ℕ × ℕ) → List Use → Type 0
AreCounts counts rows = (mount : ℕ) → counted counts mount ≡ use_count rows mount

-- each walker is inside one mount, and the counts are those of the walkers
pub record IsKept (u : Inside) : Type 0 where
  pub single : IsSingle (rows_of u)
  pub counts : AreCounts u.counts.entries (rows_of u)

-- there is room for a last use where there is room for it in the order too
abbrev pub ordered_of : ordered.Inside → TriggerTable
ordered_of t = record {
  rows = t.triggers.rows;
  autofs_room = t.triggers.autofs_room;
  use_room = min t.triggers.use_room (deque_capacity t.order.places - deque_len t.order.places);
}

-- the order lists all last uses
abbrev pub IsOrdered : ordered.Inside → Type 0
IsOrdered t = IsListed t.triggers.rows.uses t.order.places.items
