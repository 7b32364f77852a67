-- What a shared world is made of.
use Rattle.std.specs.Prelude.{◌≡◌, ◌≤◌, ◌<◌, ◌+◌, ◌^◌, ◌++◌, ℕ, length, vec_len, vec_capacity}
use Rattle.std.specs.VecDeque.{deque_len, deque_capacity}
use Rattle.am_shared.specs.declared.parts.Parts.{Parts}
use Rattle.am_shared.specs.Sharing.{Sharing}

-- what contracts see of it
abbrev pub sharing_of : Parts → Sharing
sharing_of p = record {
  world = p.world;
  history = p.taken.items ++ p.history.items;
  taken = length p.taken.items;
  put = p.put;
  unsent = p.unsent.items;
  keep = p.keep;
}

-- it counts the events that were taken, and each event has a position that fits
abbrev pub IsCounted : Parts → Type 0
IsCounted p = (p.before ≡ length p.taken.items) × (p.before + vec_len p.history < 2 ^ 64)

-- there is room for so many events more
pub record HasRoom (p : Parts) (events : ℕ) : Type 0 where
  pub history : vec_len p.history + events ≤ vec_capacity p.history
  pub unsent : deque_len p.unsent + events ≤ deque_capacity p.unsent
