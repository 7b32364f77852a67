-- What the fields of an ordered map stand for: own choice (docs/DECISIONS.md, "A map in order of
-- insertion is a crate of its own").
use Rattle.std.specs.Prelude.{ℕ, ◌-◌, min, Bool, List, Option, slice_get, length}
use Rattle.std.specs.List.{filter_map}
use Rattle.std.specs.Option.{option_map}
use Rattle.std.specs.VecDeque.{deque_len, deque_capacity}
use Rattle.std.specs.declared.collections.VecDeque.{VecDeque}
use Rattle.indexmap.specs.IndexMap.{IndexMap, spare, IsUnique}
use Rattle.am_ordered.specs.Order.{IsOrderOf}
use Rattle.am_ordered.specs.Capacity.{OrderedTable}
use Rattle.am_ordered.specs.declared.ordered.Slot.{Slot}

module _ {K V : Type 0} where
  -- a slot's key with its value
  abbrev pub row_of : (K × Slot V) → (K × V)
  row_of slot = (slot.0, slot.1.value)

  -- the row at this place
  abbrev pub row_at : List (K × Slot V) → ℕ → Option (K × V)
  row_at slots place = option_map row_of (slice_get slots place)

  -- the rows, in the order in which their places are listed
  abbrev pub rows_of : List (K × Slot V) → List ℕ → List (K × V)
  rows_of slots order = filter_map (row_at slots) order

  -- the map, where one queue lists the places of the slots
  abbrev pub table_of : {S Z : Type 0} → IndexMap K (Slot V) S → VecDeque ℕ Z → OrderedTable K V
  table_of slots order = record {
    entries = rows_of slots.entries order.items;
    room = min (spare slots) (deque_capacity order - deque_len order);
  }

  -- the queue lists each slot once, and no key has two
  abbrev pub IsOrdered : {S Z : Type 0} → (K → K → Bool) → IndexMap K (Slot V) S → VecDeque ℕ Z →
      Type 0
  IsOrdered eq slots order = IsOrderOf (length slots.entries) order.items × IsUnique eq slots
