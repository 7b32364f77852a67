-- What the slots of rows side by side stand for: own choice (docs/DECISIONS.md, "A map in order of
-- insertion is a crate of its own").
use Rattle.std.specs.Prelude.{ℕ, ◌-◌, ◌≤◌, drop, Vec, vec_len, vec_capacity}
use Rattle.am_ordered.specs.RowTable.{RowTable}

-- the rows behind those that went
abbrev pub table_of : {T Z : Type 0} → Vec T Z → ℕ → RowTable T
table_of slots gone = record {
  rows = drop gone slots.items;
  room = vec_capacity slots - vec_len slots;
}

-- as many went as there are slots at most
abbrev pub IsWithin : {T Z : Type 0} → Vec T Z → ℕ → Type 0
IsWithin slots gone = gone ≤ vec_len slots
