-- What a pick looks at, as the code has it: own choice.
use Rattle.std.specs.Prelude.{◌≡◌, ℕ, List, [], slice_get, Option, Some, None, if◌then◌else◌}
use Rattle.am_names.specs.declared.trigger.Trigger.{Trigger}
use Rattle.am_expire.specs.declared.expiry.View.{View}
use Rattle.am_expire.specs.Pick.{Expiry, is_due, IsLeast}

-- what the references stand for
abbrev pub expiry_in : View → Expiry
expiry_in v = record {
  table = v.subtree.now;
  triggers = v.triggers.now.rows;
  waits = v.waits.now;
  uses = v.uses.now;
  fs = v.fs;
  timeout = v.timeout;
  moment = v.moment;
  immediate = v.immediate;
}

-- the least of these rows; none, where there is no row
abbrev pub IsBest : List (Trigger × ℕ) → Option (Trigger × ℕ) → Type 0
IsBest rows None = rows ≡ []
IsBest rows (Some best) = IsLeast rows best

-- the trigger of this row, if there is one and it is due
abbrev pub due_in : Expiry → Option (Trigger × ℕ) → Option Trigger
due_in e None = None
due_in e (Some row) =
    if is_due e.timeout e.moment e.immediate row.1 then Some row.0 else None

-- the trigger of the row at this index, if there is one and it is due
abbrev pub due_at : Expiry → List (Trigger × ℕ) → ℕ → Option Trigger
due_at e rows index = due_in e (slice_get rows index)
