-- The rows of the triggers, and the room that is made for more of them: own choice.
use Rattle.std.specs.Prelude.{ℕ, ◌≤◌}
use Rattle.am_trigger.specs.Rows.{TriggerRows}

-- the rows, with the room for more
pub record TriggerTable : Type 0 where
  pub rows : TriggerRows
  -- how many more autofs, and how many more last uses, take no memory
  pub autofs_room : ℕ
  pub use_room : ℕ

-- no less room than before
abbrev pub KeepsRoom : TriggerTable → TriggerTable → Type 0
KeepsRoom old new = (old.autofs_room ≤ new.autofs_room) × (old.use_room ≤ new.use_room)
