-- A part of the order in which triggers come to expire, over which a pick goes: own choice.
use Rattle.std.specs.Prelude.{ℕ, ◌-◌, ◌≤◌, List, length, take, drop}
use Rattle.am_names.specs.declared.trigger.Trigger.{Trigger}
use Rattle.am_expire.specs.declared.order.Part.{Part}
use Rattle.am_expire.specs.Order.{rows_at, IsListed}

-- the last uses of the part, in order
abbrev pub rows_in : Part → List (Trigger × ℕ)
rows_in part =
    take (part.end - part.start) (drop part.start (rows_at part.triggers.now.rows.uses part.places.now.items))

-- the part lies within the order, which lists all last uses
pub record IsPart (part : Part) : Type 0 where
  pub listed : IsListed part.triggers.now.rows.uses part.places.now.items
  pub up : part.start ≤ part.end
  pub within : part.end ≤ length part.places.now.items
