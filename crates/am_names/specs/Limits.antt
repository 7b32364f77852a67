-- The ranges of the limits: own choice (docs/DECISIONS.md, "A sort of numbers that is used up is
-- ENOSPC").
use Rattle.std.specs.Prelude.{◌≤◌, ◌&&◌, Bool, nat_le}
use Rattle.am_names.specs.declared.limits.Limits.{Limits}

-- at least 1 each, and at most 65,536 waits; the other two are bounded by their type
pub record IsInRange (limits : Limits) : Type 0 where
  pub some_mounts : 1 ≤ limits.mounts
  pub some_waiters : 1 ≤ limits.waiters
  pub few_waiters : limits.waiters ≤ 65536
  pub some_tokens : 1 ≤ limits.tokens

-- The same as a test, which scripts make of what they read: the record is what holds of limits that
-- passed it.
abbrev pub is_in_range : Limits → Bool
is_in_range limits =
    nat_le 1 limits.mounts && nat_le 1 limits.waiters && nat_le limits.waiters 65536
    && nat_le 1 limits.tokens
