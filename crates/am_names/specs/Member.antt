-- The row of a mount (sharedsubtree.rst, 5a): its peer group if it is shared, its master if it is a
-- slave that is not shared, and whether it is private and not to be bound.
use Rattle.std.specs.Prelude.{ℕ, Bool, Option}

pub record MemberRow : Type 0 where
  pub mount : ℕ
  pub group : Option ℕ
  pub master : Option ℕ
  pub unbindable : Bool
