-- What a tree keeps inside.
use Rattle.am_mount.specs.declared.tree.Tree.TheInside.{Inside}
use Rattle.am_mount.specs.Rows.{IsRising}
use Rattle.am_mount.specs.Indexed.{AreIndexed}

-- the rows rise, and are indexed
pub record IsOrdered (t : Inside) : Type 0 where
  pub rising : IsRising t.rows.rows
  pub indexed : AreIndexed t.rows.rows t.indexes
