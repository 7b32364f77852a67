-- What a line of the master map says (auto.master(5), "FORMAT").
use Rattle.std.specs.Prelude.{ℕ, List}
use Rattle.am_master.specs.declared.point.Point.{Point}

-- the mount point, the name of its map, the timeout in seconds, and the first raw line of the line
pub record MasterRow : Type 0 where
  pub point : Point
  pub map : List ℕ
  pub timeout : ℕ
  pub line : ℕ
