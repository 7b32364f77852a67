-- The invariant of a table of lanes: own choice.
use Rattle.std.specs.Prelude.{IfSome}
use Rattle.am_lanes.specs.declared.lanes.Lanes.TheInside.{Inside}
use Rattle.am_lanes.specs.Inside.{IsOnce, IsIndexOf}

-- no number has two lanes, and the index is theirs
pub record AreKept (t : Inside) : Type 0 where
  pub once : IsOnce t.holders.items
  pub indexed : IfSome t.index (IsIndexOf t.holders.items)
