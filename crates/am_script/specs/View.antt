-- What the fields of a heading stand for, and what they keep.
use Rattle.std.specs.Prelude.{◌≤◌, ◌^◌, List, [], Option, None, Some}
use Rattle.am_names.specs.{IsInRange}
use Rattle.am_master.specs.{StandWithin}
use Rattle.am_master.specs.MasterRow.{MasterRow}
use Rattle.am_script.specs.declared.heading.Heading.TheInside.{Inside}
use Rattle.am_script.specs.Heading.{HeadSoFar}

-- the rows of a master; none of one that didn't come
abbrev pub rows_of : Option (List MasterRow) → List MasterRow
rows_of None = []
rows_of (Some rows) = rows

-- what the lines so far have said, as the fields keep it
abbrev pub view_of : Inside → HeadSoFar
view_of h = record {
  stage = h.stage;
  within = h.within;
  said = record { limits = h.limits; master = record { first = h.master_first; rows = rows_of h.master }; maps = h.maps.items };
}

-- the limits may be a world's, and the lines of faults fit
pub record IsSound (h : Inside) : Type 0 where
  pub range : IsInRange h.limits
  pub first : h.master_first ≤ 2 ^ 62
  pub lines : StandWithin (2 ^ 63) (rows_of h.master)
