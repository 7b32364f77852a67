-- What is looked up of lines and their mounts. For the code alone: own choice.
use Rattle.std.specs.Prelude.{List}
use Rattle.am_group.specs.{group_of}
use Rattle.am_propagate.specs.MountTable.{MountTable}
use Rattle.am_mountinfo.specs.{ArePaths}
use Rattle.am_import.specs.declared.likeness.Row.{Row}
use Rattle.am_import.specs.declared.told.Told.{Told}
use Rattle.am_import.specs.Firsts.{AreFirsts, AreShown}
use Rattle.am_import.specs.Likeness.{spaces_of, numbers_of, groups_of, told_of, ns_of, fs_of}

-- where the numbers and texts of these lines and their mounts first stand
pub record AreTold (told : Told) (t : MountTable) (rows : List Row) : Type 0 where
  pub spaces : AreFirsts told.spaces (spaces_of rows)
  pub numbers : AreFirsts told.numbers (numbers_of rows)
  pub groups : AreFirsts told.groups (groups_of rows)
  pub shown : AreShown told.shown rows
  pub namespaces : AreFirsts told.namespaces (told_of (ns_of t) rows)
  pub file_systems : AreFirsts told.file_systems (told_of (fs_of t) rows)
  pub peers : AreFirsts told.peers (told_of (group_of t.groups) rows)
  pub paths : ArePaths told.paths t.rows
