use Rattle.std.proofs.Common.{◌≡◌, ◌++◌, take}
use Rattle.std.specs.Option.{option_to_list}
use Rattle.am_group.specs.{group_copies}
use Rattle.am_propagate.specs.{stand_of}
use Rattle.am_propagate.proofs.subtree.Subtree.new_groups.Given as goal

abbrev pub invariant-loop-group : goal.invariant-loop-group
invariant-loop-group l = l.rows.items ≡ option_to_list l.fn.fresh ++ group_copies (stand_of l.fn.stands) l.fn.self.groups (take l.group-index l.fn.stands.groups.items)
