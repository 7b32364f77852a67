use Rattle.std.proofs.Common.{◌≡◌, [], length, take}
use Rattle.std.specs.Prelude.{option_map}
use Rattle.std.specs.List.{filter_map}
use Rattle.am_group.specs.{all_added, member_row}
use Rattle.am_propagate.specs.{copy_number, member_in}
use Rattle.am_propagate.proofs.subtree.namespace.add_members_in.Given as goal

abbrev pub invariant-loop-at : goal.invariant-loop-at
invariant-loop-at l = record {
  groups : l.groups ≡ all_added (filter_map (λ m. option_map (member_in l.fn.form (copy_number l.fn.last l.fn.mounts)) (member_row l.fn.groups.members m)) (take l.at l.fn.mounts)) [] l.fn.groups;
  count : length (filter_map (λ m. option_map (member_in l.fn.form (copy_number l.fn.last l.fn.mounts)) (member_row l.fn.groups.members m)) (take l.at l.fn.mounts)) ≡ l.at;
}
