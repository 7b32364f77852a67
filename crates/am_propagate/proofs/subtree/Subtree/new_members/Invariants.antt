use Rattle.std.proofs.Common.{◌≡◌, ◌+◌, ◌∷◌, take}
use Rattle.am_names.specs.{row_with}
use Rattle.am_names.specs.declared.membership.Membership.TheVariants.{InGroup}
use Rattle.am_group.specs.{copies_from}
use Rattle.am_propagate.specs.{stand_of}
use Rattle.am_propagate.proofs.subtree.Subtree.new_members.Given as goal

abbrev pub invariant-loop-receiver : goal.invariant-loop-receiver
invariant-loop-receiver l = record {
  number : l.number ≡ l.fn.mount + l.receiver-index;
  rows : l.members.items ≡ row_with (InGroup l.fn.stands.new) l.fn.mount ∷ copies_from (stand_of l.fn.stands) l.fn.self.groups (l.fn.mount + 1) (take l.receiver-index l.fn.receivers);
}
