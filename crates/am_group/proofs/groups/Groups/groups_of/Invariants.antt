use Rattle.std.proofs.Common.{take}
use Rattle.am_group.specs.{AreOfReceivers}
use Rattle.am_group.proofs.groups.Groups.groups_of.Given as goal

abbrev pub invariant-loop-receiver : goal.invariant-loop-receiver
invariant-loop-receiver l =
    AreOfReceivers l.fn.self (take l.receiver-index l.fn.receivers) l.groups.items
