use Rattle.std.proofs.Common.{◌≡◌, ◌-◌, length, take}
use Rattle.am_mount.proofs.tree.Tree.take_back.Given as goal

abbrev pub invariant-loop : goal.invariant-loop
invariant-loop l = l.self ≡ take (length l.fn.self - l.counter) l.fn.self
