use Rattle.std.proofs.Common.{◌≡◌, ◌++◌, length}
use Rattle.am_names.proofs.path.AbsPath.to_place.Given as goal

abbrev pub invariant-loop-name : goal.invariant-loop-name
invariant-loop-name l = l.place ++ l.path ≡ l.fn.self

abbrev pub decreases-loop-name : goal.decreases-loop-name
decreases-loop-name l = length l.path
