use Rattle.std.proofs.Common.{◌≡◌, ◌++◌}
use Rattle.std.specs.VecDeque.Iter.{deque_iter_rest}
use Rattle.am_wait.specs.{held_tokens_of}
use Rattle.am_wait.proofs.held.tokens_of.Given as goal

abbrev pub invariant-loop-row : goal.invariant-loop-row
invariant-loop-row l = l.found.items ++ held_tokens_of (deque_iter_rest l.row-iterator) l.fs ≡ held_tokens_of l.tokens.items l.fs
