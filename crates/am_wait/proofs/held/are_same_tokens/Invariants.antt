use Rattle.std.proofs.Common.{◌≡◌, ◌≤◌, length, take}
use Rattle.am_wait.specs.{tokens_in}
use Rattle.am_wait.proofs.held.are_same_tokens.Given as goal

-- the tokens before this one are the same
abbrev pub invariant-loop-at : goal.invariant-loop-at
invariant-loop-at l =
    (take l.at (tokens_in l.fn.slab l.fn.tokens.items) ≡ take l.at (tokens_in l.fn.others l.fn.other_tokens.items)) ×
    (l.at ≤ length l.fn.tokens.items)
