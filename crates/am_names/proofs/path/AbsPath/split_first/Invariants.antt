use Rattle.std.proofs.Common.{◌≡◌, ℕ, List, length}
use Rattle.am_names.specs.{names_of, AreNames}
use Rattle.am_names.proofs.path.AbsPath.split_first.Given as goal

pub record Left (rest : List ℕ) (names : List (List ℕ)) : Type 0 where
  pub same : names_of rest ≡ names
  pub named : AreNames rest

abbrev pub invariant-loop-part : goal.invariant-loop-part
invariant-loop-part l = Left l.rest l.fn.self

abbrev pub decreases-loop-part : goal.decreases-loop-part
decreases-loop-part l = length l.rest
