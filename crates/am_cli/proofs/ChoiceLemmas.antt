-- Choices are read one behind the other.
use Rattle.std.proofs.Common.{◌++◌, ℕ, List, Option, None, Some}

-- these, and what is read behind them
abbrev pub onto : List ℕ → Option (List ℕ) → Option (List ℕ)
onto front None = None
onto front (Some numbers) = Some (front ++ numbers)
