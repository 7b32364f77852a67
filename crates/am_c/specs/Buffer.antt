-- What a caller's buffer holds behind a call: own choice (docs/USING.md, "From C").
use Rattle.std.specs.Prelude.{ℕ, List, ◌++◌, length, take, drop}

-- The buffer with these bytes at its front, or as many of them as it has room for. What stands
-- behind them is as it was.
abbrev pub with_front : List ℕ → List ℕ → List ℕ
with_front bytes buffer = take (length buffer) bytes ++ drop (length bytes) buffer
