-- How much of a text is left.
use Rattle.std.proofs.Common.{ℕ, ◌+◌, List, length, Option, None, Some}

-- how many bytes are left, one more counted
abbrev pub size_left : Option (List ℕ) → ℕ
size_left None = 0
size_left (Some text) = length text + 1
