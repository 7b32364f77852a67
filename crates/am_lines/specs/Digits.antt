-- Decimal digits (own choice: docs/DECISIONS.md, "Numbers of a script have no sign and no leading
-- zeros"; auto.master(5), "OPTIONS").
use Rattle.std.specs.Prelude.{ℕ, ◌&&◌, nat_le, Bool}

-- the byte is one of the digits 0 to 9
abbrev pub is_digit : ℕ → Bool
is_digit b = nat_le 48 b && nat_le b 57
