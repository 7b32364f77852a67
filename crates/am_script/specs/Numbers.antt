-- How scripts write numbers: own choice (docs/FORMATS.md, "Numbers and bytes").
use Rattle.std.specs.Prelude.{ℕ, ◌^◌, Bool, false, not, ◌&&◌, ◌||◌, ◌==◌, nat_lt, List, [], ◌∷◌, length, Option, None, Some, if◌then◌else◌}
use Rattle.std.specs.List.{list_all}
use Rattle.std.specs.Str.Parse.{digits_value}
use Rattle.am_lines.specs.{is_digit}

-- decimal digits without a sign, and no zero before others
abbrev pub is_numeral : List ℕ → Bool
is_numeral [] = false
is_numeral (digit ∷ digits) =
    list_all is_digit (digit ∷ digits) && (not (digit == 48) || length digits == 0)

-- the number that these digits are, if it is below the bound
abbrev pub number_read : ℕ → List ℕ → Option ℕ
number_read bound digits =
    if is_numeral digits && nat_lt (digits_value 10 digits) bound then Some (digits_value 10 digits)
    else None

-- a number of 8 bits: those of failures
abbrev pub u8_read : List ℕ → Option ℕ
u8_read digits = number_read (2 ^ 8) digits

-- a number of 32 bits: walkers, namespaces, file systems, tokens, jobs, limits, timeouts
abbrev pub u32_read : List ℕ → Option ℕ
u32_read digits = number_read (2 ^ 32) digits

-- a number of 64 bits: moments, and how long failures last
abbrev pub u64_read : List ℕ → Option ℕ
u64_read digits = number_read (2 ^ 64) digits
