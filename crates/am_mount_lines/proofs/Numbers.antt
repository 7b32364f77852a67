-- Decimal digits are text, and std reads their number.
use Rattle.std.proofs.Common.{◌≡◌, ℕ, ◌^◌, ◌<◌, ◌==◌, not, zero, suc, true, false, List, [], ◌∷◌, length, Result, Ok, Err, refl, arith, rules, ltb}
use Rattle.std.proofs.lemmas.Bool.Decides.{nat_tests}
use Rattle.std.proofs.lemmas.Str.{IsUtf8-from_ascii}
use Rattle.std.proofs.lemmas.Str.Parse.{IsNumeralModel, numerals_by_value, parse_digits}
use Rattle.std.specs.List.{list_all}
use Rattle.std.specs.Result.{result_ok}
use Rattle.std.specs.Str.{IsAscii, IsUtf8}
use Rattle.std.specs.Str.Parse.{ParsesUnsigned, digits_value}
use Rattle.am_names.proofs.Basics.{left_of_and, right_of_and}
use Rattle.am_lines.specs.{is_digit}
use Rattle.am_mount_lines.specs.Traps.{is_number, number_below}

-- std reads decimal digits as `digits_value` does
std_reads_digits : IsNumeralModel (λ ds. list_all is_digit ds ≡ true) (digits_value 10)
std_reads_digits = numerals_by_value _ (search rules)

digits_of : (bytes : List ℕ) → is_number bytes ≡ true → list_all is_digit bytes ≡ true
digits_of [] e = absurd cc
digits_of (b ∷ bytes) e = right_of_and (not (length (b ∷ bytes) == 0)) (list_all is_digit (b ∷ bytes)) e

below_128 : (b : ℕ) → is_digit b ≡ true → b < 128
below_128 b e = grind (arith, nat_tests)

ascii : (bytes : List ℕ) → list_all is_digit bytes ≡ true → IsAscii bytes
ascii [] e i = omega arith
ascii (b ∷ bytes) e zero = below_128 b (left_of_and (is_digit b) (list_all is_digit bytes) e)
ascii (b ∷ bytes) e (suc i) = ascii bytes (right_of_and (is_digit b) (list_all is_digit bytes) e) i

pub number_is_text : (bytes : List ℕ) → is_number bytes ≡ true → IsUtf8 bytes
number_is_text bytes e = IsUtf8-from_ascii bytes (ascii bytes (digits_of bytes e))

some_byte : (bytes : List ℕ) → is_number bytes ≡ true → 0 < length bytes
some_byte [] e = absurd cc
some_byte (b ∷ bytes) e = grind arith

too_great : (n bound : ℕ) → (n < bound → ⊥) → ltb n bound ≡ false
too_great n bound h = search (rules, nat_tests)

pub number_is : {E : Type 0} (k : ℕ) (bytes : List ℕ) (r : Result ℕ E) → is_number bytes ≡ true →
    ParsesUnsigned k 10 bytes r → result_ok r ≡ number_below (2 ^ k) bytes
number_is {E} k bytes (Ok x) e h =
    let p : ((0 < length bytes) × (digits_value 10 bytes < 2 ^ k)) × (x ≡ digits_value 10 bytes) =
    parse_digits std_reads_digits {E = E} k bytes (Ok x) h (digits_of bytes e) in
    let fits : ltb (digits_value 10 bytes) (2 ^ k) ≡ true = grind (arith, nat_tests, p.0.1) in
    rw (e, fits, p.1) refl
number_is {E} k bytes (Err d) e h =
    let p = parse_digits std_reads_digits {E = E} k bytes (Err d) h (digits_of bytes e) in
    rw (e, too_great (digits_value 10 bytes) (2 ^ k) (λ fits. p (some_byte bytes e, fits))) refl
