-- A number never falls as its digits are read.
use Rattle.std.proofs.Common.{◌≡◌, ℕ, ◌+◌, ◌*◌, ◌-◌, ◌≤◌, ◌<◌, false, List, [], ◌∷◌, length, get_or, arith}
use Rattle.std.proofs.lemmas.Bool.Decides.{nat_tests}
use Rattle.std.specs.Prelude.{fold, nat_le}

pub decimal-rises : (n : ℕ) (digits : List ℕ) → n ≤ fold (λ m digit. m * 10 + (digit - 48)) n digits
decimal-rises n [] = omega arith
decimal-rises n (digit ∷ digits) = omega (arith, decimal-rises (n * 10 + (digit - 48)) digits)

pub too_big : (number total : ℕ) (rest : List ℕ) → 1 ≤ length rest → fold (λ m digit. m * 10 + (digit - 48)) number rest ≡ total → 4294967295 < number * 10 + (get_or rest 0 0 - 48) → nat_le total 4294967295 ≡ false
too_big number total [] long e big = absurd (omega arith)
too_big number total (digit ∷ digits) long e big =
    let above : number * 10 + (digit - 48) ≤ total = omega (arith, decimal-rises (number * 10 + (digit - 48)) digits, e) in
    let past : 4294967295 < total = omega (arith, above, big) in
    grind (arith, nat_tests, past)
