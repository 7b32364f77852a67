-- A number that is printed is read back, and what is read is what is printed of it.
use Rattle.std.proofs.Common.{◌≡◌, ℕ, zero, suc, ◌+◌, ◌^◌, ◌<◌, ◌≤◌, Bool, true, false, cond, ltb, ◌&&◌, ◌||◌, not, List, [], ◌∷◌, ◌++◌, length, take, drop, get_or, Some, None, refl, sym, ap, ◌∙◌, subst, arith, rules}
use Rattle.std.specs.Prelude.{◌==◌, decimal}
use Rattle.std.specs.List.{list_all, position_or_len}
use Rattle.std.specs.Str.Parse.{digits_value}
use Rattle.std.proofs.lemmas.Bool.{eq-eqb, ltb-true}
use Rattle.std.proofs.lemmas.Bool.Decides.{nat_tests}
use Rattle.std.proofs.lemmas.Fmt.{digits_decimal, digits_value-decimal, decimal_digit, decimal_nonempty, first_decimal, decimal-digits_value}
use Rattle.std.proofs.lemmas.Str.Parse.{IsNumeralModel, numerals_by_value}
use Rattle.am_names.proofs.Basics.{left_of_and, right_of_and, both_of_and, and_of_both, equal_by_test}
use Rattle.am_lines.specs.{is_digit}
use Rattle.am_script.specs.{is_numeral, number_read}
use Rattle.am_traces.specs.Parts.{is_no_digit, digits_in}

-- ---- lists

pub take_front : (xs ys : List ℕ) → take (length xs) (xs ++ ys) ≡ xs
take_front [] ys = refl
take_front (x ∷ xs) ys = ap (λ (l : List ℕ). x ∷ l) (take_front xs ys)

pub drop_front : (xs ys : List ℕ) → drop (length xs) (xs ++ ys) ≡ ys
drop_front [] ys = refl
drop_front (x ∷ xs) ys = drop_front xs ys

-- ---- digits

pub own : IsNumeralModel (λ ds. list_all is_digit ds ≡ true) (digits_value 10)
own = numerals_by_value _ (search rules)

-- no digit stands first
abbrev pub ends_digits : List ℕ → Bool
ends_digits [] = true
ends_digits (b ∷ rest) = not (is_digit b)

stops : (t : Bool) (n : ℕ) → not t ≡ true → cond (not (not t)) n 0 ≡ 0
stops true n e = absurd cc
stops false n e = refl

goes : (t : Bool) (n m : ℕ) → t ≡ true → n ≡ m → cond (not (not t)) (1 + n) 0 ≡ suc m
goes true n m e h = omega arith
goes false n m e h = absurd cc

end_of_digits : (ds rest : List ℕ) → list_all is_digit ds ≡ true → ends_digits rest ≡ true → position_or_len is_no_digit (ds ++ rest) ≡ length ds
end_of_digits [] [] h e = refl
end_of_digits [] (b ∷ rest) h e = stops (is_digit b) (1 + position_or_len is_no_digit rest) e
end_of_digits (d ∷ ds) rest h e =
    goes (is_digit d) (position_or_len is_no_digit (ds ++ rest)) (length ds)
    (left_of_and (is_digit d) (list_all is_digit ds) h)
    (end_of_digits ds rest (right_of_and (is_digit d) (list_all is_digit ds) h) e)

digits_before : (ds rest : List ℕ) → list_all is_digit ds ≡ true → ends_digits rest ≡ true → digits_in (ds ++ rest) ≡ ds
digits_before ds rest h e =
    ap (λ (n : ℕ). take n (ds ++ rest)) (end_of_digits ds rest h e) ∙ take_front ds rest

pub digits_of_number : (n : ℕ) (rest : List ℕ) → n < 2 ^ 64 → ends_digits rest ≡ true → digits_in (decimal n ++ rest) ≡ decimal n
digits_of_number n rest h e = digits_before (decimal n) rest (digits_decimal own n h) e

-- ---- numerals

either : (a b : Bool) → (a ≡ true → b ≡ true) → (not a || b) ≡ true
either true b h = h refl
either false b h = refl

second : (a b : Bool) → (not a || b) ≡ true → a ≡ true → b ≡ true
second true b h e = h
second false b h e = absurd cc

numeral_from : (ds : List ℕ) → list_all is_digit ds ≡ true → 0 < length ds → (get_or ds 0 0 ≡ 48 → length ds ≡ 1) → is_numeral ds ≡ true
numeral_from [] a b c = absurd (omega arith)
numeral_from (d ∷ ds) a b c =
    and_of_both (list_all is_digit (d ∷ ds)) (not (d == 48) || (length ds == 0)) a
    (either (d == 48) (length ds == 0) (λ e.
    let one : length (d ∷ ds) ≡ 1 = c (equal_by_test d 48 e) in
    eq-eqb (length ds) 0 (omega (arith, one))))

no_zero_first : (n : ℕ) → n < 2 ^ 64 → get_or (decimal n) 0 0 ≡ 48 → length (decimal n) ≡ 1
no_zero_first zero h e = ap length (decimal_digit 0 (omega arith))
no_zero_first (suc n) h e = absurd (omega (arith, first_decimal (suc n) (omega arith) h))

decimal_is_numeral : (n : ℕ) → n < 2 ^ 64 → is_numeral (decimal n) ≡ true
decimal_is_numeral n h = numeral_from (decimal n) (digits_decimal own n h) (decimal_nonempty n h) (no_zero_first n h)

pub number_back : (bound n : ℕ) → n < bound → bound ≤ 2 ^ 64 → number_read bound (decimal n) ≡ Some n
number_back bound n h small =
    let wide : n < 2 ^ 64 = omega arith in
    let fits : ltb n bound ≡ true = grind (arith, nat_tests) in
    rw (decimal_is_numeral n wide, digits_value-decimal own n wide, fits) refl

digits_of : (ds : List ℕ) → is_numeral ds ≡ true → list_all is_digit ds ≡ true
digits_of [] e = absurd cc
digits_of (d ∷ ds) e = left_of_and (list_all is_digit (d ∷ ds)) _ e

some_digit : (ds : List ℕ) → is_numeral ds ≡ true → 0 < length ds
some_digit [] e = absurd cc
some_digit (d ∷ ds) e = grind arith

one_zero : (ds : List ℕ) → is_numeral ds ≡ true → get_or ds 0 0 ≡ 48 → length ds ≡ 1
one_zero [] e z = absurd cc
one_zero (d ∷ ds) e z =
    let alone = second (d == 48) (length ds == 0) (right_of_and (list_all is_digit (d ∷ ds)) (not (d == 48) || (length ds == 0)) e) (eq-eqb d 48 z) in
    let none : length ds ≡ 0 = equal_by_test (length ds) 0 alone in
    omega (arith, none)

pub some_where : {X : Type 0} (b : Bool) (x y : X) → cond b (Some x) None ≡ Some y → (b ≡ true) × (x ≡ y)
some_where true x y e = (refl, cc)
some_where false x y e = absurd cc

pub number_is_printed : (bound n : ℕ) (ds : List ℕ) → number_read bound ds ≡ Some n → bound ≤ 2 ^ 64 → (ds ≡ decimal n) × (n < bound)
number_is_printed bound n ds e small =
    let h = some_where (is_numeral ds && ltb (digits_value 10 ds) bound) (digits_value 10 ds) n e in
    let both = both_of_and (is_numeral ds) (ltb (digits_value 10 ds) bound) h.0 in
    let fits : digits_value 10 ds < bound = ltb-true _ _ both.1 in
    let same : decimal (digits_value 10 ds) ≡ ds =
    decimal-digits_value own ds (digits_of ds both.0) (some_digit ds both.0) (one_zero ds both.0) (omega arith) in
    (sym same ∙ ap decimal h.1, subst (λ (m : ℕ). m < bound) h.1 fits)
