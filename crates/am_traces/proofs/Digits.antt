-- The digits with which a text begins.
use Rattle.std.proofs.Common.{◌≡◌, ℕ, ◌≤◌, ◌<◌, Bool, true, false, cond, ltb, List, length, Some, None, refl, arith}
use Rattle.std.specs.Prelude.{position}
use Rattle.std.specs.List.{position_or_len, before_first}
use Rattle.std.proofs.lemmas.List.{length-take}
use Rattle.std.proofs.lemmas.Option.{cond_some}
use Rattle.std.proofs.lemmas.Bool.{ltb-true}
use Rattle.std.proofs.lemmas.Bool.Decides.{nat_tests}

none_where_false : (b : Bool) (n : ℕ) → cond b (Some n) None ≡ None → b ≡ false
none_where_false true n e = absurd cc
none_where_false false n e = refl

pub digits_to : (p : ℕ → Bool) (text : List ℕ) (at : ℕ) → position p text ≡ Some at → (at ≡ length (before_first p text)) × (at ≤ length text)
digits_to p text at e =
    let h = cond_some (ltb (position_or_len p text) (length text)) (position_or_len p text) at e in
    let short : position_or_len p text < length text = ltb-true _ _ h.0 in
    let is : position_or_len p text ≡ at = h.1 in
    (omega (arith, length-take (position_or_len p text) text), omega arith)

pub all_digits : (p : ℕ → Bool) (text : List ℕ) → position p text ≡ None → length text ≡ length (before_first p text)
all_digits p text e =
    let test : ltb (position_or_len p text) (length text) ≡ false = none_where_false _ _ e in
    let long : length text ≤ position_or_len p text = grind (arith, nat_tests) in
    omega (arith, length-take (position_or_len p text) text)
