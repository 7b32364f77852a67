-- A text is cut at the first byte that passes a test.
use Rattle.std.proofs.Common.{◌≡◌, ℕ, suc, ◌+◌, Bool, true, false, cond, ltb, not, ◌≤◌, List, [], ◌∷◌, length, take, drop, Some, None, refl, subst, arith}
use Rattle.std.specs.Prelude.{position}
use Rattle.std.specs.List.{position_or_len, slice_split}
use Rattle.std.proofs.lemmas.Option.{cond_some}
use Rattle.std.proofs.lemmas.Bool.{ltb-true, le-ltb}
use Rattle.std.proofs.lemmas.Bool.Decides.{nat_tests}
use Rattle.std.proofs.lemmas.List.Splits.{slice_split_first, slice_split-cons_no}

pub cut_some : (p : ℕ → Bool) (bytes : List ℕ) (at : ℕ) → position p bytes ≡ Some at → slice_split p bytes ≡ take at bytes ∷ slice_split p (drop (at + 1) bytes)
cut_some p bytes at e =
    let h = cond_some (ltb (position_or_len p bytes) (length bytes)) (position_or_len p bytes) at e in
    subst (λ (i : ℕ). slice_split p bytes ≡ take i bytes ∷ slice_split p (drop (i + 1) bytes)) h.1 (slice_split_first p bytes 0 (ltb-true _ _ h.0))

-- where a test is not met, the rest doesn't meet it either
passes_on : (test : Bool) (n len : ℕ) → cond (ltb (cond (not test) (1 + n) 0) (suc len)) (Some (cond (not test) (1 + n) 0)) None ≡ None → (test ≡ false) × (len ≤ n)
passes_on true n len e = absurd (grind (arith, nat_tests))
passes_on false n len e = (refl, grind (arith, nat_tests))

pub cut_none : (p : ℕ → Bool) (bytes : List ℕ) → position p bytes ≡ None → slice_split p bytes ≡ bytes ∷ []
cut_none p [] e = refl
cut_none p (b ∷ bytes) e =
    let h = passes_on (p b) (position_or_len p bytes) (length bytes) e in
    let rest : position p bytes ≡ None = rw (le-ltb (position_or_len p bytes) (length bytes) h.1) refl in
    rw (slice_split-cons_no p b bytes h.0, cut_none p bytes rest) refl
