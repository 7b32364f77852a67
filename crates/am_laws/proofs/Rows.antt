-- The row of Released at the end.
use Rattle.std.proofs.Common.{◌≡◌, ℕ, Bool, true, false, List, [], ◌∷◌, ◌++◌, Option, refl, sym, ap, ◌∙◌, append_assoc}
use Rattle.std.specs.Prelude.{◌&&◌, ◌||◌}
use Rattle.std.specs.List.{list_all}
use Rattle.std.proofs.lemmas.List.{append-nil}
use Rattle.std.proofs.lemmas.List.Folds.{list_all-append}
use Rattle.am_state.specs.{Obs}
use Rattle.am_state.specs.declared.obs.Obs.TheVariants.{Released}
use Rattle.am_names.specs.{Status}
use Rattle.am_names.proofs.Basics.{or_false}
use Rattle.am_laws.specs.{closes_as, is_released, fs_of_token, is_open, is_cause, ends_in_row}

closes_not : (token : ℕ) (fs : Option ℕ) (status : Status) (o : Obs) → is_released o ≡ true → closes_as token fs status o ≡ false
closes_not token fs status (Released w k s) h = refl
closes_not token fs status _ h = absurd cc

no_cause : (front : List Obs) (o : Obs) (row : List Obs) (token : ℕ) (status : Status) → closes_as token (fs_of_token token front) status o ≡ false → is_cause front o row token status ≡ false
no_cause front o row token status h = ap (λ (b : Bool). b && list_all is_released row && is_open token front) h

-- one Released more at the end changes nothing
row_of_more : (row : List Obs) (o : Obs) (b : Bool) → is_released o ≡ b → list_all is_released (row ++ o ∷ []) ≡ (list_all is_released row && (b && true))
row_of_more row o b e = list_all-append is_released row (o ∷ []) ∙ ap (λ (c : Bool). list_all is_released row && (c && true)) e

and_true : (a : Bool) → (a && (true && true)) ≡ a
and_true true = refl
and_true false = refl

and_false : (a : Bool) → (a && (false && true)) ≡ false
and_false true = refl
and_false false = refl

pub row_goes_on : (front seen : List Obs) (o : Obs) (token : ℕ) (status : Status) → is_released o ≡ true → ends_in_row front (seen ++ o ∷ []) token status ≡ ends_in_row front seen token status
row_goes_on front [] o token status h = or_false (is_cause front o [] token status) ∙ no_cause front o [] token status (closes_not token (fs_of_token token front) status o h)
row_goes_on front (x ∷ seen) o token status h =
    ap (λ (b : Bool). (closes_as token (fs_of_token token front) status x && b && is_open token front) || ends_in_row (front ++ x ∷ []) (seen ++ o ∷ []) token status) (row_of_more seen o true h ∙ and_true (list_all is_released seen))
    ∙ ap (λ (b : Bool). is_cause front x seen token status || b) (row_goes_on (front ++ x ∷ []) seen o token status h)

cut_by_cases : (a c : Bool) → (a && false && c) ≡ false
cut_by_cases true c = refl
cut_by_cases false c = refl

cut_cause : (front : List Obs) (x : Obs) (row : List Obs) (token : ℕ) (status : Status) → list_all is_released row ≡ false → is_cause front x row token status ≡ false
cut_cause front x row token status h = ap (λ (b : Bool). closes_as token (fs_of_token token front) status x && b && is_open token front) h ∙ cut_by_cases (closes_as token (fs_of_token token front) status x) (is_open token front)

-- what is no Released is the only cause there can be
pub row_begins : (front seen : List Obs) (o : Obs) (token : ℕ) (status : Status) → is_released o ≡ false → ends_in_row front (seen ++ o ∷ []) token status ≡ is_cause (front ++ seen) o [] token status
row_begins front [] o token status h = or_false (is_cause front o [] token status) ∙ ap (λ (s : List Obs). is_cause s o [] token status) (sym (append-nil front))
row_begins front (x ∷ seen) o token status h =
    ap (λ (b : Bool). b || ends_in_row (front ++ x ∷ []) (seen ++ o ∷ []) token status) (cut_cause front x (seen ++ o ∷ []) token status (row_of_more seen o false h ∙ and_false (list_all is_released seen)))
    ∙ row_begins (front ++ x ∷ []) seen o token status h
    ∙ ap (λ (s : List Obs). is_cause s o [] token status) (append_assoc front (x ∷ []) seen)
