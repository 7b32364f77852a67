-- The laws of a trace that grows.
use Rattle.std.proofs.Common.{◌≡◌, ℕ, Bool, false, List, [], ◌∷◌, ◌++◌, refl, sym, ap, subst, ◌∙◌, append_assoc}
use Rattle.std.specs.Prelude.{◌↔◌, ◌&&◌, ◌||◌}
use Rattle.std.proofs.lemmas.List.{append-nil}
use Rattle.am_state.specs.{Obs}
use Rattle.am_state.specs.declared.obs.Obs.TheVariants.{Answered, Catatonic}
use Rattle.am_laws.specs.{is_released, releases, is_in_row, AllReleased, Lawful, IsLawfulAt, AreLawful, begins_with_released}
use Rattle.am_laws.proofs.Words.{in_row_true, in_row_from_test}
use Rattle.am_laws.proofs.Places.{lawful_from_front, front_from_lawful}

-- a row ends where something else follows
is_in_row-append : (test : Obs → Bool) (rest s : List Obs) → begins_with_released s ≡ false → is_in_row test (rest ++ s) ≡ is_in_row test rest
is_in_row-append test [] [] h = refl
is_in_row-append test [] (o ∷ s) h = ap (λ (b : Bool). b && (test o || is_in_row test s)) h
is_in_row-append test (o ∷ rest) s h = ap (λ (b : Bool). is_released o && (test o || b)) (is_in_row-append test rest s h)

all_released_more : (before : List Obs) (token : ℕ) (rest s : List Obs) → begins_with_released s ≡ false → AllReleased before token rest → AllReleased before token (rest ++ s)
all_released_more before token rest s h a = λ walker w. in_row_from_test walker token (rest ++ s) (is_in_row-append (releases walker token) rest s h ∙ in_row_true walker token rest (a walker w))

all_released_less : (before : List Obs) (token : ℕ) (rest s : List Obs) → begins_with_released s ≡ false → AllReleased before token (rest ++ s) → AllReleased before token rest
all_released_less before token rest s h a = λ walker w. in_row_from_test walker token rest (sym (is_in_row-append (releases walker token) rest s h) ∙ in_row_true walker token (rest ++ s) (a walker w))

lawful_at_more : (before rest s : List Obs) (o : Obs) → begins_with_released s ≡ false → IsLawfulAt before o rest → IsLawfulAt before o (rest ++ s)
lawful_at_more before rest s (Answered token status) h a = (a.0, a.1, all_released_more before token rest s h a.2)
lawful_at_more before rest s (Catatonic fs) h a = λ token is_its is_o. all_released_more before token rest s h (a token is_its is_o)
lawful_at_more before rest s _ h a = a

lawful_at_less : (before rest s : List Obs) (o : Obs) → begins_with_released s ≡ false → IsLawfulAt before o (rest ++ s) → IsLawfulAt before o rest
lawful_at_less before rest s (Answered token status) h a = (a.0, a.1, all_released_less before token rest s h a.2)
lawful_at_less before rest s (Catatonic fs) h a = λ token is_its is_o. all_released_less before token rest s h (a token is_its is_o)
lawful_at_less before rest s _ h a = a

pub front_more : (before trace s : List Obs) → begins_with_released s ≡ false → AreLawful before trace → AreLawful (before ++ trace) s → AreLawful before (trace ++ s)
front_more before [] s h a b = subst (λ (x : List Obs). AreLawful x s) (append-nil before) b
front_more before (o ∷ trace) s h a b =
    (lawful_at_more before trace s o h a.0, front_more (before ++ o ∷ []) trace s h a.1 (subst (λ (x : List Obs). AreLawful x s) (sym (append_assoc before (o ∷ []) trace)) b))

front_first : (before trace s : List Obs) → begins_with_released s ≡ false → AreLawful before (trace ++ s) → AreLawful before trace
front_first before [] s h a = tt
front_first before (o ∷ trace) s h a = (lawful_at_less before trace s o h a.0, front_first (before ++ o ∷ []) trace s h a.1)

front_second : (before trace s : List Obs) → AreLawful before (trace ++ s) → AreLawful (before ++ trace) s
front_second before [] s a = subst (λ (x : List Obs). AreLawful x s) (sym (append-nil before)) a
front_second before (o ∷ trace) s a = subst (λ (x : List Obs). AreLawful x s) (append_assoc before (o ∷ []) trace) (front_second (before ++ o ∷ []) trace s a.1)

-- a trace goes on lawfully by what doesn't begin with a Released exactly where each place of that is lawful after it
pub lawful_append : (trace s : List Obs) → begins_with_released s ≡ false → Lawful (trace ++ s) ↔ (Lawful trace × AreLawful trace s)
lawful_append trace s h =
    (λ a. (front_from_lawful trace (front_first [] trace s h (lawful_from_front (trace ++ s) a)), front_second [] trace s (lawful_from_front (trace ++ s) a)), λ a. front_from_lawful (trace ++ s) (front_more [] trace s h (lawful_from_front trace a.0) a.1))
