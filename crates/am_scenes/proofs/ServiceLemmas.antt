-- Failures are read one after another.
use Rattle.std.proofs.Common.{◌≡◌, ℕ, List, [], ◌∷◌, ◌++◌, map, Option, Some, None, refl, sym, ap, ◌∙◌, append_assoc}
use Rattle.std.specs.Option.{option_map}
use Rattle.am_names.specs.declared.fail_no.FailNo.{FailNo}
use Rattle.am_scenes.specs.ServiceWords.{fail_read, failure_before, failures_read}

-- these results, and then the failures that are left
abbrev pub with_failures : List (Option FailNo) → Option (List FailNo) → Option (List (Option FailNo))
with_failures results failures = option_map (λ (fs : List FailNo). results ++ map Some fs) failures

before_others : (results : List (Option FailNo)) (failure : FailNo) (others : Option (List FailNo)) →
    with_failures results (failure_before (Some failure) others) ≡ with_failures (results ++ Some failure ∷ []) others
before_others results failure None = refl
before_others results failure (Some others) = ap Some (sym (append_assoc results (Some failure ∷ []) (map Some others)))

-- one is read
pub fail_more : (results pushed : List (Option FailNo)) (rest behind : List (List ℕ)) (word digits : List ℕ)
    (failure : FailNo) (all : Option (List (Option FailNo))) →
    rest ≡ word ∷ digits ∷ behind → fail_read word digits ≡ Some failure → pushed ≡ results ++ Some failure ∷ []
    → with_failures results (failures_read rest) ≡ all →
    with_failures pushed (failures_read behind) ≡ all
fail_more results pushed rest behind word digits failure all e f p h =
    ap (λ (r : List (Option FailNo)). with_failures r (failures_read behind)) p
    ∙ sym (before_others results failure (failures_read behind))
    ∙ sym (ap (λ (r : Option FailNo). with_failures results (failure_before r (failures_read behind))) f)
    ∙ sym (ap (λ (r : List (List ℕ)). with_failures results (failures_read r)) e)
    ∙ h
