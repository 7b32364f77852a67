-- The words by which a scene says how the daemon serves: own choice (docs/FORMATS.md, "Lines of a
-- scene").
use Rattle.std.specs.Prelude.{ℕ, List, [], ◌∷◌, map, codes, bytes_eq, Option, None, Some, option_map, if◌then◌else◌}
use Rattle.am_names.specs.declared.fail_no.FailNo.{FailNo}
use Rattle.am_script.specs.EventWords.{failure_read}

-- `fail N`, the failure of this number
abbrev pub fail_read : List ℕ → List ℕ → Option FailNo
fail_read word digits = if bytes_eq word (codes "fail") then failure_read digits else None

-- a failure before others, where all are read
abbrev pub failure_before : Option FailNo → Option (List FailNo) → Option (List FailNo)
failure_before (Some failure) (Some failures) = Some (failure ∷ failures)
failure_before failure failures = None

-- failures, each `fail N`
abbrev pub failures_read : List (List ℕ) → Option (List FailNo)
failures_read [] = Some []
failures_read (word ∷ []) = None
failures_read (word ∷ digits ∷ words) = failure_before (fail_read word digits) (failures_read words)

-- an act comes out without a failure, or with one of these
abbrev pub results_of : List FailNo → List (Option FailNo)
results_of failures = None ∷ map Some failures

-- `daemon`, and then the failures with which acts may come out
abbrev pub service_read : List (List ℕ) → Option (List (Option FailNo))
service_read [] = None
service_read (word ∷ words) =
    if bytes_eq word (codes "daemon") then option_map results_of (failures_read words) else None
