-- What failed last at each trigger, and how long that lasts: own choice (docs/DECISIONS.md, "A failure
-- has a number, and may last").
use Rattle.std.specs.Prelude.{◌≡◌, ℕ, ◌==◌, ◌+◌, ◌++◌, nat_lt, Bool, not, List, [], ◌∷◌, filter, find, Option, Some, None, if◌then◌else◌}
use Rattle.std.specs.Option.{option_map, option_and_then}
use Rattle.am_names.specs.{same_trigger}
use Rattle.am_names.specs.declared.fail_no.FailNo.{FailNo}
use Rattle.am_names.specs.declared.trigger.Trigger.{Trigger}
use Rattle.am_trigger.specs.declared.failures.Failure.{Failure}

-- each trigger at which something failed that was not made good since, the latest last
abbrev pub FailureRows : Type 0
FailureRows = List (Trigger × Failure)

-- what failed last at the trigger, if anything did
abbrev pub failure_of : FailureRows → Trigger → Option Failure
failure_of rows trigger = option_map (λ row. row.1) (find (λ row. same_trigger row.0 trigger) rows)

-- nothing failed at the trigger
abbrev pub without_failure : Trigger → FailureRows → FailureRows
without_failure trigger rows = filter (λ row. not (same_trigger row.0 trigger)) rows

-- this is what failed last at the trigger
abbrev pub with_failure : Trigger → Failure → FailureRows → FailureRows
with_failure trigger failure rows = without_failure trigger rows ++ (trigger, failure) ∷ []

-- nothing failed in the file system
abbrev pub without_failures : ℕ → FailureRows → FailureRows
without_failures fs rows = filter (λ row. not (row.0.fs == fs)) rows

-- ---- how long

-- a failure lasts for so many seconds, and no longer at the second that ends them
abbrev pub lasts : ℕ → ℕ → Failure → Bool
lasts moment negative failure = nat_lt moment (failure.at + negative)

-- the error of a failure, while that lasts
abbrev pub error_while : ℕ → ℕ → Failure → Option FailNo
error_while moment negative failure =
    if lasts moment negative failure then Some failure.no else None

-- the error of what failed last at the trigger, if that lasts at this moment
abbrev pub failing : ℕ → ℕ → FailureRows → Trigger → Option FailNo
failing moment negative rows trigger =
    option_and_then (error_while moment negative) (failure_of rows trigger)

-- ---- the same as a finite map

-- this is what failed last at the trigger, and at each other one what did so before
abbrev pub IsFailed : Trigger → Option Failure → FailureRows → FailureRows → Type 0
IsFailed trigger failure old new =
    (g : Trigger) → failure_of new g ≡ (if same_trigger trigger g then failure else failure_of old g)

-- nothing failed at the triggers of the file system, and at each other one what did so before
abbrev pub IsMended : ℕ → FailureRows → FailureRows → Type 0
IsMended fs old new =
    (g : Trigger) → failure_of new g ≡ (if g.fs == fs then None else failure_of old g)
