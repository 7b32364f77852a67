-- The failures that last, and which lane each has: own choice (docs/FORMATS.md, "Pictures").
use Rattle.std.specs.Prelude.{ℕ, ◌-◌, ◌==◌, Bool, false, ◌&&◌, List, [], ◌∷◌, ◌++◌, length, slice_get, is_none, Option, None, Some, if◌then◌else◌}
use Rattle.std.specs.List.{list_any, position_or_len}
use Rattle.std.specs.Option.{option_and_then}
use Rattle.am_names.specs.{fail_number, same_trigger}
use Rattle.am_names.specs.declared.trigger.Trigger.{Trigger}
use Rattle.am_kernel.specs.{KernelState}
use Rattle.am_trigger.specs.{Failure, FailureRows, failure_of}
use Rattle.am_trigger.specs.Failures.{lasts}
use Rattle.am_draw.specs.declared.failing.Failing.{Failing}

-- ---- what lasts

-- a failure, if it lasts at this moment, where failures last so many seconds
abbrev pub still : ℕ → ℕ → Option Failure → Option Failure
still moment negative None = None
still moment negative (Some failure) = if lasts moment negative failure then Some failure else None

-- what failed last at the trigger, if that lasts
abbrev pub lasting_in : ℕ → KernelState → Trigger → Option Failure
lasting_in negative k trigger = still k.latest negative (failure_of k.failures trigger)

-- both tell the same error, of the same moment
abbrev pub same_failure : Failure → Failure → Bool
same_failure one other = fail_number one.no == fail_number other.no && one.at == other.at

-- there is a failure, and it is this one
abbrev pub is_that : Failure → Option Failure → Bool
is_that failure None = false
is_that failure (Some other) = same_failure other failure

-- this is what lasts at its trigger
abbrev pub is_failing : ℕ → KernelState → Failing → Bool
is_failing negative k held = is_that held.failure (lasting_in negative k held.trigger)

-- ---- lanes

-- who holds the lane, if that lasts still
abbrev pub kept_failing : ℕ → KernelState → Option Failing → Option Failing
kept_failing negative k None = None
kept_failing negative k (Some held) = if is_failing negative k held then Some held else None

-- the lane is that of a failure at this trigger
abbrev pub is_at : Trigger → Option Failing → Bool
is_at trigger None = false
is_at trigger (Some held) = same_trigger held.trigger trigger

-- a failure at this trigger has a lane
abbrev pub has_failing : Trigger → List (Option Failing) → Bool
has_failing trigger lanes = list_any (λ lane. is_at trigger lane) lanes

-- the first lane that nobody holds, or one behind all of them
abbrev pub empty_lane : List (Option Failing) → ℕ
empty_lane lanes = position_or_len (λ lane. is_none lane) lanes

-- the failure takes the first lane that nobody holds
abbrev pub with_failing : Failing → List (Option Failing) → List (Option Failing)
with_failing held [] = []
with_failing held (None ∷ lanes) = Some held ∷ lanes
with_failing held (Some other ∷ lanes) = Some other ∷ with_failing held lanes

-- there is a lane that nobody holds
abbrev pub with_empty : List (Option Failing) → List (Option Failing)
with_empty lanes = if list_any (λ lane. is_none lane) lanes then lanes else lanes ++ None ∷ []

-- ---- what begins

-- what failed last of all
abbrev pub newest : FailureRows → Option (Trigger × Failure)
newest rows = slice_get rows (length rows - 1)

-- it is this failure, which lasts from the event with this number on
abbrev pub failing_at : ℕ → Trigger × Failure → Failing
failing_at number row = record { trigger = row.0; failure = row.1; since = number }

-- the failure, if it lasts and has no lane
abbrev pub if_fresh : ℕ → KernelState → List (Option Failing) → Failing → Option Failing
if_fresh negative k lanes held =
    if is_failing negative k held then (if has_failing held.trigger lanes then None else Some held) else None

-- what failed last of all, if it lasts and has no lane: it does so from the event with this number on
abbrev pub fresh : ℕ → ℕ → KernelState → List (Option Failing) → Option Failing
fresh number negative k lanes =
    option_and_then (λ row. if_fresh negative k lanes (failing_at number row)) (newest k.failures)
