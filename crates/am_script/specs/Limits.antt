-- The limits of a script, and how long its failures last: own choice (docs/FORMATS.md, "The head").
use Rattle.std.specs.Prelude.{ℕ, List, [], ◌∷◌, Option, None, Some, if◌then◌else◌}
use Rattle.am_names.specs.declared.limits.Limits.{Limits}
use Rattle.am_names.specs.{is_in_range}
use Rattle.am_script.specs.Numbers.{u32_read, u64_read}

-- 1000000 mounts, 1024 waiters, 4294967295 tokens; a failure doesn't last
abbrev pub default_limits : Limits
default_limits = record { mounts = 1000000; waiters = 1024; tokens = 4294967295; negative = 0 }

-- the limits, if each is in its range
abbrev pub checked : Limits → Option Limits
checked limits = if is_in_range limits then Some limits else None

-- the limits, where all three numbers are read
abbrev pub limits_of : Option ℕ → Option ℕ → Option ℕ → Option Limits
limits_of (Some mounts) (Some waiters) (Some tokens) =
    checked (record { mounts = mounts; waiters = waiters; tokens = tokens; negative = 0 })
limits_of mounts waiters tokens = None

-- `M W T` behind `limits`
abbrev pub limits_read : List (List ℕ) → Option Limits
limits_read (mounts ∷ waiters ∷ tokens ∷ []) =
    limits_of (u32_read mounts) (u32_read waiters) (u32_read tokens)
limits_read words = None

-- `N` behind `negative`: the seconds that a failure lasts
abbrev pub negative_read : List (List ℕ) → Option ℕ
negative_read (seconds ∷ []) = u64_read seconds
negative_read words = None
