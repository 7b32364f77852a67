-- The bars of failures that last: each is drawn where it ends. Own choice (docs/FORMATS.md,
-- "Pictures").
use Rattle.std.specs.Prelude.{ℕ, zero, suc, ◌+◌, ◌^◌, Bool, true, not, nat_lt, List, [], ◌++◌, length, get_or, codes, decimal, Option, None, Some, if◌then◌else◌}
use Rattle.am_names.specs.{errno_of}
use Rattle.am_kernel.specs.{KernelState}
use Rattle.am_trigger.specs.{Failure}
use Rattle.am_lanes.specs.declared.holder.Ending.TheVariants.{All}
use Rattle.am_draw.specs.declared.failing.Failing.{Failing}
use Rattle.am_draw.specs.declared.marks.LaneKind.TheVariants.{Narrow}
use Rattle.am_draw.specs.declared.stretch.Until.{Until}
use Rattle.am_draw.specs.Errors.{error_word}
use Rattle.am_draw.specs.Failures.{empty_lane, is_failing}
use Rattle.am_draw.specs.Lasting.{Lasts, fresh_in, with_ended}
use Rattle.am_draw.specs.Marks.{first_system, label, lane_x, stretch}
use Rattle.am_draw.specs.Stretches.{daemon_bars, reach, system_bars, system_columns, token_bars, token_columns, walker_bars, walker_columns}
use Rattle.am_draw.specs.Words.{words}

-- ---- where they stand

-- the middle of the first lane of failures, at the right of those of file systems
abbrev pub first_failing : Lasts → ℕ
first_failing lasts = first_system (walker_columns lasts) (token_columns lasts + system_columns lasts)

-- ---- bars

-- a failure's bar ends: it doesn't last in the kernel behind the event; or all end
abbrev pub ends_failing : ℕ → Option KernelState → Failing → Bool
ends_failing negative None held = true
ends_failing negative (Some k) held = not (is_failing negative k held)

-- the bar in a lane, if it ends so
abbrev pub failing_bar : ℕ → Option KernelState → Until → Option Failing → ℕ → List ℕ
failing_bar negative ending until None x = []
failing_bar negative ending until (Some held) x =
    if ends_failing negative ending held then stretch (codes "lasting") x (reach until 0 held.since) else []

-- those that end so in the first so many of these lanes, the first of which stands there
abbrev pub failing_bars_in : ℕ → Option KernelState → Until → ℕ → List (Option Failing) → ℕ → List ℕ
failing_bars_in negative ending until first lanes zero = []
failing_bars_in negative ending until first lanes (suc lane) =
    failing_bars_in negative ending until first lanes lane
    ++ failing_bar negative ending until (get_or lanes lane None) (lane_x Narrow first lane)

-- those that end so
abbrev pub failing_bars : Option KernelState → Until → Lasts → List ℕ
failing_bars ending until lasts =
    failing_bars_in lasts.negative ending until (first_failing lasts) lasts.failures (length lasts.failures)

-- ---- a failure that begins to last

-- whose record or failure it is: that of a name, or of a direct trigger
abbrev pub named_words : ℕ → Option (List ℕ) → List ℕ
named_words fs None = codes "file system " ++ decimal fs
named_words fs (Some name) = words 6 name

-- until when a failure lasts, if a moment ends it
abbrev pub until_words : ℕ → Failure → List ℕ
until_words negative failure =
    if nat_lt (failure.at + negative) (2 ^ 64) then codes " until " ++ decimal (failure.at + negative) else []

-- where it failed, with which error, and until when that lasts
abbrev pub failing_words : ℕ → Failing → List ℕ
failing_words negative held =
    named_words held.trigger.fs held.trigger.name
    ++ ((codes " " ++ error_word (errno_of held.failure.no)) ++ until_words negative held.failure)

-- these words beside the lane that it takes, if a failure begins to last
abbrev pub fresh_marks : Lasts → Option Failing → List ℕ
fresh_marks lasts None = []
fresh_marks lasts (Some held) =
    label (codes "s failed") (lane_x Narrow (first_failing lasts) (empty_lane lasts.failures) + 8) 26
    (failing_words lasts.negative held)

-- what is drawn of failures behind an event that leaves this kernel: the bars of those that last no longer,
-- and what begins to
abbrev pub failures_drawn : KernelState → Until → Lasts → List ℕ
failures_drawn k until lasts =
    failing_bars (Some k) until lasts
    ++ fresh_marks (with_ended k lasts) (fresh_in until.number k (with_ended k lasts))

-- ---- all bars

-- those at the right of walkers and tokens
abbrev pub right_bars : Until → Lasts → List ℕ
right_bars until lasts = system_bars All until lasts ++ (failing_bars None until lasts ++ daemon_bars until lasts)

-- all of them
abbrev pub all_bars : Until → Lasts → List ℕ
all_bars until lasts = token_bars All until lasts ++ (walker_bars All until lasts ++ right_bars until lasts)
