-- The bars of a row: each is drawn where it ends, and reaches up to where it began. Own choice
-- (docs/FORMATS.md, "Pictures").
use Rattle.std.specs.Prelude.{ℕ, ◌+◌, ◌-◌, ◌*◌, nat_le, List, [], ◌∷◌, ◌++◌, length, codes, Option, None, Some, if◌then◌else◌}
use Rattle.am_state.specs.{Obs}
use Rattle.am_state.specs.declared.obs.Obs.TheVariants as seen
use Rattle.am_machine.specs.{Event}
use Rattle.am_machine.specs.declared.event.Event.TheVariants as events
use Rattle.am_lanes.specs.{Ending, Holder, Look, ends}
use Rattle.am_lanes.specs.declared.holder.Look.TheVariants.{Missing, Expire, Ended, Waits, Inside, Idle, Catatonic, Dead}
use Rattle.am_lanes.specs.declared.holder.Ending.TheVariants.{Of, In, All}
use Rattle.am_draw.specs.declared.marks.LaneKind.{LaneKind}
use Rattle.am_draw.specs.declared.marks.LaneKind.TheVariants.{Narrow, Wide}
use Rattle.am_draw.specs.declared.stretch.Until.{Until}
use Rattle.am_draw.specs.Lasting.{Lasts}
use Rattle.am_draw.specs.Marks.{stretch, lane_x, first_walker, first_token, first_system, daemon_x, shift}
use Rattle.am_draw.specs.Parts.{titles_before, wide}

-- how many lanes of walkers have room
abbrev pub walker_columns : Lasts → ℕ
walker_columns lasts = wide 7 (length lasts.walkers)

-- how many lanes of tokens have room
abbrev pub token_columns : Lasts → ℕ
token_columns lasts = wide 8 (length lasts.tokens)

-- how many lanes of file systems have room
abbrev pub system_columns : Lasts → ℕ
system_columns lasts = wide 0 (length lasts.systems)

-- how many lanes of failures have room
abbrev pub failing_columns : Lasts → ℕ
failing_columns lasts = wide 0 (length lasts.failures)

-- how many narrow lanes there are: those of tokens, of file systems and of failures
abbrev pub narrow_columns : Lasts → ℕ
narrow_columns lasts = token_columns lasts + system_columns lasts + failing_columns lasts

-- how far the columns of the daemon and of mounts are moved
abbrev pub moved : Lasts → ℕ
moved lasts = shift (walker_columns lasts) (narrow_columns lasts)

-- How far up a bar reaches that began behind the event with this number, and below its mark. Where
-- that is above the first row, to its top.
abbrev pub reach : Until → ℕ → ℕ → ℕ
reach until mark since =
    if nat_le since until.skipped
    then 13 + 26 * (until.number - until.skipped - 1 + titles_before until.skipped until.number) + until.more
    else
    26 * (until.number - since + (titles_before until.skipped until.number - titles_before until.skipped since))
    + until.more - mark

-- the bar of one who looks so since then; one without a bar has none
abbrev pub bar : Look → Until → ℕ → ℕ → List ℕ
bar (Missing fs) until since x = stretch (codes "missing") x (reach until 0 since)
bar (Expire fs) until since x = stretch (codes "expire") x (reach until 0 since)
bar Ended until since x = []
bar Waits until since x = stretch (codes "waits") x (reach until 6 since)
bar Inside until since x = stretch (codes "inside") x (reach until 6 since)
bar Idle until since x = []
bar Catatonic until since x = stretch (codes "mode") x (reach until 10 since)
bar Dead until since x = stretch (codes "dead") x (reach until 8 since)

-- the bar in a lane, if it ends so
abbrev pub lane_bar : Ending → Until → Option Holder → ℕ → List ℕ
lane_bar ending until None x = []
lane_bar ending until (Some holder) x =
    if ends ending holder then bar holder.look until holder.since x else []

-- the bars that end so in these lanes, the first of which stands there; the first of these has this number
abbrev pub lane_bars : LaneKind → ℕ → Ending → Until → ℕ → List (Option Holder) → List ℕ
lane_bars lanes first ending until number [] = []
lane_bars lanes first ending until number (lane ∷ others) =
    lane_bar ending until lane (lane_x lanes first number)
    ++ lane_bars lanes first ending until (number + 1) others

-- the bars of tokens that end so
abbrev pub token_bars : Ending → Until → Lasts → List ℕ
token_bars ending until lasts =
    lane_bars Narrow (first_token (walker_columns lasts)) ending until 0 lasts.tokens

-- the bars of walkers that end so
abbrev pub walker_bars : Ending → Until → Lasts → List ℕ
walker_bars ending until lasts =
    lane_bars Wide first_walker ending until 0 lasts.walkers

-- the bars of file systems that end so
abbrev pub system_bars : Ending → Until → Lasts → List ℕ
system_bars ending until lasts =
    lane_bars Narrow (first_system (walker_columns lasts) (token_columns lasts)) ending until 0 lasts.systems

-- the bar of the dead daemon
abbrev pub daemon_bars : Until → Lasts → List ℕ
daemon_bars until lasts = lane_bars Narrow (daemon_x (moved lasts)) All until 0 lasts.daemon

-- the same, where an event shows that it lives
abbrev pub living_bars : Until → Lasts → Event → List ℕ
living_bars until lasts (events.Attach path) = daemon_bars until lasts
living_bars until lasts (events.Reattach fs) = daemon_bars until lasts
living_bars until lasts event = []

-- the bars that end where this is seen
abbrev pub ended_bars : Until → Lasts → Obs → List ℕ
ended_bars until lasts (seen.Queued token attach packet) = token_bars (Of token) until lasts
ended_bars until lasts (seen.Waits walker token) = walker_bars (Of walker) until lasts
ended_bars until lasts (seen.Answered token status) = token_bars (Of token) until lasts
ended_bars until lasts (seen.Catatonic fs) =
    token_bars (In fs) until lasts ++ system_bars (Of fs) until lasts
ended_bars until lasts (seen.Released walker token status) = walker_bars (Of walker) until lasts
ended_bars until lasts (seen.Entered walker mount) = walker_bars (Of walker) until lasts
ended_bars until lasts (seen.Left walker mount) = walker_bars (Of walker) until lasts
ended_bars until lasts (seen.Reattached fs attach) = system_bars (Of fs) until lasts
ended_bars until lasts seen.Died = daemon_bars until lasts
ended_bars until lasts obs = []
