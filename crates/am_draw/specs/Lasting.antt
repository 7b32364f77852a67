-- What lasts from one event to the next: who holds which lane, and what bar stands in it. Own choice
-- (docs/DECISIONS.md, "A picture is as wide as it has to be").
use Rattle.std.specs.Prelude.{ℕ, List, [], ◌∷◌, map, replicate, Option, None, Some}
use Rattle.am_kernel.specs.{KernelState}
use Rattle.am_state.specs.{Obs}
use Rattle.am_machine.specs.{Event}
use Rattle.am_machine.specs.declared.event.Event.TheVariants as events
use Rattle.am_state.specs.declared.obs.Obs.TheVariants as seen
use Rattle.am_wire.specs.declared.packet_type.PacketType.{PacketType}
use Rattle.am_wire.specs.declared.packet_type.PacketType.TheVariants.{MissingIndirect, ExpireIndirect, MissingDirect, ExpireDirect}
use Rattle.am_lanes.specs.{Holder, Look, ended_lane, placed, sighted, with_lane}
use Rattle.am_lanes.specs.declared.holder.Look.TheVariants.{Missing, Expire, Waits, Inside, Idle, Catatonic, Dead}
use Rattle.am_lanes.specs.declared.holder.Ending.TheVariants.{Of, In}
use Rattle.am_draw.specs.declared.failing.Failing.{Failing}
use Rattle.am_draw.specs.declared.lasting.Lasting.{Lasting}
use Rattle.am_draw.specs.Failures.{fresh, kept_failing, with_empty, with_failing}

-- The lanes of tokens, of walkers and of catatonic file systems, the daemon's once it has died, and those
-- of failures that last, and for how many seconds each does.
pub record Lasts : Type 0 where
  pub tokens : List (Option Holder)
  pub walkers : List (Option Holder)
  pub systems : List (Option Holder)
  pub daemon : List (Option Holder)
  pub failures : List (Option Failing)
  pub negative : ℕ

-- those that the code holds
abbrev pub lasts_of : Lasting → Lasts
lasts_of lasting = record {
  tokens = lasting.tokens;
  walkers = lasting.walkers;
  systems = lasting.systems;
  daemon = lasting.daemon;
  failures = lasting.failures.items;
  negative = lasting.negative;
}

-- nobody holds one of so many lanes of tokens, of walkers, of file systems, of the daemon and of failures,
-- which last so many seconds
abbrev pub nothing_lasts : ℕ → ℕ → ℕ → ℕ → ℕ → ℕ → Lasts
nothing_lasts tokens walkers systems daemon failures negative = record {
  tokens = replicate tokens None;
  walkers = replicate walkers None;
  systems = replicate systems None;
  daemon = replicate daemon None;
  failures = replicate failures None;
  negative = negative;
}

-- how an open token looks
abbrev pub token_look : PacketType → ℕ → Look
token_look MissingIndirect fs = Missing fs
token_look ExpireIndirect fs = Expire fs
token_look MissingDirect fs = Missing fs
token_look ExpireDirect fs = Expire fs

-- ---- what an observation changes

-- the walker looks so from the event with this number on
abbrev pub with_walker : ℕ → ℕ → Look → Lasts → Lasts
with_walker number walker look lasts =
    record lasts {
      walkers = placed (record { number = walker; look = look; since = number }) lasts.walkers;
    }

-- the token looks so from the event with this number on
abbrev pub with_token : ℕ → ℕ → Look → Lasts → Lasts
with_token number token look lasts =
    record lasts {
      tokens = placed (record { number = token; look = look; since = number }) lasts.tokens;
    }

-- the file system is catatonic from the event with this number on, and its tokens have ended
abbrev pub with_catatonic : ℕ → ℕ → Lasts → Lasts
with_catatonic number fs lasts =
    record lasts {
      tokens = map (ended_lane (In fs)) lasts.tokens;
      systems = placed (record { number = fs; look = Catatonic; since = number }) lasts.systems;
    }

-- it is catatonic no more
abbrev pub with_reattached : ℕ → Lasts → Lasts
with_reattached fs lasts = record lasts { systems = map (ended_lane (Of fs)) lasts.systems }

-- there is one daemon, and this is its number
abbrev pub the_daemon : ℕ
the_daemon = 0

-- the daemon is dead from the event with this number on
abbrev pub with_dead : ℕ → Lasts → Lasts
with_dead number lasts =
    record lasts {
      daemon = placed (record { number = the_daemon; look = Dead; since = number }) lasts.daemon;
    }

-- it is dead no more
abbrev pub with_living : Lasts → Lasts
with_living lasts = record lasts { daemon = map (ended_lane (Of the_daemon)) lasts.daemon }

-- so it is behind this observation of the event with this number
abbrev pub changed : ℕ → Lasts → Obs → Lasts
changed number lasts (seen.Queued token attach packet) =
    with_token number token (token_look packet.kind packet.dev) lasts
changed number lasts (seen.Waits walker token) = with_walker number walker Waits lasts
changed number lasts (seen.Answered token status) =
    record lasts { tokens = map (ended_lane (Of token)) lasts.tokens }
changed number lasts (seen.Catatonic fs) = with_catatonic number fs lasts
changed number lasts (seen.Released walker token status) = with_walker number walker Idle lasts
changed number lasts (seen.Entered walker mount) = with_walker number walker Inside lasts
changed number lasts (seen.Left walker mount) = with_walker number walker Idle lasts
changed number lasts (seen.Reattached fs attach) = with_reattached fs lasts
changed number lasts seen.Died = with_dead number lasts
changed number lasts obs = lasts

-- so it is behind all that is seen of it
abbrev pub seen_behind : ℕ → Lasts → List Obs → Lasts
seen_behind number lasts [] = lasts
seen_behind number lasts (obs ∷ seen) = seen_behind number (changed number lasts obs) seen

-- ---- what an event changes

-- the walker has a lane
abbrev pub with_sighted : ℕ → ℕ → Lasts → Lasts
with_sighted number walker lasts =
    record lasts {
      walkers = sighted (record { number = walker; look = Idle; since = number }) lasts.walkers;
    }

-- a walker that does something has a lane; a daemon that attaches lives, also where that is refused
abbrev pub acted : ℕ → Lasts → Event → Lasts
acted number lasts (events.Walk walker ns path now pipe) = with_sighted number walker lasts
acted number lasts (events.Resume walker now pipe) = with_sighted number walker lasts
acted number lasts (events.Leave walker) = with_sighted number walker lasts
acted number lasts (events.Expire walker fs now immediate pipe) = with_sighted number walker lasts
acted number lasts (events.Attach path) = with_living lasts
acted number lasts (events.Reattach fs) = with_living lasts
acted number lasts event = lasts

-- ---- what begins and ends with an event's moment

-- the failures end that last no longer behind the event, which leaves this kernel
abbrev pub with_ended : KernelState → Lasts → Lasts
with_ended k lasts = record lasts { failures = map (kept_failing lasts.negative k) lasts.failures }

-- the failure that begins to last with the event of this number, if one does
abbrev pub fresh_in : ℕ → KernelState → Lasts → Option Failing
fresh_in number k lasts = fresh number lasts.negative k lasts.failures

-- it has a lane
abbrev pub with_begun : Option Failing → Lasts → Lasts
with_begun None lasts = lasts
with_begun (Some held) lasts = record lasts { failures = with_failing held lasts.failures }

-- so it is with the failures behind the event with this number, which leaves this kernel
abbrev pub turned : ℕ → KernelState → Lasts → Lasts
turned number k lasts = with_begun (fresh_in number k (with_ended k lasts)) (with_ended k lasts)

-- so it is behind the event with this number, of which this is seen, and which leaves this kernel
abbrev pub behind : ℕ → Lasts → Event → List Obs → KernelState → Lasts
behind number lasts event seen k = turned number k (seen_behind number (acted number lasts event) seen)

-- ---- where lanes are added

-- there is a lane that the token may take
abbrev pub with_token_lane : ℕ → Lasts → Lasts
with_token_lane token lasts = record lasts { tokens = with_lane token lasts.tokens }

-- there is a lane that the walker may take
abbrev pub with_walker_lane : ℕ → Lasts → Lasts
with_walker_lane walker lasts = record lasts { walkers = with_lane walker lasts.walkers }

-- there is a lane that the file system may take
abbrev pub with_system_lane : ℕ → Lasts → Lasts
with_system_lane fs lasts = record lasts { systems = with_lane fs lasts.systems }

-- there is a lane of the daemon
abbrev pub with_daemon_lane : Lasts → Lasts
with_daemon_lane lasts = record lasts { daemon = with_lane the_daemon lasts.daemon }

-- there is a lane for each of those whose bars the observation begins
abbrev pub roomed : Lasts → Obs → Lasts
roomed lasts (seen.Queued token attach packet) = with_token_lane token lasts
roomed lasts (seen.Waits walker token) = with_walker_lane walker lasts
roomed lasts (seen.Catatonic fs) = with_system_lane fs lasts
roomed lasts (seen.Released walker token status) = with_walker_lane walker lasts
roomed lasts (seen.Entered walker mount) = with_walker_lane walker lasts
roomed lasts (seen.Left walker mount) = with_walker_lane walker lasts
roomed lasts seen.Died = with_daemon_lane lasts
roomed lasts obs = lasts

-- there is a lane for the walker that acts
abbrev pub roomed_for : Lasts → Event → Lasts
roomed_for lasts (events.Walk walker ns path now pipe) = with_walker_lane walker lasts
roomed_for lasts (events.Resume walker now pipe) = with_walker_lane walker lasts
roomed_for lasts (events.Leave walker) = with_walker_lane walker lasts
roomed_for lasts (events.Expire walker fs now immediate pipe) = with_walker_lane walker lasts
roomed_for lasts event = lasts

-- so it is behind all that is seen, where a lane is added for whoever may take none
abbrev pub seen_added : ℕ → Lasts → List Obs → Lasts
seen_added number lasts [] = lasts
seen_added number lasts (obs ∷ seen) = seen_added number (changed number (roomed lasts obs) obs) seen

-- there is a lane for the failure that begins to last, if one does
abbrev pub with_failing_lane : Option Failing → Lasts → Lasts
with_failing_lane None lasts = lasts
with_failing_lane (Some held) lasts = record lasts { failures = with_empty lasts.failures }

-- so it is with the failures, where a lane is added for one that has none
abbrev pub turned_added : ℕ → KernelState → Lasts → Lasts
turned_added number k lasts =
    with_begun (fresh_in number k (with_ended k lasts))
    (with_failing_lane (fresh_in number k (with_ended k lasts)) (with_ended k lasts))

-- so it is behind the event, where a lane is added for whoever may take none
abbrev pub added : ℕ → Lasts → Event → List Obs → KernelState → Lasts
added number lasts event seen k =
    turned_added number k (seen_added number (acted number (roomed_for lasts event) event) seen)
