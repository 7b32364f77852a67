-- What ties a trace to the rows of kernel and daemon. Each clause is said of just the rows that it
-- reads (own choice).
use Rattle.std.specs.Prelude.{◌≡◌, ℕ, ◌+◌, ◌<◌, ◌==◌, Bool, true, false, is_some, List, [], ◌∷◌, Option, None, Some, if◌then◌else◌}
use Rattle.std.specs.List.{list_any, count_by, All}
use Rattle.std.specs.Option.{option_map}
use Rattle.am_names.specs.declared.trigger.Trigger.{Trigger}
use Rattle.am_names.specs.{OpenToken, TokenKind}
use Rattle.am_wire.specs.{token_kind, Packet}
use Rattle.am_state.specs.{QueuedRow, Obs}
use Rattle.am_state.specs.declared.obs.Obs.TheVariants.{Queued, Waits, Delivered, Released}
use Rattle.am_wait.specs.{WaitRows, token_of, IsSound}
use Rattle.am_expire.specs.{Use, use_count}
use Rattle.am_expire.specs.View.{IsSingle}
use Rattle.am_kernel.specs.{KernelState}
use Rattle.am_daemon.specs.{JobPlan, job_of}
use Rattle.am_laws.specs.{trigger_of, waits, releases, delivers, enters, leaves, packet_of, is_open, is_in_queue}
use Rattle.am_machine.specs.State.{State}

-- ---- rows

-- what the trace tells of a world
pub record Rows : Type 0 where
  pub waits : WaitRows
  pub uses : List Use
  pub queue : List QueuedRow
  pub jobs : List JobPlan

-- the rows of the kernel, and these jobs
abbrev pub rows_of : KernelState → List JobPlan → Rows
rows_of k jobs = record { waits = k.waits; uses = k.uses; queue = k.queue; jobs = jobs }

-- the rows of a state
abbrev pub rows_in : State → Rows
rows_in s = rows_of s.kernel s.daemon.jobs

-- ---- tokens

-- the observation names this token, and doesn't close it
abbrev pub names : ℕ → Obs → Bool
names token (Queued other attach packet) = other == token
names token (Waits walker other) = other == token
names token (Delivered other attach packet) = other == token
names token (Released walker other status) = other == token
names token _ = false

-- no token above the latest is named
abbrev pub KnowsTokens : ℕ → List Obs → Type 0
KnowsTokens last trace = (token : ℕ) → last < token → list_any (names token) trace ≡ false

-- what the daemon is asked for
pub record Asked : Type 0 where
  pub trigger : Trigger
  pub kind : TokenKind

-- what a packet asks for
abbrev pub asked_in : Packet → Asked
asked_in packet = record { trigger = trigger_of packet; kind = token_kind packet.kind }

-- what an open token asks for
abbrev pub asked_by : OpenToken → Asked
asked_by row = record { trigger = row.trigger; kind = row.kind }

-- what an open token asks for, by the trace; none of one that isn't open
abbrev pub opened : ℕ → List Obs → Option Asked
opened token trace = if is_open token trace then option_map asked_in (packet_of token trace) else None

-- the tokens that are open by the trace are those of the rows, which ask for the same
abbrev pub AgreeOnOpen : List OpenToken → List Obs → Type 0
AgreeOnOpen tokens trace = (token : ℕ) → opened token trace ≡ option_map asked_by (token_of tokens token)

-- ---- waiters

-- the walker is one of these
abbrev pub has : ℕ → List ℕ → Bool
has walker walkers = list_any (λ other. other == walker) walkers

-- each is another than those behind it
abbrev pub AreDifferent : List ℕ → Type 0
AreDifferent [] = Unit {0}
AreDifferent (walker ∷ walkers) = (has walker walkers ≡ false) × AreDifferent walkers

-- Those who wait on an open token were seen to begin it, and were not released; each waits once.
pub record WaitersFit (trace : List Obs) (token : ℕ) (walkers : List ℕ) : Type 0 where
  pub waited : (walker : ℕ) → list_any (waits walker token) trace ≡ has walker walkers
  pub unreleased : (walker : ℕ) → list_any (releases walker token) trace ≡ false
  pub different : AreDifferent walkers

-- the waiters of each open token are those of the trace
abbrev pub AgreeOnWaiters : List OpenToken → List Obs → Type 0
AgreeOnWaiters tokens trace =
    (token : ℕ) (row : OpenToken) → token_of tokens token ≡ Some row → WaitersFit trace token row.waiters

-- ---- mounts in use

-- a mount was entered as often as it was left and there are walkers inside
abbrev pub AgreeOnUses : List Use → List Obs → Type 0
AgreeOnUses uses trace =
    (mount : ℕ) → count_by (enters mount) trace ≡ count_by (leaves mount) trace + use_count uses mount

-- ---- packets and jobs

-- a queued packet is in the queue by the trace, is that of its token, and was not delivered
pub record PacketFits (trace : List Obs) (row : QueuedRow) : Type 0 where
  pub numbered : row.packet.token ≡ row.token
  pub in_queue : is_in_queue row.token row.attach row.packet trace ≡ true
  pub packet : packet_of row.token trace ≡ Some row.packet
  pub undelivered : list_any (delivers row.token) trace ≡ false

-- each packet of the queue is in the queue by the trace
abbrev pub AgreeOnQueue : List QueuedRow → List Obs → Type 0
AgreeOnQueue queue trace = All (PacketFits trace) queue

-- the packet of each job was delivered
abbrev pub AgreeOnJobs : List JobPlan → List Obs → Type 0
AgreeOnJobs jobs trace = (job : ℕ) → is_some (job_of jobs job) ≡ true → list_any (delivers job) trace ≡ true

-- ---- all of them

-- the rows are what the trace tells of them
pub record FitsTrace (r : Rows) (trace : List Obs) : Type 0 where
  -- tokens and waits agree, and each walker is inside one mount at most
  pub sound : IsSound r.waits
  pub single : IsSingle r.uses
  pub known : KnowsTokens r.waits.last_token trace
  pub opens : AgreeOnOpen r.waits.tokens trace
  pub waiters : AgreeOnWaiters r.waits.tokens trace
  pub inside : AgreeOnUses r.uses trace
  pub queued : AgreeOnQueue r.queue trace
  pub delivered : AgreeOnJobs r.jobs trace
