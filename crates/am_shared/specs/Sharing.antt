-- What lies under the lock: own choice (docs/DECISIONS.md, "A shared world has one lock" and "A
-- note is put while the lock is held, and taken without it").
use Rattle.std.specs.Prelude.{◌≡◌, ℕ, Bool, true, false, Option, Some, None, List, [], ◌∷◌, ◌++◌, drop, length}
use Rattle.am_state.specs.{Obs}
use Rattle.am_wait.specs.{still_waits, wait_of}
use Rattle.am_laws.specs.{Lawful}
use Rattle.am_machine.specs.{Event, Answer, Agree, AreInStep, IsReached, IsTold, Setup, initial_state_of, Step, Run, IsLegal, Entry, entry, events_of, answers_of}
use Rattle.am_world.specs.Capacity.{state_of}
use Rattle.am_world.specs.{WorldTable}
use Rattle.am_pipe.specs.{Note, Putter}
use Rattle.am_shared.specs.Notes.{notes_of, IsFlushed}
use Rattle.am_shared.specs.Keeping.{handed_before, keeps_events, keeps_seen}
use Rattle.am_shared.specs.declared.keep.Keep.{Keep}

-- a world, the events that happened to it with their answers, of which so many of the first were taken,
-- the put end of the pipe, the notes that wait for room in the pipe, and what is kept
pub record Sharing : Type 0 where
  pub world : WorldTable
  pub history : List Entry
  pub taken : ℕ
  pub put : Putter
  pub unsent : List Note
  pub keep : Keep

-- the events that weren't taken
abbrev pub left_of : Sharing → List Entry
left_of s = drop s.taken s.history

-- all are taken, and nothing else has changed
abbrev pub all_taken : Sharing → Sharing
all_taken s = record s { taken = length s.history }

-- what is kept by each event
pub record IsKept (s : Sharing) : Type 0 where
  -- the history is one of a single thread, and ends in the world
  pub legal : IsLegal s.history (state_of s.world)
  -- the notes that were put, and then those that wait, are those of all queued packets
  pub notes : s.put.sent ++ s.unsent ≡ notes_of s.world.trace
  -- the world keeps all that was observed, where it is asked to
  pub whole : keeps_seen s.keep ≡ true → s.world.handed ≡ 0
  -- no event was taken, where they are to be kept
  pub untaken : keeps_events s.keep ≡ true → s.taken ≡ 0
  -- they wait only where the pipe was full
  pub flushed : IsFlushed s.put s.unsent

-- what holds of it whenever the lock is free
pub record IsShared (s : Sharing) : Type 0 where
  pub kept : IsKept s
  pub lawful : Lawful s.world.trace
  -- the world is what its trace tells, and came by a run along paths, of which each law is said
  pub tells : IsTold (state_of s.world)
  pub reached : IsReached (state_of s.world)
  pub agree : Agree (state_of s.world)
  pub in_step : AreInStep (state_of s.world)

-- what holds of it whenever the lock is free, where the world began with this opening
pub record IsSharedFrom (opening : Setup) (s : Sharing) : Type 0 where
  -- the history is a run from the initial world of this opening
  pub run : Run (initial_state_of opening) (events_of s.history) (answers_of s.history) (state_of s.world)
  pub shared : IsShared s

-- the put end is still that of the same pipe, with as many take ends and as much room
pub record IsSamePut (old new : Putter) : Type 0 where
  pub pipe : new.pipe ≡ old.pipe
  pub takers : new.takers ≡ old.takers
  pub room : new.room ≡ old.room

-- The event was applied: the world made a step with this answer, and the pair is the last of the
-- history, at this position, and so of what is left of it. Where not all that was observed is kept, the
-- world keeps what was seen of this event.
pub record Applies (old new : Sharing) (event : Event) (position : ℕ)
    (answer : Answer) : Type 0 where
  pub seen : List Obs
  pub step : Step (state_of old.world) event answer seen (state_of new.world)
  pub history : new.history ≡ old.history ++ entry event answer ∷ []
  pub is_last : position ≡ length new.history
  pub taken : new.taken ≡ old.taken
  pub left : left_of new ≡ left_of old ++ entry event answer ∷ []
  pub put : IsSamePut old.put new.put
  pub keep : new.keep ≡ old.keep
  pub handed : new.world.handed ≡ handed_before old.keep old.world

-- a walker has a wait that isn't acknowledged
abbrev pub has_to_wait : ℕ → Sharing → Bool
has_to_wait walker s = still_waits (wait_of s.world.kernel.waits.waits walker)

-- so it is with what lies under the lock, where nothing lies there once all callers are gathered
abbrev pub is_held_up : ℕ → Option Sharing → Bool
is_held_up walker None = false
is_held_up walker (Some s) = has_to_wait walker s
