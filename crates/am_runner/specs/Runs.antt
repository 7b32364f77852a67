-- What a run of threads comes to: own choice (docs/DECISIONS.md, "Rounds that don't add up are out
-- of memory").
use Rattle.std.specs.Prelude.{◌≡◌, ℕ, ◌-◌, ◌*◌, ◌^◌, ◌&&◌, Bool, true, false, List, [], ◌∷◌, ◌++◌, codes, Ok, not}
use Rattle.std.specs.List.{count_by}
use Rattle.am_map.specs.{Row, map_read}
use Rattle.am_map.specs.declared.kind.MapKind.TheVariants.{Indirect}
use Rattle.am_master.specs.{master_read}
use Rattle.am_names.specs.declared.errno.Errno.TheVariants.{NoMemory}
use Rattle.am_state.specs.{Obs}
use Rattle.am_state.specs.declared.obs.Obs.TheVariants.{Entered, Left}
use Rattle.am_machine.specs.{Event, Answer, Entry, Setup}
use Rattle.am_machine.specs.declared.event.Event.TheVariants.{Leave, Walk}
use Rattle.am_machine.specs.declared.answer.Answer.TheVariants.{At, Done, Refused}
use Rattle.am_pipe.specs.{Note, Taker, taken_by}
use Rattle.am_shared.specs.Sharing.{Sharing}
use Rattle.am_shared.specs.{Account, AreThePackets, IsSharedFrom, Matches, waiting}
use Rattle.am_runner.specs.Parts.{Plan, TakePart, keep_of}
use Rattle.am_runner.specs.declared.tally.Tally.{Tally}

-- memory ran out
abbrev pub is_out_of_memory : Answer → Bool
is_out_of_memory (Refused NoMemory) = true
is_out_of_memory answer = false

-- a walk begins
abbrev pub is_walk : Event → Bool
is_walk (Walk walker ns path now pipe) = true
is_walk event = false

-- a round begins with a walk; where memory ran out, the same round's walk is made once more
unfoldable pub is_round : Entry → Bool
is_round e = is_walk e.event && not (is_out_of_memory e.answer)

-- a walk arrives
abbrev pub is_at : Answer → Bool
is_at (At position) = true
is_at answer = false

-- so a walker enters a mount by this event
abbrev pub enters : Entry → Bool
enters e = is_at e.answer

-- a walker leaves
abbrev pub is_leave : Event → Bool
is_leave (Leave walker) = true
is_leave event = false

-- it is done
abbrev pub is_told_done : Answer → Bool
is_told_done Done = true
is_told_done answer = false

-- so a walker leaves a mount by this event
unfoldable pub leaves : Entry → Bool
leaves e = is_leave e.event && is_told_done e.answer

-- a walker entered a mount
abbrev pub is_entered : Obs → Bool
is_entered (Entered walker mount) = true
is_entered obs = false

-- a walker left a mount
abbrev pub is_left : Obs → Bool
is_left (Left walker mount) = true
is_left obs = false

-- A run over a world that began with this opening: the history is that of a single thread, and each of its entries is
-- the receipt, once, of one of those who took part. What their ends of the pipe took, these notes, which are left in
-- it, and what waits for room in it are the packets of the trace, each once. The pipe has as much room as was asked
-- for, and as much is kept.
pub record IsRun (opening : Setup) (plan : Plan) (workers : ℕ) (left : List (ℕ × Note)) (s : Sharing) : Type 0 where
  pub from : IsSharedFrom opening s
  pub callers : List Account
  pub takers : List Taker
  pub take_part : TakePart plan s.put.pipe workers takers callers
  pub matched : Matches s.history callers
  pub packets : AreThePackets s ((taken_by takers ++ left) ++ waiting s)
  pub room : s.put.room ≡ plan.capacity
  pub keep : s.keep ≡ keep_of plan.watched

-- the rounds of a history, and how often its walkers entered and left a mount
pub record IsTallyOf (tally : Tally) (s : Sharing) : Type 0 where
  pub rounds : tally.rounds ≡ count_by is_round s.history
  pub entered : tally.entered ≡ count_by is_entered s.world.trace
  pub left : tally.left ≡ count_by is_left s.world.trace

-- what a run of threads begins with: an autofs at /auto, of a map in which each key is found, and room for as much
-- as there can be
pub record IsAuto (opening : Setup) : Type 0 where
  pub mounts : opening.limits.mounts ≡ 2 ^ 32 - 1
  pub waiters : opening.limits.waiters ≡ 65536
  pub tokens : opening.limits.tokens ≡ 2 ^ 32 - 1
  pub negative : opening.limits.negative ≡ 0
  pub master_is : master_read (codes "/auto auto.home") ≡ Ok opening.master
  pub rows : List Row
  pub map_is : map_read Indirect (codes "* srv:/&") ≡ Ok rows
  pub maps_are : opening.maps ≡ rows ∷ []

-- two paths for so many walkers, each of which makes so many rounds, and the daemon doesn't die; the pipe has room for
-- 64 notes, and what is observed isn't kept
abbrev pub auto_plan : ℕ → ℕ → Plan
auto_plan walkers rounds = record {
  point = codes "/auto";
  paths = codes "/auto/k0" ∷ codes "/auto/k1" ∷ [];
  walkers = walkers;
  rounds = rounds;
  breaks = 0;
  capacity = 64;
  watched = false;
}

-- The tally of a run of so many walkers and workers, and an expirer: of rounds it counts what was
-- asked for.
pub record IsTally (walkers workers rounds : ℕ) (tally : Tally) : Type 0 where
  pub opening : Setup
  pub is_auto : IsAuto opening
  pub shared : Sharing
  pub left : List (ℕ × Note)
  pub run : IsRun opening (auto_plan walkers rounds) workers left shared
  pub tally_is : IsTallyOf tally shared
  pub asked : tally.rounds ≡ walkers * rounds
