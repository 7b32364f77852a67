-- Who takes part in a run, and what each of them makes: own choice (docs/DECISIONS.md, "A run says who
-- takes part").
use Rattle.std.specs.Prelude.{◌≡◌, ℕ, Bool, true, false, ◌+◌, ◌-◌, ◌%◌, List, [], ◌∷◌, ◌++◌, All, length, map, Some, Ok}
use Rattle.std.specs.Prelude.{if◌then◌else◌, nat_lt, slice_get}
use Rattle.std.specs.List.{AllZip}
use Rattle.atomic_table.specs.Seated.{TableId}
use Rattle.am_names.specs.{path_read}
use Rattle.am_machine.specs.declared.event.Event.TheVariants.{Attach}
use Rattle.am_machine.specs.declared.answer.Answer.TheVariants.{Attached}
use Rattle.am_pipe.specs.{Taker}
use Rattle.am_shared.specs.{Account, Keep, Receipt}
use Rattle.am_shared.specs.declared.keep.Keep.TheVariants as keeps
use Rattle.am_runner.specs.declared.plan.Run.{Run}
use Rattle.am_runner.specs.Calls.{AreMany, Makes}
use Rattle.am_runner.specs.Roles.{AreEach, IsBreak, IsExpiry, IsRound, IsService, walk}

-- how a run is laid out: the point of its autofs, the paths of its walkers, how many walkers there are, how
-- many rounds each of them makes, and who expires, how often the daemon dies, how many notes its pipe has room for, and
-- whether all that is observed is kept
pub record Plan : Type 0 where
  pub point : List ℕ
  pub paths : List (List ℕ)
  pub walkers : ℕ
  pub rounds : ℕ
  pub breaks : ℕ
  pub capacity : ℕ
  pub watched : Bool

-- how a run is laid out that is handed in so
abbrev pub plan_of : Run → Plan
plan_of run = record {
  point = run.point.now;
  paths = map (λ t. t.now) run.paths.now;
  walkers = run.walkers;
  rounds = run.rounds;
  breaks = run.breaks;
  capacity = run.capacity;
  watched = run.watched;
}

-- what the world of a run keeps; its workers read the history
abbrev pub keep_of : Bool → Keep
keep_of true = keeps.All
keep_of false = keeps.Events

-- the daemon was attached to this file system, at the point of the run, and nothing else was done
pub record IsAttached (plan : Plan) (fs : ℕ) (made : List Receipt) : Type 0 where
  pub place : List (List ℕ)
  pub is_point : path_read plan.point ≡ Ok place
  pub attach : ℕ
  pub mount : ℕ
  pub receipt : Receipt
  pub alone : made ≡ receipt ∷ []
  pub asks : receipt.event ≡ Attach place
  pub told : receipt.answer ≡ Attached fs attach mount

-- who expires has the daemon attached, and makes the rounds behind that, as walker 0
pub record IsExpirer (plan : Plan) (fs : ℕ) (made : List Receipt) : Type 0 where
  pub first : List Receipt
  pub attaches : IsAttached plan fs first
  pub rounds : Makes (AreMany (IsExpiry 0 fs) plan.rounds) first made

-- the walker of this number walks along this path; walkers take the paths in turn, and walker 1 has the first
abbrev pub WalksAlong : Plan → ℕ → List (List ℕ) → Type 0
WalksAlong plan number path =
    (text : List ℕ) × (slice_get plan.paths ((number - 1) % length plan.paths) ≡ Some text)
    × (path_read text ≡ Ok path)

-- a walker of this number makes its rounds along its path
pub record IsWalker (plan : Plan) (number : ℕ) (made : List Receipt) : Type 0 where
  pub path : List (List ℕ)
  pub along : WalksAlong plan number path
  pub rounds : AreMany (IsRound (walk number path) number) plan.rounds made

-- these are walkers, numbered from here on
abbrev pub AreWalkers : Plan → ℕ → List Account → Type 0
AreWalkers plan number [] = Unit {0}
AreWalkers plan number (caller ∷ rest) = IsWalker plan number caller.receipts × AreWalkers plan (number + 1) rest

-- the daemon dies as often as it is to, and attaches again each time
abbrev pub IsBreaker : Plan → ℕ → List Receipt → Type 0
IsBreaker plan fs made = AreMany (IsBreak fs) plan.breaks made

-- each of these lets it die so
abbrev pub AreBreakers : Plan → ℕ → List Account → Type 0
AreBreakers plan fs breaking = All (λ caller. IsBreaker plan fs caller.receipts) breaking

-- a worker serves the notes that its own end of the pipe took
abbrev pub IsWorker : TableId → Taker → List Receipt → Type 0
IsWorker pipe taker made = (taker.pipe ≡ pipe) × AreEach IsService taker.got made

-- each of these is one
abbrev pub AreWorkers : TableId → List Taker → List Account → Type 0
AreWorkers pipe takers working = AllZip (λ taker caller. IsWorker pipe taker caller.receipts) takers working

-- who lets the daemon die, if it is to
abbrev pub breakers : ℕ → ℕ
breakers breaks = if nat_lt 0 breaks then 1 else 0

-- Those who take part in a run, with the account of each: one who expires, the walkers, who lets the daemon die, if it
-- is to, and so many workers, with the end of this pipe of each.
pub record TakePart (plan : Plan) (pipe : TableId) (workers : ℕ) (takers : List Taker)
    (callers : List Account) : Type 0 where
  pub fs : ℕ
  pub expirer : Account
  pub walking : List Account
  pub breaking : List Account
  pub working : List Account
  pub in_turn : callers ≡ expirer ∷ walking ++ breaking ++ working
  pub expires : IsExpirer plan fs expirer.receipts
  pub walks : AreWalkers plan 1 walking
  pub all_walk : length walking ≡ plan.walkers
  pub breaks : AreBreakers plan fs breaking
  pub all_break : length breaking ≡ breakers plan.breaks
  pub serves : AreWorkers pipe takers working
  pub all_serve : length working ≡ workers
