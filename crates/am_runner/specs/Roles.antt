-- What each role of a run makes, the receipts of its caller: own choice (docs/DECISIONS.md, "A
-- worker gives up a job at any refusal").
use Rattle.std.specs.Prelude.{◌≡◌, ◌⊎◌, ℕ, Bool, true, false, List, [], ◌∷◌, ◌++◌, All, Option, Some, None}
use Rattle.am_names.specs.declared.fail_no.FailNo.{FailNo}
use Rattle.am_names.specs.declared.trigger.PipeState.TheVariants.{Room}
use Rattle.am_machine.specs.{Event}
use Rattle.am_machine.specs.declared.event.Event.TheVariants as events
use Rattle.am_pipe.specs.{Note}
use Rattle.am_shared.specs.{Receipt}
use Rattle.am_runner.specs.declared.calls.Reply.{Reply}
use Rattle.am_runner.specs.declared.calls.Reply.TheVariants as replies
use Rattle.am_runner.specs.Calls.{AreMany, IsCall, IsOf, RanOut, is_arrival, is_wait, job_of}
use Rattle.am_trigger.specs.declared.autofs.Autofs.{Autofs}

-- ---- walkers, and who expires

-- a walker resumes its own walk or expiry, at moment 0, where the pipe has room
abbrev pub resume : ℕ → Event
resume walker = events.Resume walker 0 Room

-- a walker begins a walk along this path in the first namespace
abbrev pub walk : ℕ → List (List ℕ) → Event
walk walker path = events.Walk walker 0 path 0 Room

-- who expires asks for an immediate expiry of this file system
abbrev pub expiry : ℕ → ℕ → Event
expiry walker fs = events.Expire walker fs 0 true Room

-- resumes, each of which has to wait, and then one that hasn't; this is the reply to that
pub record GoesOn (walker : ℕ) (reply : Reply) (made : List Receipt) : Type 0 where
  pub count : ℕ
  pub waits : List Receipt
  pub last : List Receipt
  pub in_turn : made ≡ waits ++ last
  pub are_waits : AreMany (IsCall (resume walker) replies.Wait) count waits
  pub resumes : IsCall (resume walker) reply last
  pub is_over : is_wait reply ≡ false

-- an event of a walker that has to wait, and then resumes
pub record Waits (event : Event) (walker : ℕ) (reply : Reply) (made : List Receipt) : Type 0 where
  pub first : List Receipt
  pub rest : List Receipt
  pub in_turn : made ≡ first ++ rest
  pub waits : IsCall event replies.Wait first
  pub goes_on : GoesOn walker reply rest

-- an event of a walker, which then resumes as long as it has to wait; the last reply
abbrev pub Settles : Event → ℕ → Reply → List Receipt → Type 0
Settles event walker reply made =
    (IsCall event reply made × (is_wait reply ≡ false)) ⊎ Waits event walker reply made

-- a walker that has arrived leaves, and no other
abbrev pub Leaves : ℕ → Bool → List Receipt → Type 0
Leaves walker true made = (reply : Reply) × IsCall (events.Leave walker) reply made
Leaves walker false made = made ≡ []

-- a round of a walker: it walks, resumes as long as it has to wait, and leaves where it has arrived
pub record IsRound (walk : Event) (walker : ℕ) (made : List Receipt) : Type 0 where
  pub walks : List Receipt
  pub leaves : List Receipt
  pub reply : Reply
  pub in_turn : made ≡ walks ++ leaves
  pub settles : Settles walk walker reply walks
  pub ends : Leaves walker (is_arrival reply) leaves

-- a round of who expires: it asks for an expiry, and resumes as long as it has to wait
abbrev pub IsExpiry : ℕ → ℕ → List Receipt → Type 0
IsExpiry walker fs made = (reply : Reply) × Settles (expiry walker fs) walker reply made

-- an event of a walker, or a resume
abbrev pub IsOfSettling : Event → ℕ → Receipt → Type 0
IsOfSettling event walker receipt = IsOf event receipt ⊎ IsOf (resume walker) receipt

-- this walk, a resume or a leave of a walker
abbrev pub IsOfRound : Event → ℕ → Receipt → Type 0
IsOfRound walk walker receipt =
    IsOfSettling walk walker receipt ⊎ IsOf (events.Leave walker) receipt

-- an expiry or a resume of who expires
abbrev pub IsOfExpirer : ℕ → ℕ → Receipt → Type 0
IsOfExpirer walker fs receipt = IsOfSettling (expiry walker fs) walker receipt

-- ---- who breaks

-- this event was called for
abbrev pub IsCallOf : Event → List Receipt → Type 0
IsCallOf event made = (reply : Reply) × IsCall event reply made

-- A round of a breaker: the daemon dies, the file system becomes catatonic, and the daemon attaches
-- to it again, each once.
pub record IsBreak (fs : ℕ) (made : List Receipt) : Type 0 where
  pub death : List Receipt
  pub catatonic : List Receipt
  pub reattachment : List Receipt
  pub in_turn : made ≡ (death ++ catatonic) ++ reattachment
  pub dies : IsCallOf events.Die death
  pub is_catatonic : IsCallOf (events.AdminCatatonic fs) catatonic
  pub reattaches : IsCallOf (events.Reattach fs) reattachment

-- one of the three
abbrev pub IsOfBreaker : ℕ → Receipt → Type 0
IsOfBreaker fs receipt =
    IsOf events.Die receipt ⊎ IsOf (events.AdminCatatonic fs) receipt ⊎ IsOf (events.Reattach fs) receipt

-- ---- workers

-- the daemon takes the packet of this note up, byte for byte
abbrev pub delivery : ℕ × Note → Event
delivery taken = events.Deliver taken.1.token (Some taken.1.bytes)

-- an act of this job, which may have failed with any number
abbrev pub IsActOf : ℕ → Receipt → Type 0
IsActOf job receipt = (failure : Option FailNo) × IsOf (events.Act job failure) receipt

-- it was called for, with this reply
abbrev pub IsAct : ℕ → Reply → List Receipt → Type 0
IsAct job reply made = (failure : Option FailNo) × IsCall (events.Act job failure) reply made

-- nothing more, or one more act
abbrev pub IsEnd : ℕ → List Receipt → Type 0
IsEnd job made = (made ≡ []) ⊎ ((reply : Reply) × IsAct job reply made)

-- the work of a job: acts one by one, each of which was done, and none behind one that wasn't
pub record IsWork (job : ℕ) (made : List Receipt) : Type 0 where
  pub count : ℕ
  pub done : List Receipt
  pub last : List Receipt
  pub in_turn : made ≡ done ++ last
  pub are_done : AreMany (IsAct job replies.Done) count done
  pub ends : IsEnd job last

-- the work of a job, if one was begun
abbrev pub IsWorkOf : Option ℕ → List Receipt → Type 0
IsWorkOf (Some job) made = IsWork job made
IsWorkOf None made = made ≡ []

-- a note is served: its packet is delivered, and then comes the work of the job which that began
pub record IsService (taken : ℕ × Note) (made : List Receipt) : Type 0 where
  pub delivers : List Receipt
  pub works : List Receipt
  pub reply : Reply
  pub in_turn : made ≡ delivers ++ works
  pub delivered : IsCall (delivery taken) reply delivers
  pub worked : IsWorkOf (job_of reply) works

-- acts of the job that the delivery of this packet began
abbrev pub AreActsBehind : ℕ × Note → List Receipt → List Receipt → Type 0
AreActsBehind taken delivers made =
    (job : ℕ) × IsCall (delivery taken) (replies.Job job) delivers × All (IsActOf job) made

-- a service that was broken off where memory ran out
pub record IsBrokenOff (taken : ℕ × Note) (made : List Receipt) : Type 0 where
  pub delivers : List Receipt
  pub works : List Receipt
  pub in_turn : made ≡ delivers ++ works
  pub each : All (IsOf (delivery taken)) delivers
  pub acts : (works ≡ []) ⊎ AreActsBehind taken delivers works

-- nobody can wait at such a file system
abbrev pub is_given_up : Option Autofs → Bool
is_given_up None = true
is_given_up (Some autofs) = autofs.catatonic

-- Who gives up has the file system made catatonic: the event is made again where memory runs out, until it is answered,
-- or until others have done so.
abbrev pub GivesUp : ℕ → List Receipt → Type 0
GivesUp fs made =
    ((reply : Reply) × IsCall (events.AdminCatatonic fs) reply made) ⊎ All (RanOut (events.AdminCatatonic fs)) made

-- a service that was broken off, and given up
pub record IsGivenUp (fs : ℕ) (taken : ℕ × Note) (made : List Receipt) : Type 0 where
  pub tried : List Receipt
  pub gave : List Receipt
  pub in_turn : made ≡ tried ++ gave
  pub broken_off : IsBrokenOff taken tried
  pub gives_up : GivesUp fs gave

-- a service, or one that was given up
abbrev pub IsTried : ℕ → ℕ × Note → List Receipt → Type 0
IsTried fs taken made = IsService taken made ⊎ IsGivenUp fs taken made

-- what was made of these notes, one behind the other
abbrev pub AreEach : (ℕ × Note → List Receipt → Type 0) → List (ℕ × Note) → List Receipt → Type 0
AreEach what [] made = made ≡ []
AreEach what (x ∷ taken) made =
    (first : List Receipt) × (rest : List Receipt) × (made ≡ first ++ rest)
    × what x first × AreEach what taken rest

-- a worker took notes out of the pipe, and made this of them in turn
pub record Serves (what : ℕ × Note → List Receipt → Type 0) (got_old got_new : List (ℕ × Note)) (old new : List Receipt) : Type 0 where
  pub taken : List (ℕ × Note)
  pub takes : got_new ≡ got_old ++ taken
  pub made : List Receipt
  pub behind : new ≡ old ++ made
  pub are : AreEach what taken made
