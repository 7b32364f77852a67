-- What a call of a thread adds to its receipts: own choice (docs/DECISIONS.md, "A thread that finds
-- no memory tries again, and then nobody waits").
use Rattle.std.specs.Prelude.{◌≡◌, ℕ, zero, suc, Bool, true, false, List, [], ◌∷◌, ◌++◌, All, Option, Some, None, Ok, Err, Result}
use Rattle.am_names.specs.declared.errno.Errno.TheVariants.{NoMemory}
use Rattle.am_machine.specs.{Event, Answer}
use Rattle.am_machine.specs.declared.answer.Answer.TheVariants as answers
use Rattle.am_shared.specs.{Receipt}
use Rattle.am_runner.specs.declared.calls.Reply.{Reply}
use Rattle.am_runner.specs.declared.calls.Reply.TheVariants as replies

-- the receipts that a caller came with, and behind them only such
pub record Adds (role : Receipt → Type 0) (old new : List Receipt) : Type 0 where
  pub made : List Receipt
  pub behind : new ≡ old ++ made
  pub each : All role made

-- the receipts that a caller came with, and behind them these
pub record Makes (what : List Receipt → Type 0) (old new : List Receipt) : Type 0 where
  pub made : List Receipt
  pub behind : new ≡ old ++ made
  pub are : what made

-- what a thread goes by of an answer; nothing where memory ran out
abbrev pub reply_of : Answer → Option Reply
reply_of (answers.Wait token) = Some replies.Wait
reply_of (answers.At position) = Some replies.Arrived
reply_of (answers.Job job) = Some (replies.Job job)
reply_of (answers.Refused NoMemory) = None
reply_of (answers.Refused errno) = Some replies.Refused
reply_of (answers.Failed errno) = Some replies.Refused
reply_of answer = Some replies.Done

-- it is a receipt of this event
abbrev pub IsOf : Event → Receipt → Type 0
IsOf event receipt = receipt.event ≡ event

-- the event found no memory
abbrev pub RanOut : Event → Receipt → Type 0
RanOut event receipt = IsOf event receipt × (reply_of receipt.answer ≡ None)

-- One call: where memory runs out the event is made again, until it is answered. This is the reply.
pub record IsCall (event : Event) (reply : Reply) (made : List Receipt) : Type 0 where
  pub tries : List Receipt
  pub last : Receipt
  pub in_turn : made ≡ tries ++ last ∷ []
  pub ran_out : All (RanOut event) tries
  pub is_of : IsOf event last
  pub replies : reply_of last.answer ≡ Some reply

-- these are so many of such, one behind the other
abbrev pub AreMany : (List Receipt → Type 0) → ℕ → List Receipt → Type 0
AreMany what zero made = made ≡ []
AreMany what (suc count) made =
    (before : List Receipt) × (last : List Receipt) × (made ≡ before ++ last)
    × AreMany what count before × what last

-- the walker has to wait
abbrev pub is_wait : Reply → Bool
is_wait replies.Wait = true
is_wait reply = false

-- so it has to, unless memory ran out
abbrev pub has_to_wait : {E : Type 0} → Result Reply E → Bool
has_to_wait (Ok reply) = is_wait reply
has_to_wait (Err e) = false

-- it has arrived
abbrev pub is_arrival : Reply → Bool
is_arrival replies.Arrived = true
is_arrival reply = false

-- it is done
abbrev pub is_done : Reply → Bool
is_done replies.Done = true
is_done reply = false

-- the packet was taken up as this job
abbrev pub job_of : Reply → Option ℕ
job_of (replies.Job job) = Some job
job_of reply = None
