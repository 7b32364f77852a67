-- What comes back from the threads of a run.
use Rattle.std.proofs.Common.{◌≡◌, ℕ, suc, ◌+◌, List, [], ◌∷◌, ◌++◌, All, Ok, length, refl, sym, ap, ◌∙◌, subst, arith}
use Rattle.std.proofs.lemmas.List.Elements.{All-cons, All-nil}
use Rattle.atomic_table.specs.Seated.{TableId}
use Rattle.am_names.specs.{path_read}
use Rattle.std.specs.Prelude.{◌-◌, Some, slice_get}
use Rattle.am_machine.specs.{Answer}
use Rattle.am_machine.specs.declared.event.Event.TheVariants as events
use Rattle.am_machine.specs.declared.answer.Answer.TheVariants as answers
use Rattle.am_pipe.specs.{Note, Taker}
use Rattle.am_shared.specs.{Account, Receipt}
use Rattle.am_runner.proofs.CallLemmas.{last_made}
use Rattle.am_runner.specs.{AreEach, AreMany, AreWalkers, AreWorkers, IsAttached, IsBreak, IsBreaker, IsExpirer}
use Rattle.am_runner.specs.{IsExpiry, IsRound, IsWalker, IsWorker, Makes, Plan, Serves, WalksAlong, walk}

-- one more walker behind these
pub walkers_more : (plan : Plan) (first : ℕ) (before : List Account) (number : ℕ)
    (made : Account) → AreWalkers plan first before → number ≡ first + length before
    → IsWalker plan number made.receipts → AreWalkers plan first (before ++ made ∷ [])
walkers_more plan first [] number made are is one =
    let at : number ≡ first = omega (arith, is) in
    (subst (λ n. IsWalker plan n made.receipts) at one, tt)
walkers_more plan first (x ∷ before) number made (this, rest) is one =
    (this, walkers_more plan (first + 1) before number made rest (omega (arith, is)) one)

-- one more worker behind these
pub workers_more : (pipe : TableId) (takers : List Taker) (before : List Account)
    (taker : Taker) (made : Account) → AreWorkers pipe takers before
    → IsWorker pipe taker made.receipts → AreWorkers pipe (takers ++ taker ∷ []) (before ++ made ∷ [])
workers_more pipe [] [] taker made are one = (one, tt)
workers_more pipe (t ∷ takers) (m ∷ before) taker made (this, rest) one =
    (this, workers_more pipe takers before taker made rest one)
workers_more pipe [] (m ∷ before) taker made are one = absurd are
workers_more pipe (t ∷ takers) [] taker made are one = absurd are

-- the same of lists that are known to be longer by one
pub workers_behind : (pipe : TableId) (takers takers' : List Taker) (before before' : List Account)
    (taker : Taker) (made : Account) → takers' ≡ takers ++ taker ∷ []
    → before' ≡ before ++ made ∷ [] → AreWorkers pipe takers before → IsWorker pipe taker made.receipts
    → AreWorkers pipe takers' before'
workers_behind pipe takers takers' before before' taker made e f are one =
    subst (λ (ts : List Taker). AreWorkers pipe ts before') (sym e)
    (subst (λ (ms : List Account). AreWorkers pipe (takers ++ taker ∷ []) ms) (sym f)
    (workers_more pipe takers before taker made are one))

-- there is an end of the pipe for each worker
pub as_many : (pipe : TableId) (takers : List Taker) (working : List Account)
    → AreWorkers pipe takers working → length takers ≡ length working
as_many pipe [] [] are = refl
as_many pipe (t ∷ takers) (m ∷ working) (this, rest) = ap suc (as_many pipe takers working rest)
as_many pipe [] (m ∷ working) are = absurd are
as_many pipe (t ∷ takers) [] are = absurd are

-- these are all of the same pipe
pub all_of_pipe : (pipe : TableId) (takers : List Taker) (working : List Account)
    → AreWorkers pipe takers working → All (λ taker. taker.pipe ≡ pipe) takers
all_of_pipe pipe [] [] are = All-nil (λ (taker : Taker). taker.pipe ≡ pipe)
all_of_pipe pipe (t ∷ takers) (m ∷ working) (this, rest) =
    All-cons (λ (taker : Taker). taker.pipe ≡ pipe) t takers this.0
    (all_of_pipe pipe takers working rest)
all_of_pipe pipe [] (m ∷ working) are = absurd are
all_of_pipe pipe (t ∷ takers) [] are = absurd are

-- all that was made by a caller that had made nothing
pub makes_all : (P : List Receipt → Type 0) (old new : List Receipt) → old ≡ []
    → Makes P old new → P new
makes_all P old new none makes =
    subst P (sym (subst (λ xs. new ≡ xs ++ makes.made) none makes.behind)) makes.are

-- all that was served by a worker that had taken nothing
pub serves_all : (P : ℕ × Note → List Receipt → Type 0) (got_old got_new : List (ℕ × Note))
    (old new : List Receipt) → got_old ≡ []
    → old ≡ [] → Serves P got_old got_new old new → AreEach P got_new new
serves_all P got_old got_new old new none nothing serves =
    let taken : got_new ≡ serves.taken = subst (λ xs. got_new ≡ xs ++ serves.taken) none serves.takes in
    let made : new ≡ serves.made = subst (λ xs. new ≡ xs ++ serves.made) nothing serves.behind in
    subst (λ t. AreEach P t new) (sym taken) (subst (AreEach P serves.taken) (sym made) serves.are)

-- who had the daemon attached
pub attached_of : (plan : Plan) (fs attach mount : ℕ) (place : List (List ℕ)) (old new : List Receipt)
    (receipt : Receipt) → path_read plan.point ≡ Ok place → old ≡ [] → new ≡ old ++ receipt ∷ []
    → receipt.event ≡ events.Attach place → receipt.answer ≡ answers.Attached fs attach mount
    → IsAttached plan fs new
attached_of plan fs attach mount place old new receipt point none behind asks told = record {
  place = place;
  is_point = point;
  attach = attach;
  mount = mount;
  receipt = receipt;
  alone = subst (λ (xs : List Receipt). new ≡ xs ++ receipt ∷ []) none behind;
  asks = asks;
  told = told;
}

-- the same, whose receipt is asked for behind the call
pub attached_made : (plan : Plan) (fs attach mount position : ℕ) (answer : Answer)
    (place : List (List ℕ)) (old new : List Receipt) (last : Receipt) → path_read plan.point ≡ Ok place
    → old ≡ []
    → new ≡ old ++ record { position = position; event = events.Attach place; answer = answer } ∷ []
    → Some last ≡ slice_get new (length new - 1) → last.answer ≡ answers.Attached fs attach mount
    → IsAttached plan fs new
attached_made plan fs attach mount position answer place old new last point none behind at told =
    let r : Receipt = record { position = position; event = events.Attach place; answer = answer } in
    attached_of plan fs attach mount place old new r point none behind refl
    (ap (λ (x : Receipt). x.answer) (sym (last_made old new r last behind at)) ∙ told)

-- who expires, in a run that is laid out as the plan says
pub expirer_of : (plan q : Plan) (fs : ℕ) (first new : List Receipt) → plan ≡ q
    → IsAttached plan fs first → Makes (AreMany (IsExpiry 0 fs) q.rounds) first new
    → IsExpirer plan fs new
expirer_of plan q fs first new e attached makes = record {
  first = first;
  attaches = attached;
  rounds = subst (λ n. Makes (AreMany (IsExpiry 0 fs) n) first new) (sym (ap (λ (p : Plan). p.rounds) e))
      makes;
}

-- a walker
pub walker_of : (plan q : Plan) (number : ℕ) (path : List (List ℕ)) (old new : List Receipt)
    → plan ≡ q → old ≡ [] → WalksAlong q number path
    → Makes (AreMany (IsRound (walk number path) number) q.rounds) old new → IsWalker plan number new
walker_of plan q number path old new e none along makes =
    let is : IsWalker q number new = record {
      path = path;
      along = along;
      rounds = makes_all (AreMany (IsRound (walk number path) number) q.rounds) old new none makes;
    } in
    subst (λ (p : Plan). IsWalker p number new) (sym e) is

-- who lets the daemon die
pub breaker_of : (plan q : Plan) (fs : ℕ) (old new : List Receipt) → plan ≡ q → old ≡ []
    → Makes (AreMany (IsBreak fs) q.breaks) old new → IsBreaker plan fs new
breaker_of plan q fs old new e none makes =
    subst (λ n. AreMany (IsBreak fs) n new) (sym (ap (λ (p : Plan). p.breaks) e))
    (makes_all (AreMany (IsBreak fs) q.breaks) old new none makes)
