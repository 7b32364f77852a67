-- Every world is consistent, and so its trace is lawful.
use Rattle.std.proofs.Common.{List, [], ◌∷◌, refl, sym, subst, inl, inr, arith}
use Rattle.std.proofs.lemmas.List.{append-nil}
use Rattle.std.proofs.lemmas.List.Elements.{All-nil}
use Rattle.am_state.specs.{Obs}
use Rattle.am_wait.proofs.AgreeLemmas.{new_sound}
use Rattle.am_laws.proofs.Append.{lawful_append}
use Rattle.am_laws.proofs.Decided.{lawful_from_test}
use Rattle.am_machine.specs.{Event, Answer, Setup, initial_state_of, Step, Run, after, outcome_of, rows_in, FitsTrace, PacketFits, IsTraced, HalvesAgree, IsConsistent, IsLawful, RunsAreLawful}
use Rattle.am_machine.specs.State.{State}
use Rattle.am_machine.proofs.Traces.Changes.{outcome_follows}
use Rattle.am_machine.proofs.Tokens.Notify.{numbered}
use Rattle.am_machine.proofs.Attachments.Changes.{initial_given, outcome_given}
use Rattle.am_machine.proofs.Tokens.Changes.{initial_tokens, outcome_tokens}
use Rattle.am_machine.proofs.Planned.Changes.{initial_planned, outcome_planned}
use Rattle.am_machine.proofs.Records.Changes.{initial_records, outcome_records}
use Rattle.am_machine.proofs.Places.Initial.{initial_places}
use Rattle.am_machine.proofs.Places.Changes.{outcome_places}
use Rattle.am_machine.proofs.Books.Changes.{initial_book, outcome_book}
use Rattle.am_machine.proofs.TriggerMounts.Changes.{initial_stands, outcome_stands}

-- ---- steps

-- an outcome keeps the opening, and what it adds to the trace has one packet at most
pub outcome_lawful : (s : State) (event : Event) → IsLawful s (outcome_of s event).seen (after s (outcome_of s event))
outcome_lawful s event =
    let follows = outcome_follows s event in
    record { opening = follows.opening; trace = refl; once = follows.once }

pub step_lawful : (old : State) (event : Event) (answer : Answer) (shown : List Obs) (new : State) → Step old event answer shown new → IsLawful old shown new
step_lawful old event answer shown new (inl out) =
    subst (λ (s : State). IsLawful old shown s) (sym out.same) (subst (λ (more : List Obs). IsLawful old more old) (sym out.nothing) (record { opening = refl; trace = sym (append-nil old.trace); once = omega arith }))
step_lawful old event answer shown new (inr comes) =
    subst (λ (s : State). IsLawful old shown s) (sym comes.left) (subst (λ (more : List Obs). IsLawful old more (after old (outcome_of old event))) (sym comes.shown) (outcome_lawful old event))

-- ---- every world is traced

initial_fits : (opening : Setup) → FitsTrace (rows_in (initial_state_of opening)) []
initial_fits opening = record {
  sound = new_sound opening.limits.waiters opening.limits.tokens;
  single = tt;
  known = λ token above. refl;
  opens = λ token. refl;
  waiters = λ token row e. absurd cc;
  inside = λ mount. refl;
  queued = All-nil (PacketFits []);
  delivered = λ job is. absurd cc;
}

pub initial_traced : (opening : Setup) → IsTraced (initial_state_of opening)
initial_traced opening = record { fits = initial_fits opening; lawful = lawful_from_test [] refl }

-- an outcome keeps what ties the trace to the rows, and the laws
pub outcome_traced : (s : State) (event : Event) → IsTraced s → IsTraced (after s (outcome_of s event))
outcome_traced s event h =
    let o = outcome_of s event in
    let adds = (outcome_follows s event).adds h.fits in
    record { fits = adds.fits; lawful = (lawful_append s.trace o.seen adds.start).1 (h.lawful, adds.lawful) }

-- and so does a step
pub step_traced : (old : State) (event : Event) (answer : Answer) (shown : List Obs) (new : State) → Step old event answer shown new → IsTraced old → IsTraced new
step_traced old event answer shown new (inl out) h = subst IsTraced (sym out.same) h
step_traced old event answer shown new (inr comes) h = subst IsTraced (sym comes.left) (outcome_traced old event h)

-- and a run
pub run_traced : (old : State) (events : List Event) (answers : List Answer) (new : State) → Run old events answers new → IsTraced old → IsTraced new
run_traced old [] [] new run h = subst IsTraced (sym run) h
run_traced old (event ∷ events) (answer ∷ answers) new run h = run_traced run.0 events answers new run.3 (step_traced old event answer run.1 run.0 run.2 h)
run_traced old [] (answer ∷ answers) new run h = absurd run
run_traced old (event ∷ events) [] new run h = absurd run

pub runs_lawful : RunsAreLawful
runs_lawful opening events answers s run = (run_traced (initial_state_of opening) events answers s run (initial_traced opening)).lawful

-- ---- kernel and daemon agree

pub initial_agree : (opening : Setup) → HalvesAgree (initial_state_of opening)
initial_agree opening = record {
  given = initial_given opening;
  tokens = initial_tokens opening;
  planned = initial_planned opening;
  places = initial_places opening;
  book = initial_book opening;
  records = initial_records opening;
  stands = initial_stands opening;
}

-- an outcome leaves it so
pub outcome_agree : (s : State) (event : Event) → IsTraced s → HalvesAgree s → HalvesAgree (after s (outcome_of s event))
outcome_agree s event traced h =
    let numbers = numbered s.kernel s.daemon.jobs s.trace traced.fits in
    record {
      given = outcome_given s event h.planned h.tokens h.given;
      tokens = outcome_tokens s event numbers h.given h.planned h.tokens;
      planned = outcome_planned s event h.planned;
      places = outcome_places s event h.places;
      book = outcome_book s event h.given h.tokens h.planned h.book;
      records = outcome_records s event numbers h.planned h.tokens h.records;
      stands = outcome_stands s event h.given h.tokens h.planned h.places h.book h.stands;
    }

-- ---- and every world is consistent

pub initial_consistent : (opening : Setup) → IsConsistent (initial_state_of opening)
initial_consistent opening = record { traced = initial_traced opening; agreed = initial_agree opening }

-- an outcome leaves a consistent state
pub outcome_consistent : (s : State) (event : Event) → IsConsistent s → IsConsistent (after s (outcome_of s event))
outcome_consistent s event h = record {
  traced = outcome_traced s event h.traced;
  agreed = outcome_agree s event h.traced h.agreed;
}

-- and so do a step and a run
pub step_consistent : (old : State) (event : Event) (answer : Answer) (shown : List Obs) (new : State) → Step old event answer shown new → IsConsistent old → IsConsistent new
step_consistent old event answer shown new (inl out) h = subst IsConsistent (sym out.same) h
step_consistent old event answer shown new (inr comes) h = subst IsConsistent (sym comes.left) (outcome_consistent old event h)

pub run_consistent : (old : State) (events : List Event) (answers : List Answer) (new : State) → Run old events answers new → IsConsistent old → IsConsistent new
run_consistent old [] [] new run h = subst IsConsistent (sym run) h
run_consistent old (event ∷ events) (answer ∷ answers) new run h = run_consistent run.0 events answers new run.3 (step_consistent old event answer run.1 run.0 run.2 h)
run_consistent old [] (answer ∷ answers) new run h = absurd run
run_consistent old (event ∷ events) [] new run h = absurd run
