-- What is left of the jobs where one goes on, or ends.
use Rattle.std.proofs.Common.{◌≡◌, ℕ, Bool, true, false, cond, ◌==◌, List, [], ◌∷◌, map, Some, refl, sym, ap, subst, ◌∙◌}
use Rattle.std.specs.Prelude.{find, if◌then◌else◌}
use Rattle.std.specs.Option.{option_map}
use Rattle.std.specs.List.{All}
use Rattle.std.proofs.lemmas.List.Elements.{All-nil, All-cons, All-head, All-tail}
use Rattle.am_names.proofs.Basics.{neither_of_or, equal_by_test, or_neither}
use Rattle.am_job.specs.{Outcome, Ended}
use Rattle.am_daemon.specs.{JobPlan, job_of, walked, is_ended, going, finished_in}
use Rattle.am_daemon.proofs.JobLemmas.{find_mapped}
use Rattle.am_machine.specs.{has, AreDifferent}

-- a job without its plan
abbrev pub bare_job : JobPlan → JobPlan
bare_job row = record row { plan = Ended }

abbrev numbers : List JobPlan → List ℕ
numbers jobs = map (λ (row : JobPlan). row.token) jobs

-- ---- a job goes on

bare_by_cases : (row found : JobPlan) (jobs : List JobPlan) (job : ℕ) (outcome : Outcome) (b : Bool) → cond b (Some row) (job_of jobs job) ≡ Some found → is_ended (walked outcome found) ≡ false →
    (job_of jobs job ≡ Some found → map bare_job (finished_in job outcome jobs) ≡ map bare_job jobs) → map bare_job (if b then going (walked outcome row) jobs else row ∷ finished_in job outcome jobs) ≡ map bare_job (row ∷ jobs)
bare_by_cases row found jobs job outcome true e goes later =
    let same : row ≡ found = cc in
    let here : is_ended (walked outcome row) ≡ false = ap (λ (r : JobPlan). is_ended (walked outcome r)) same ∙ goes in
    rw here refl
bare_by_cases row found jobs job outcome false e goes later = ap (λ (rest : List JobPlan). bare_job row ∷ rest) (later e)

bare_finished : (jobs : List JobPlan) (job : ℕ) (outcome : Outcome) (found : JobPlan) → job_of jobs job ≡ Some found → is_ended (walked outcome found) ≡ false → map bare_job (finished_in job outcome jobs) ≡ map bare_job jobs
bare_finished [] job outcome found e goes = refl
bare_finished (row ∷ jobs) job outcome found e goes = bare_by_cases row found jobs job outcome (row.token == job) e goes (λ f. bare_finished jobs job outcome found f goes)

-- each job is found as before, but for its plan
pub goes_found : (jobs : List JobPlan) (job : ℕ) (outcome : Outcome) (found : JobPlan) → job_of jobs job ≡ Some found → is_ended (walked outcome found) ≡ false → (j : ℕ) → option_map bare_job (job_of (finished_in job outcome jobs) j) ≡ option_map bare_job (job_of jobs j)
goes_found jobs job outcome found e goes j =
    let test = λ (row : JobPlan). row.token == j in
    find_mapped bare_job test (finished_in job outcome jobs) ∙ ap (find test) (bare_finished jobs job outcome found e goes) ∙ sym (find_mapped bare_job test jobs)

-- ---- numbers

gone_has : (k : ℕ) (ended : Bool) (outcome : Outcome) (row : JobPlan) (jobs : List JobPlan) → has k (numbers (row ∷ jobs)) ≡ false → has k (numbers (if ended then jobs else walked outcome row ∷ jobs)) ≡ false
gone_has k true outcome row jobs h = (neither_of_or (row.token == k) (has k (numbers jobs)) h).1
gone_has k false outcome row jobs h = h

has_by_cases : (k job : ℕ) (outcome : Outcome) (row : JobPlan) (jobs : List JobPlan) (b : Bool) → has k (numbers (row ∷ jobs)) ≡ false → has k (numbers (finished_in job outcome jobs)) ≡ false → has k (numbers (if b then going (walked outcome row) jobs else row ∷ finished_in job outcome jobs)) ≡ false
has_by_cases k job outcome row jobs true h later = gone_has k (is_ended (walked outcome row)) outcome row jobs h
has_by_cases k job outcome row jobs false h later = or_neither (row.token == k) _ (neither_of_or (row.token == k) (has k (numbers jobs)) h).0 later

finished_has : (k job : ℕ) (outcome : Outcome) (jobs : List JobPlan) → has k (numbers jobs) ≡ false → has k (numbers (finished_in job outcome jobs)) ≡ false
finished_has k job outcome [] h = refl
finished_has k job outcome (row ∷ jobs) h =
    has_by_cases k job outcome row jobs (row.token == job) h (finished_has k job outcome jobs (neither_of_or (row.token == k) (has k (numbers jobs)) h).1)

gone_differ : (ended : Bool) (outcome : Outcome) (row : JobPlan) (jobs : List JobPlan) → AreDifferent (numbers (row ∷ jobs)) → AreDifferent (numbers (if ended then jobs else walked outcome row ∷ jobs))
gone_differ true outcome row jobs h = h.1
gone_differ false outcome row jobs h = h

differ_by_cases : (job : ℕ) (outcome : Outcome) (row : JobPlan) (jobs : List JobPlan) (b : Bool) → AreDifferent (numbers (row ∷ jobs)) → AreDifferent (numbers (finished_in job outcome jobs)) → AreDifferent (numbers (if b then going (walked outcome row) jobs else row ∷ finished_in job outcome jobs))
differ_by_cases job outcome row jobs true h later = gone_differ (is_ended (walked outcome row)) outcome row jobs h
differ_by_cases job outcome row jobs false h later = (finished_has row.token job outcome jobs h.0, later)

pub differ_finished : (job : ℕ) (outcome : Outcome) (jobs : List JobPlan) → AreDifferent (numbers jobs) → AreDifferent (numbers (finished_in job outcome jobs))
differ_finished job outcome [] h = tt
differ_finished job outcome (row ∷ jobs) h = differ_by_cases job outcome row jobs (row.token == job) h (differ_finished job outcome jobs h.1)

-- ---- each of them

module _ (P Q : JobPlan → Type 0) (job : ℕ) (outcome : Outcome) (found : JobPlan) (more : (row : JobPlan) → (row.token == job) ≡ false → P row → Q row) (here : P found → is_ended (walked outcome found) ≡ false → Q (walked outcome found)) where
  others : (jobs : List JobPlan) → has job (numbers jobs) ≡ false → All P jobs → All Q jobs
  others [] none h = All-nil Q
  others (row ∷ jobs) none h =
      let both = neither_of_or (row.token == job) (has job (numbers jobs)) none in
      All-cons Q row jobs (more row both.0 (All-head P row jobs h)) (others jobs both.1 (All-tail P row jobs h))

  going_all : (row : JobPlan) (jobs : List JobPlan) (ended : Bool) → row ≡ found → is_ended (walked outcome row) ≡ ended → P row → All Q jobs → All Q (if ended then jobs else walked outcome row ∷ jobs)
  going_all row jobs true same e p rest = rest
  going_all row jobs false same e p rest =
      let its : Q (walked outcome found) = here (subst P same p) (ap (λ (r : JobPlan). is_ended (walked outcome r)) (sym same) ∙ e) in
      All-cons Q (walked outcome row) jobs (subst (λ (r : JobPlan). Q (walked outcome r)) (sym same) its) rest

  all_by_cases : (row : JobPlan) (jobs : List JobPlan) (b : Bool) → (row.token == job) ≡ b → cond b (Some row) (job_of jobs job) ≡ Some found → AreDifferent (numbers (row ∷ jobs)) → All P (row ∷ jobs) →
      (job_of jobs job ≡ Some found → All Q (finished_in job outcome jobs)) → All Q (if b then going (walked outcome row) jobs else row ∷ finished_in job outcome jobs)
  all_by_cases row jobs true e f differ h later =
      let none : has job (numbers jobs) ≡ false = subst (λ (n : ℕ). has n (numbers jobs) ≡ false) (equal_by_test row.token job e) differ.0 in
      let same : row ≡ found = cc in
      going_all row jobs (is_ended (walked outcome row)) same refl (All-head P row jobs h) (others jobs none (All-tail P row jobs h))
  all_by_cases row jobs false e f differ h later = All-cons Q row (finished_in job outcome jobs) (more row e (All-head P row jobs h)) (later f)

  -- what each other job keeps, and the job itself where it goes on, is so of all that are left
  pub finished_all : (jobs : List JobPlan) → job_of jobs job ≡ Some found → AreDifferent (numbers jobs) → All P jobs → All Q (finished_in job outcome jobs)
  finished_all [] e differ h = absurd cc
  finished_all (row ∷ jobs) e differ h = all_by_cases row jobs (row.token == job) refl e differ h (λ f. finished_all jobs f differ.1 (All-tail P row jobs h))
