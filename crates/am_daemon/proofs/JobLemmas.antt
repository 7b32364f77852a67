-- The job of a number, and where it stands.
use Rattle.std.proofs.Common.{◌≡◌, ℕ, zero, suc, ◌+◌, ◌<◌, Bool, true, false, cond, not, ◌==◌, List, [], ◌∷◌, length, map, Option, Some, None, set, get_or, ltb, refl, ap, sym, subst, ◌∙◌, arith}
use Rattle.std.specs.Prelude.{find, position, remove}
use Rattle.std.specs.List.{position_or_len}
use Rattle.std.specs.Option.{option_map}
use Rattle.std.proofs.lemmas.Bool.{ltb-true, le-ltb}
use Rattle.std.proofs.lemmas.Option.{cond_some}
use Rattle.am_names.proofs.Basics.{equal_by_test, differ_the_other_way}
use Rattle.am_names.proofs.Cuts.{passes_on}
use Rattle.am_names.specs.declared.trigger.Trigger.{Trigger}
use Rattle.am_job.specs.{Outcome, JobState, plan_of, Plan, Ended, rest_of}
use Rattle.am_daemon.specs.{JobPlan, job_plan, job_of, walked, is_ended, finished_in, OthersStay}

-- a test finds in a list what it finds in what the list is made from
pub find_mapped : {A B : Type 0} (f : A → B) (test : B → Bool) (xs : List A) → option_map f (find (λ x. test (f x)) xs) ≡ find test (map f xs)
find_mapped f test [] = refl
find_mapped {A} {B} f test (x ∷ xs) =
    elim (test (f x)) as (λ b. option_map f (cond b (Some x) (find (λ y. test (f y)) xs)) ≡ cond b (Some (f x)) (find test (map f xs))) [
      | true ↦ refl
      | false ↦ find_mapped f test xs
    ]

place_mapped : {A B : Type 0} (f : A → B) (test : B → Bool) (xs : List A) → position_or_len (λ x. test (f x)) xs ≡ position_or_len test (map f xs)
place_mapped f test [] = refl
place_mapped f test (x ∷ xs) = ap (λ (n : ℕ). cond (not (test (f x))) (1 + n) 0) (place_mapped f test xs)

length_mapped : {A B : Type 0} (f : A → B) (xs : List A) → length xs ≡ length (map f xs)
length_mapped f [] = refl
length_mapped f (x ∷ xs) = ap suc (length_mapped f xs)

pub position_mapped : {A B : Type 0} (f : A → B) (test : B → Bool) (xs : List A) → position (λ x. test (f x)) xs ≡ position test (map f xs)
position_mapped f test xs =
    let place : ℕ → ℕ → Option ℕ = λ p n. cond (ltb p n) (Some p) None in
    ap (λ (p : ℕ). place p (length xs)) (place_mapped f test xs) ∙ ap (place (position_or_len test (map f xs))) (length_mapped f xs)

pub remove_mapped : {A B : Type 0} (f : A → B) (xs : List A) (at : ℕ) → map f (remove xs at) ≡ remove (map f xs) at
remove_mapped f [] zero = refl
remove_mapped f [] (suc at) = refl
remove_mapped f (x ∷ xs) zero = refl
remove_mapped {A} {B} f (x ∷ xs) (suc at) = ap (λ (ys : List B). f x ∷ ys) (remove_mapped f xs at)

-- the first job of a number, and where it stands
pub record StandsAt (jobs : List JobPlan) (job at : ℕ) (row : JobPlan) : Type 0 where
  pub within : at < length jobs
  pub stays : (outcome : Outcome) → is_ended (walked outcome row) ≡ false → set jobs at (walked outcome row) ≡ finished_in job outcome jobs
  pub ends : (outcome : Outcome) → is_ended (walked outcome row) ≡ true → remove (set jobs at (walked outcome row)) at ≡ finished_in job outcome jobs

stands_here : (row : JobPlan) (jobs : List JobPlan) (job : ℕ) → (row.token == job) ≡ true → StandsAt (row ∷ jobs) job 0 row
stands_here row jobs job same =
    record {
      within = omega arith;
      stays = λ outcome goes. rw (same, goes) refl;
      ends = λ outcome ended. rw (same, ended) refl;
    }

stands_further : (row : JobPlan) (jobs : List JobPlan) (job at : ℕ) (found : JobPlan) → (row.token == job) ≡ false → StandsAt jobs job at found → StandsAt (row ∷ jobs) job (suc at) found
stands_further row jobs job at found differs there =
    record {
      within = omega (arith, there.within);
      stays = λ outcome goes. rw differs (ap (λ (others : List JobPlan). row ∷ others) (there.stays outcome goes));
      ends = λ outcome ended. rw differs (ap (λ (others : List JobPlan). row ∷ others) (there.ends outcome ended));
    }

at_row : (row : JobPlan) (jobs : List JobPlan) (job : ℕ) (d : JobPlan) (b : Bool) → (row.token == job) ≡ b →
    (position_or_len (λ other. other.token == job) jobs < length jobs → StandsAt jobs job (position_or_len (λ other. other.token == job) jobs) (get_or jobs (position_or_len (λ other. other.token == job) jobs) d)) →
    position_or_len (λ other. other.token == job) (row ∷ jobs) < length (row ∷ jobs) →
    StandsAt (row ∷ jobs) job (position_or_len (λ other. other.token == job) (row ∷ jobs)) (get_or (row ∷ jobs) (position_or_len (λ other. other.token == job) (row ∷ jobs)) d)
at_row row jobs job d true e later h = rw e (stands_here row jobs job e)
at_row row jobs job d false e later h =
    let further : 1 + position_or_len (λ other. other.token == job) jobs ≡ suc (position_or_len (λ other. other.token == job) jobs) = omega arith in
    rw (e, further) (stands_further row jobs job _ _ e (later (omega (arith, rw e at h))))

first_stands : (jobs : List JobPlan) (job : ℕ) (d : JobPlan) → position_or_len (λ row. row.token == job) jobs < length jobs →
    StandsAt jobs job (position_or_len (λ row. row.token == job) jobs) (get_or jobs (position_or_len (λ row. row.token == job) jobs) d)
first_stands [] job d h = absurd (omega arith)
first_stands (row ∷ jobs) job d h = at_row row jobs job d (row.token == job) refl (λ less. first_stands jobs job d less) h

pub stands_at : (jobs : List JobPlan) (job at : ℕ) (d : JobPlan) → position (λ row. row.token == job) jobs ≡ Some at → StandsAt jobs job at (get_or jobs at d)
stands_at jobs job at d e =
    let h = cond_some (ltb (position_or_len (λ row. row.token == job) jobs) (length jobs)) (position_or_len (λ row. row.token == job) jobs) at e in
    subst (λ (i : ℕ). StandsAt jobs job i (get_or jobs i d)) h.1 (first_stands jobs job d (ltb-true _ _ h.0))

-- where there is no place all jobs stay
pub finished_in-none : (jobs : List JobPlan) (job : ℕ) (outcome : Outcome) → position (λ row. row.token == job) jobs ≡ None → jobs ≡ finished_in job outcome jobs
finished_in-none [] job outcome e = refl
finished_in-none (row ∷ jobs) job outcome e =
    let place : ℕ = position_or_len (λ other. other.token == job) jobs in
    let h = passes_on (row.token == job) place (length jobs) e in
    let further : position (λ other. other.token == job) jobs ≡ None = rw (le-ltb place (length jobs) h.1) refl in
    rw h.0 (ap (λ (others : List JobPlan). row ∷ others) (finished_in-none jobs job outcome further))

-- any job
abbrev pub no_job : JobPlan
no_job = record { token = 0; attach = 0; trigger = record { fs = 0; name = None }; plan = Ended }

pub walked_is : (old new : JobState) (outcome : Outcome) → plan_of new ≡ rest_of outcome (plan_of old) → new ≡ record old { left = new.left } → job_plan new ≡ walked outcome (job_plan old)
walked_is old new outcome plan kept =
    let make : ℕ → ℕ → Trigger → Plan → JobPlan = λ token attach trigger p. record { token = token; attach = attach; trigger = trigger; plan = p } in
    ap (λ (job : JobState). make job.token job.attach job.trigger (plan_of new)) kept ∙ ap (make old.token old.attach old.trigger) plan

-- ---- the other jobs

passed_over : (row : JobPlan) (jobs : List JobPlan) (j : ℕ) → (row.token == j) ≡ false → job_of (row ∷ jobs) j ≡ job_of jobs j
passed_over row jobs j differs = rw differs refl

found_behind : (row : JobPlan) (old new : List JobPlan) (j : ℕ) → job_of new j ≡ job_of old j → job_of (row ∷ new) j ≡ job_of (row ∷ old) j
found_behind row old new j e = ap (λ (found : Option JobPlan). cond (row.token == j) (Some row) found) e

going_leaves_others : (row : JobPlan) (jobs : List JobPlan) (job j : ℕ) (outcome : Outcome) → (row.token == j) ≡ false → (b : Bool) → job_of (cond b jobs (walked outcome row ∷ jobs)) j ≡ job_of jobs j
going_leaves_others row jobs job j outcome differs true = refl
going_leaves_others row jobs job j outcome differs false = rw differs refl

other_stays : (row : JobPlan) (jobs : List JobPlan) (job j : ℕ) (outcome : Outcome) → (j == job) ≡ false → job_of (finished_in job outcome jobs) j ≡ job_of jobs j → (b : Bool) → (row.token == job) ≡ b →
    job_of (finished_in job outcome (row ∷ jobs)) j ≡ job_of (row ∷ jobs) j
other_stays row jobs job j outcome other later true e =
    let differs : (row.token == j) ≡ false = ap (λ (n : ℕ). n == j) (equal_by_test row.token job e) ∙ differ_the_other_way j job other in
    rw e (going_leaves_others row jobs job j outcome differs (is_ended (walked outcome row)) ∙ sym (passed_over row jobs j differs))
other_stays row jobs job j outcome other later false e = rw e (found_behind row jobs (finished_in job outcome jobs) j later)

pub others_stay : (jobs : List JobPlan) (job : ℕ) (outcome : Outcome) → OthersStay job jobs (finished_in job outcome jobs)
others_stay [] job outcome j other = refl
others_stay (row ∷ jobs) job outcome j other = other_stays row jobs job j outcome other (others_stay jobs job outcome j other) (row.token == job) refl
