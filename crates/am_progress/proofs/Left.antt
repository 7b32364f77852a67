-- What is left of a job once it has acted.
use Rattle.std.proofs.Common.{◌≡◌, ℕ, Bool, true, false, cond, List, [], ◌∷◌, map, Some, None, refl, subst}
use Rattle.std.specs.Prelude.{◌==◌, if◌then◌else◌}
use Rattle.am_names.proofs.Basics.{equal_by_test}
use Rattle.am_job.specs.declared.act.Outcome as outcomes
use Rattle.am_daemon.specs.{JobPlan, walked, is_ended, going, finished_in, job_of}
use Rattle.am_machine.specs.{has, AreDifferent}
use Rattle.am_machine.proofs.Lists.Found.{absent}
use Rattle.am_progress.specs.{goes_on_as}

going_is : (job : ℕ) (outcome : outcomes.Outcome) (row : JobPlan) (jobs : List JobPlan) (ended : Bool) → (row.token == job) ≡ true → job_of jobs job ≡ None → job_of (if ended then jobs else walked outcome row ∷ jobs) job ≡ (if ended then None else Some (walked outcome row))
going_is job outcome row jobs true own none = none
going_is job outcome row jobs false own none = rw own refl

left_by_cases : (job : ℕ) (outcome : outcomes.Outcome) (first row : JobPlan) (jobs : List JobPlan) (b : Bool) → (first.token == job) ≡ b → has first.token (map (λ (r : JobPlan). r.token) jobs) ≡ false →
    (job_of jobs job ≡ Some row → job_of (finished_in job outcome jobs) job ≡ goes_on_as outcome row) → cond b (Some first) (job_of jobs job) ≡ Some row →
    job_of (if b then going (walked outcome first) jobs else first ∷ finished_in job outcome jobs) job ≡ goes_on_as outcome row
left_by_cases job outcome first row jobs true e apart later found =
    let same : first ≡ row = cc in
    let none = subst (λ (n : ℕ). job_of jobs n ≡ None) (equal_by_test first.token job e) (absent (λ (r : JobPlan). r.token) first.token jobs apart) in
    subst (λ (r : JobPlan). job_of (going (walked outcome first) jobs) job ≡ goes_on_as outcome r) same (going_is job outcome first jobs (is_ended (walked outcome first)) e none)
left_by_cases job outcome first row jobs false e apart later found = rw e (later found)

pub left_is : (job : ℕ) (outcome : outcomes.Outcome) (row : JobPlan) (jobs : List JobPlan) → AreDifferent (map (λ (r : JobPlan). r.token) jobs) → job_of jobs job ≡ Some row → job_of (finished_in job outcome jobs) job ≡ goes_on_as outcome row
left_is job outcome row [] differ e = absurd cc
left_is job outcome row (first ∷ jobs) differ e = left_by_cases job outcome first row jobs (first.token == job) refl differ.0 (left_is job outcome row jobs differ.1) e
