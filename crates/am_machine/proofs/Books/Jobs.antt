-- What is left of a job that goes on, and which attachment the daemon holds.
use Rattle.std.proofs.Common.{◌≡◌, ℕ, Bool, true, false, cond, List, [], ◌∷◌, map, Some, None, refl, sym, ap, subst, ◌∙◌}
use Rattle.std.specs.Prelude.{◌==◌, ◌||◌, ◌&&◌, not, is_some, find, if◌then◌else◌}
use Rattle.std.specs.List.{list_any}
use Rattle.std.specs.Option.{option_map}
use Rattle.am_names.specs.{same_trigger}
use Rattle.am_names.specs.declared.trigger.Trigger.{Trigger}
use Rattle.am_names.proofs.Basics.{equal_by_test}
use Rattle.am_state.specs.{HeldRow}
use Rattle.am_job.specs.{Outcome, Plan, Ended, Next, rest_of, next_of}
use Rattle.am_daemon.specs.{JobPlan, job_of, walked, is_ended, going, finished_in}
use Rattle.am_machine.specs.{has, AreDifferent, has_record_left, is_to_record}
use Rattle.am_machine.proofs.Lists.Found.{absent, absent_and}

-- ---- what the job itself has still to write

-- the job is this attachment's, on this trigger, and its record is left or not
abbrev pub is_left : ℕ → Trigger → JobPlan → Bool → Bool
is_left attach g row left = row.attach == attach && same_trigger row.trigger g && left

pub never_left : (a b : Bool) → (a && b && false) ≡ false
never_left true true = refl
never_left true false = refl
never_left false b = refl

ended_left : (plan : Plan) → not (is_some (next_of plan)) ≡ true → has_record_left plan ≡ false
ended_left Ended e = refl
ended_left (Next a rest) e = absurd cc

going_job : (attach : ℕ) (g : Trigger) (outcome : Outcome) (row : JobPlan) (jobs : List JobPlan) (ended : Bool) → is_ended (walked outcome row) ≡ ended → (row.token == row.token) ≡ true → job_of jobs row.token ≡ None →
    is_to_record attach g (job_of (if ended then jobs else walked outcome row ∷ jobs) row.token) ≡ is_left attach g row (has_record_left (rest_of outcome row.plan))
going_job attach g outcome row jobs true e same none =
    ap (is_to_record attach g) none
    ∙ sym (ap (is_left attach g row) (ended_left (rest_of outcome row.plan) e) ∙ never_left (row.attach == attach) (same_trigger row.trigger g))
going_job attach g outcome row jobs false e same none = rw same refl

job_left_by_cases : (attach : ℕ) (g : Trigger) (outcome : Outcome) (job : ℕ) (first row : JobPlan) (jobs : List JobPlan) (b : Bool) → (first.token == job) ≡ b → has first.token (map (λ (r : JobPlan). r.token) jobs) ≡ false →
    (job_of jobs job ≡ Some row → is_to_record attach g (job_of (finished_in job outcome jobs) job) ≡ is_left attach g row (has_record_left (rest_of outcome row.plan))) →
    cond b (Some first) (job_of jobs job) ≡ Some row →
    is_to_record attach g (job_of (if b then going (walked outcome first) jobs else first ∷ finished_in job outcome jobs) job) ≡ is_left attach g row (has_record_left (rest_of outcome row.plan))
job_left_by_cases attach g outcome job first row jobs true e apart later found =
    let same : first ≡ row = cc in
    let number : first.token ≡ job = equal_by_test first.token job e in
    let own : (first.token == first.token) ≡ true = subst (λ (n : ℕ). (first.token == n) ≡ true) (sym number) e in
    let none = absent (λ (r : JobPlan). r.token) first.token jobs apart in
    subst (λ (r : JobPlan). is_to_record attach g (job_of (going (walked outcome first) jobs) job) ≡ is_left attach g r (has_record_left (rest_of outcome r.plan))) same
    (subst (λ (n : ℕ). is_to_record attach g (job_of (going (walked outcome first) jobs) n) ≡ is_left attach g first (has_record_left (rest_of outcome first.plan))) number
    (going_job attach g outcome first jobs (is_ended (walked outcome first)) refl own none))
job_left_by_cases attach g outcome job first row jobs false e apart later found = rw e (later found)

-- it has still to write just where the rest of its plan has
pub finished_here : (attach : ℕ) (g : Trigger) (outcome : Outcome) (job : ℕ) (row : JobPlan) (jobs : List JobPlan) → AreDifferent (map (λ (r : JobPlan). r.token) jobs) → job_of jobs job ≡ Some row →
    is_to_record attach g (job_of (finished_in job outcome jobs) job) ≡ is_left attach g row (has_record_left (rest_of outcome row.plan))
finished_here attach g outcome job row [] differ e = absurd cc
finished_here attach g outcome job row (first ∷ jobs) differ e =
    job_left_by_cases attach g outcome job first row jobs (first.token == job) refl differ.0 (finished_here attach g outcome job row jobs differ.1) e

-- ---- the attachment that the daemon holds

held_by_cases : (fs attach : ℕ) (row : HeldRow) (rows : List HeldRow) (b : Bool) → (row.fs == fs) ≡ b → has row.fs (map (λ (r : HeldRow). r.fs) rows) ≡ false →
    (list_any (λ (r : HeldRow). r.fs == fs && r.attach == attach) rows ≡ true → option_map (λ (r : HeldRow). r.attach) (find (λ r. r.fs == fs) rows) ≡ Some attach) →
    ((b && row.attach == attach) || list_any (λ (r : HeldRow). r.fs == fs && r.attach == attach) rows) ≡ true → option_map (λ (r : HeldRow). r.attach) (cond b (Some row) (find (λ r. r.fs == fs) rows)) ≡ Some attach
held_by_cases fs attach row rows true e apart later h =
    let none : list_any (λ (r : HeldRow). r.fs == fs && r.attach == attach) rows ≡ false =
    subst (λ (n : ℕ). list_any (λ (r : HeldRow). r.fs == n && r.attach == attach) rows ≡ false) (equal_by_test row.fs fs e) (absent_and (λ (r : HeldRow). r.fs) row.fs (λ (r : HeldRow). r.attach == attach) rows apart) in
    ap (λ (n : ℕ). Some n) (equal_by_test row.attach attach (alone (row.attach == attach) _ none h))
  where
    alone : (a b : Bool) → b ≡ false → (a || b) ≡ true → a ≡ true
    alone true b none h = refl
    alone false b none h = absurd cc
held_by_cases fs attach row rows false e apart later h = later h

-- what it holds of a file system is the one that it holds of it
pub holds_one : (fs attach : ℕ) (rows : List HeldRow) → AreDifferent (map (λ (r : HeldRow). r.fs) rows) → list_any (λ (r : HeldRow). r.fs == fs && r.attach == attach) rows ≡ true →
    option_map (λ (r : HeldRow). r.attach) (find (λ r. r.fs == fs) rows) ≡ Some attach
holds_one fs attach [] differ h = absurd cc
holds_one fs attach (row ∷ rows) differ h = held_by_cases fs attach row rows (row.fs == fs) refl differ.0 (holds_one fs attach rows differ.1) h
