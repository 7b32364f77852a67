-- What the acts that a job has left claim, as it goes on.
use Rattle.std.proofs.Common.{◌≡◌, ℕ, Bool, true, false, cond, List, [], ◌∷◌, map, Option, Some, None, refl, sym, subst, ◌∙◌}
use Rattle.std.specs.Prelude.{◌==◌, ⊤, if◌then◌else◌}
use Rattle.am_names.specs.declared.fail_no.FailNo.{FailNo}
use Rattle.am_names.specs.declared.trigger.Trigger.{Trigger}
use Rattle.am_names.proofs.Basics.{equal_by_test}
use Rattle.am_map.specs.EntryText.{EntryText}
use Rattle.am_state.specs.{Record}
use Rattle.am_job.specs.{Act, Outcome, Plan, Ended, Next, rest_of, next_of, claims, mount_in, IsEnded, ClaimsRight}
use Rattle.am_job.specs.declared.act.Act.TheVariants as act
use Rattle.am_job.specs.declared.act.Outcome.TheVariants.{Done, Made, Failed}
use Rattle.am_daemon.specs.{JobPlan, job_of, walked, is_ended, going, finished_in}
use Rattle.am_machine.specs.{has, AreDifferent, has_record_left, IsRest}
use Rattle.am_machine.proofs.Lists.Found.{absent}

-- ---- the job that goes on has the rest of its plan left

going_found : (outcome : Outcome) (job : ℕ) (first new : JobPlan) (jobs : List JobPlan) (ended : Bool) → (first.token == job) ≡ true → job_of jobs job ≡ None → job_of (if ended then jobs else walked outcome first ∷ jobs) job ≡ Some new → new ≡ walked outcome first
going_found outcome job first new jobs true is none f = absurd (let no : None ≡ Some new = sym none ∙ f in cc)
going_found outcome job first new jobs false is none f =
    let its : Some (walked outcome first) ≡ Some new = subst (λ (b : Bool). cond b (Some (walked outcome first)) (job_of jobs job) ≡ Some new) is f in
    let same : walked outcome first ≡ new = cc in
    sym same

pub finished_found : (outcome : Outcome) (job : ℕ) (row new : JobPlan) (jobs : List JobPlan) → AreDifferent (map (λ (r : JobPlan). r.token) jobs) → job_of jobs job ≡ Some row → job_of (finished_in job outcome jobs) job ≡ Some new → new ≡ walked outcome row
finished_found outcome job row new [] differ e f = absurd cc
finished_found outcome job row new (first ∷ jobs) differ e f = by (first.token == job) refl differ.0 (finished_found outcome job row new jobs differ.1) e f
  where
    by : (b : Bool) → (first.token == job) ≡ b → has first.token (map (λ (r : JobPlan). r.token) jobs) ≡ false → (job_of jobs job ≡ Some row → job_of (finished_in job outcome jobs) job ≡ Some new → new ≡ walked outcome row) →
        cond b (Some first) (job_of jobs job) ≡ Some row → job_of (if b then going (walked outcome first) jobs else first ∷ finished_in job outcome jobs) job ≡ Some new → new ≡ walked outcome row
    by true is apart later e f =
        let same : first ≡ row = cc in
        let none : job_of jobs job ≡ None = subst (λ (n : ℕ). job_of jobs n ≡ None) (equal_by_test first.token job is) (absent (λ (r : JobPlan). r.token) first.token jobs apart) in
        subst (λ (r : JobPlan). new ≡ walked outcome r) same (going_found outcome job first new jobs (is_ended (walked outcome first)) is none f)
    by false is apart later e f = later e (subst (λ (b : Bool). cond b (Some first) (job_of (finished_in job outcome jobs) job) ≡ Some new) is f)

-- ---- the act mounts and unmounts nothing, and writes nothing

abbrev pub MovesNothing : Option Act → Outcome → Type 0
MovesNothing None outcome = ⊥
MovesNothing (Some (act.Mkdir trigger)) outcome = ⊤
MovesNothing (Some (act.Mount trigger entry)) outcome = (error : FailNo) × (outcome ≡ Failed error)
MovesNothing (Some (act.Umount trigger)) outcome = (error : FailNo) × (outcome ≡ Failed error)
MovesNothing (Some (act.Rmdir trigger)) outcome = ⊤
MovesNothing (Some (act.Record trigger entry)) outcome = ⊥
MovesNothing (Some (act.Reply status)) outcome = outcome ≡ Done

ended_none : (rest : Plan) → IsEnded rest → has_record_left rest ≡ true → ⊥
ended_none Ended h left = absurd cc
ended_none (Next a rest) h left = h

kept_by_cases : (g : Trigger) (a : Act) (rest : Outcome → Plan) (outcome : Outcome) → MovesNothing (Some a) outcome → IsRest g (Next a rest) → ClaimsRight (Next a rest) → has_record_left (rest outcome) ≡ true → claims (rest outcome) ≡ claims (Next a rest)
kept_by_cases g (act.Mkdir trigger) rest outcome still own h left = (h outcome).0
kept_by_cases g (act.Mount trigger entry) rest (Failed error) still own h left = (h (Failed error)).0
kept_by_cases g (act.Mount trigger entry) rest Done still own h left = absurd (let no_failure = still.1 in cc)
kept_by_cases g (act.Mount trigger entry) rest (Made mount) still own h left = absurd (let no_failure = still.1 in cc)
kept_by_cases g (act.Umount trigger) rest (Failed error) still own h left = (h (Failed error)).0
kept_by_cases g (act.Umount trigger) rest Done still own h left = absurd (let no_failure = still.1 in cc)
kept_by_cases g (act.Umount trigger) rest (Made mount) still own h left = absurd (let no_failure = still.1 in cc)
kept_by_cases g (act.Rmdir trigger) rest outcome still own h left = (h outcome).0
kept_by_cases g (act.Record trigger entry) rest outcome still own h left = absurd still
kept_by_cases g (act.Reply status) rest outcome still own h left = absurd (ended_none (rest outcome) (own outcome).0 left)

-- what is left claims what was claimed
pub claims_kept : (g : Trigger) (plan : Plan) (outcome : Outcome) → MovesNothing (next_of plan) outcome → IsRest g plan → ClaimsRight plan → has_record_left (rest_of outcome plan) ≡ true → claims (rest_of outcome plan) ≡ claims plan
claims_kept g Ended outcome still own h left = absurd still
claims_kept g (Next a rest) outcome still own h left = kept_by_cases g a rest outcome still own h left

-- ---- the act mounts, or unmounts

-- a mount: its number is claimed, it was on the job's trigger, and the record is left
pub record MountIds (g : Trigger) (plan : Plan) (trigger : Trigger) (mount : ℕ) : Type 0 where
  pub on : trigger ≡ g
  pub left : has_record_left plan ≡ true
  pub claimed : claims (rest_of (Made mount) plan) ≡ Some mount

mounts_by_cases : (g trigger : Trigger) (entry : EntryText) (mount : ℕ) (a : Act) (rest : Outcome → Plan) → a ≡ act.Mount trigger entry → IsRest g (Next a rest) → ClaimsRight (Next a rest) → MountIds g (Next a rest) trigger mount
mounts_by_cases g trigger entry mount (act.Mount to what) rest e own h =
    let same : to ≡ trigger = cc in
    record { on = sym same ∙ (own Done).0.0; left = (own Done).0.1; claimed = (h (Made mount)).0 }
mounts_by_cases g trigger entry mount a rest e own h = absurd cc

pub mounts : (g trigger : Trigger) (entry : EntryText) (mount : ℕ) (plan : Plan) → next_of plan ≡ Some (act.Mount trigger entry) → IsRest g plan → ClaimsRight plan → MountIds g plan trigger mount
mounts g trigger entry mount Ended e own h = absurd cc
mounts g trigger entry mount (Next a rest) e own h = mounts_by_cases g trigger entry mount a rest (let same : a ≡ act.Mount trigger entry = cc in same) own h

-- an unmount: nothing is claimed any more
pub record Unmounts (g : Trigger) (plan : Plan) (trigger : Trigger) : Type 0 where
  pub on : trigger ≡ g
  pub left : has_record_left plan ≡ true
  pub claimed : claims (rest_of Done plan) ≡ None

unmounts_by_cases : (g trigger : Trigger) (a : Act) (rest : Outcome → Plan) → a ≡ act.Umount trigger → IsRest g (Next a rest) → ClaimsRight (Next a rest) → Unmounts g (Next a rest) trigger
unmounts_by_cases g trigger (act.Umount to) rest e own h =
    let same : to ≡ trigger = cc in
    record { on = sym same ∙ (own Done).0.0; left = (own Done).0.1; claimed = (h Done).0 }
unmounts_by_cases g trigger a rest e own h = absurd cc

pub unmounts : (g trigger : Trigger) (plan : Plan) → next_of plan ≡ Some (act.Umount trigger) → IsRest g plan → ClaimsRight plan → Unmounts g plan trigger
unmounts g trigger Ended e own h = absurd cc
unmounts g trigger (Next a rest) e own h = unmounts_by_cases g trigger a rest (let same : a ≡ act.Umount trigger = cc in same) own h

-- ---- the act writes the record

pub claims_record : (plan : Plan) (trigger : Trigger) (entry : Option Record) → next_of plan ≡ Some (act.Record trigger entry) → claims plan ≡ mount_in entry
claims_record Ended trigger entry e = absurd cc
claims_record (Next a rest) trigger entry e =
    let same : a ≡ act.Record trigger entry = cc in
    subst (λ (b : Act). claims (Next b rest) ≡ mount_in entry) (sym same) refl
