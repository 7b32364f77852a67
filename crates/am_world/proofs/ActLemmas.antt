-- What comes next of a job is the act that the machine makes.
use Rattle.std.proofs.Common.{◌≡◌, ℕ, Bool, true, false, Option, Some, None, refl, sym, ap, ◌∙◌, subst}
use Rattle.std.specs.Prelude.{not, ◌∷◌, [], Result, if◌then◌else◌}
use Rattle.am_names.specs.declared.fail_no.FailNo.{FailNo}
use Rattle.am_names.specs.declared.errno.Errno.{Errno}
use Rattle.am_names.specs.declared.errno.Errno.TheVariants.{EPERM, EINVAL}
use Rattle.am_names.specs.declared.trigger.Trigger.{Trigger}
use Rattle.am_names.specs.{Status}
use Rattle.am_state.specs.{Record}
use Rattle.am_job.specs.{Act, next_of}
use Rattle.am_job.specs.declared.act.Act.TheVariants as act
use Rattle.am_kernel.specs.{mkdir_refusal, rmdir_refusal, answer_refusal}
use Rattle.am_kernel.proofs.RetryLemmas.{found_number}
use Rattle.am_daemon.specs.{DaemonState, JobPlan, job_of, holds, next_in, writes, writing_refusal, refusal_in, finish_refusal}
use Rattle.am_job.specs.declared.act.Outcome.TheVariants.{Done}
use Rattle.am_state.specs.declared.obs.Obs.TheVariants as seen
use Rattle.am_machine.specs.{Answer, refused, goes_on, mkdir_by, mount_act, umount_act, rmdir_by, record_act, reply_by, acted, acted_at, act_outcome}
use Rattle.am_machine.specs.declared.answer.Answer.TheVariants as answers
use Rattle.am_machine.specs.State.{State}
use Rattle.am_machine.specs.EventOutcome.{EventOutcome}
use Rattle.am_world.specs.{ActKind, NextAct, Yields, act_kind_of, next_act_by, next_act_in, next_act_of, row_in, row_for, IsNext, IsLean}
use Rattle.am_world.specs.declared.acts.ActKind.TheVariants as act_kind

-- the job and its next act
pub record Found (coming : NextAct) (d : DaemonState) : Type 0 where
  pub row : JobPlan
  pub act : Act
  pub found : job_of d.jobs coming.job ≡ Some row
  pub next : next_of row.plan ≡ Some act
  pub attach : coming.attach ≡ row.attach
  pub act_kind : coming.act_kind ≡ act_kind_of act

found_by_act : (coming : NextAct) (d : DaemonState) (row : JobPlan) (o : Option Act) → job_of d.jobs coming.job ≡ Some row → next_of row.plan ≡ o → next_act_by coming.job row o ≡ Some coming → Found coming d
found_by_act coming d row None e n h = absurd cc
found_by_act coming d row (Some a) e n h =
    let same : record { job = coming.job; attach = row.attach; act_kind = act_kind_of a } ≡ coming = cc in
    record { row = row; act = a; found = e; next = n; attach = sym (ap (λ (t : NextAct). t.attach) same); act_kind = sym (ap (λ (t : NextAct). t.act_kind) same) }

found_by_job : (coming : NextAct) (d : DaemonState) (o : Option JobPlan) → job_of d.jobs coming.job ≡ o → next_act_in coming.job o ≡ Some coming → Found coming d
found_by_job coming d None e h = absurd cc
found_by_job coming d (Some row) e h = found_by_act coming d row (next_of row.plan) e refl h

pub turn_found : (coming : NextAct) (d : DaemonState) → next_act_of coming.job d ≡ Some coming → Found coming d
turn_found coming d h = found_by_job coming d (job_of d.jobs coming.job) refl h

pub row_of_turn : (coming : NextAct) (d : DaemonState) (f : Found coming d) → row_for d coming.job ≡ f.row
row_of_turn coming d f = ap row_in f.found

-- the job's number is the one that was looked for
pub row_token_is_job : (coming : NextAct) (d : DaemonState) → next_act_of coming.job d ≡ Some coming → (row_for d coming.job).token ≡ coming.job
row_token_is_job coming d h =
    let f = turn_found coming d h in
    ap (λ (r : JobPlan). r.token) (row_of_turn coming d f) ∙ found_number (λ (r : JobPlan). r.token) coming.job d.jobs f.row f.found

pub row_attach_is_turns : (coming : NextAct) (d : DaemonState) → next_act_of coming.job d ≡ Some coming → (row_for d coming.job).attach ≡ coming.attach
row_attach_is_turns coming d h =
    let f = turn_found coming d h in
    ap (λ (r : JobPlan). r.attach) (row_of_turn coming d f) ∙ sym f.attach

-- ---- acts that write nothing

abbrev pub is_writing : ActKind → Bool
is_writing (act_kind.Record trigger entry) = true
is_writing _ = false

act_is_lean : (a : Act) (d : ActKind) → d ≡ act_kind_of a → is_writing d ≡ false → writes (Some a) ≡ None
act_is_lean (act.Record trigger entry) d e h = absurd cc
act_is_lean _ d e h = refl

pub next_is_lean : (coming : NextAct) (act_kind : ActKind) (d : DaemonState) → IsNext coming act_kind d → is_writing act_kind ≡ false → IsLean coming.job d
next_is_lean coming act_kind d n h =
    let f = turn_found coming d n.comes in
    let lean : writes (next_of f.row.plan) ≡ None = ap writes f.next ∙ act_is_lean f.act coming.act_kind f.act_kind (ap is_writing n.does ∙ h) in
    record {
      writes = ap (λ (o : Option JobPlan). writes (next_in o)) f.found ∙ lean;
      stands = ap (λ (o : Option JobPlan). refusal_in o d) f.found ∙ ap (λ w. writing_refusal w f.row d) lean;
    }

-- ---- the machine's act

outcome_by_turn : (s : State) (coming : NextAct) (failure : Option FailNo) (f : Found coming s.daemon) → act_outcome s coming.job failure ≡ acted (Some f.act) s f.row failure
outcome_by_turn s coming failure f = ap (λ (o : Option JobPlan). acted_at o s failure) f.found ∙ ap (λ (a : Option Act). acted a s f.row failure) f.next

acted_is_mkdir : (a : Act) (s : State) (row : JobPlan) (failure : Option FailNo) (g : Trigger) → act_kind_of a ≡ act_kind.Mkdir g → acted (Some a) s row failure ≡ mkdir_by (mkdir_refusal s.kernel row.attach g) s row g
acted_is_mkdir (act.Mkdir t) s row failure g e = let same : t ≡ g = cc in ap (λ (x : Trigger). mkdir_by (mkdir_refusal s.kernel row.attach x) s row x) same
acted_is_mkdir _ s row failure g e = absurd cc

acted_is_mount : (a : Act) (s : State) (row : JobPlan) (failure : Option FailNo) (g : Trigger) → act_kind_of a ≡ act_kind.Mount g → acted (Some a) s row failure ≡ mount_act s row g failure
acted_is_mount (act.Mount t entry) s row failure g e = let same : t ≡ g = cc in ap (λ (x : Trigger). mount_act s row x failure) same
acted_is_mount _ s row failure g e = absurd cc

acted_is_umount : (a : Act) (s : State) (row : JobPlan) (failure : Option FailNo) (g : Trigger) → act_kind_of a ≡ act_kind.Umount g → acted (Some a) s row failure ≡ umount_act s row g failure
acted_is_umount (act.Umount t) s row failure g e = let same : t ≡ g = cc in ap (λ (x : Trigger). umount_act s row x failure) same
acted_is_umount _ s row failure g e = absurd cc

acted_is_rmdir : (a : Act) (s : State) (row : JobPlan) (failure : Option FailNo) (g : Trigger) → act_kind_of a ≡ act_kind.Rmdir g → acted (Some a) s row failure ≡ rmdir_by (rmdir_refusal s.kernel row.attach g) s row g
acted_is_rmdir (act.Rmdir t) s row failure g e = let same : t ≡ g = cc in ap (λ (x : Trigger). rmdir_by (rmdir_refusal s.kernel row.attach x) s row x) same
acted_is_rmdir _ s row failure g e = absurd cc

acted_is_record : (a : Act) (s : State) (row : JobPlan) (failure : Option FailNo) (g : Trigger) (entry : Option Record) → act_kind_of a ≡ act_kind.Record g entry → acted (Some a) s row failure ≡ record_act s row g entry
acted_is_record (act.Record t written) s row failure g entry e =
    let same : t ≡ g = cc in
    let wrote : written ≡ entry = cc in
    ap (λ (x : Trigger). record_act s row x written) same ∙ ap (λ (x : Option Record). record_act s row g x) wrote
acted_is_record _ s row failure g entry e = absurd cc

acted_is_reply : (a : Act) (s : State) (row : JobPlan) (failure : Option FailNo) (status : Status) → act_kind_of a ≡ act_kind.Reply status → acted (Some a) s row failure ≡ reply_by (answer_refusal s.kernel row.attach row.token) s row status
acted_is_reply (act.Reply given) s row failure status e = let same : given ≡ status = cc in ap (λ (x : Status). reply_by (answer_refusal s.kernel row.attach row.token) s row x) same
acted_is_reply _ s row failure status e = absurd cc

pub acts_mkdir : (s : State) (coming : NextAct) (failure : Option FailNo) (g : Trigger) → IsNext coming (act_kind.Mkdir g) s.daemon → act_outcome s coming.job failure ≡ mkdir_by (mkdir_refusal s.kernel (row_for s.daemon coming.job).attach g) s (row_for s.daemon coming.job) g
acts_mkdir s coming failure g n =
    let f = turn_found coming s.daemon n.comes in
    outcome_by_turn s coming failure f ∙ acted_is_mkdir f.act s f.row failure g (sym f.act_kind ∙ n.does) ∙ ap (λ (r : JobPlan). mkdir_by (mkdir_refusal s.kernel r.attach g) s r g) (sym (row_of_turn coming s.daemon f))

pub acts_mount : (s : State) (coming : NextAct) (failure : Option FailNo) (g : Trigger) → IsNext coming (act_kind.Mount g) s.daemon → act_outcome s coming.job failure ≡ mount_act s (row_for s.daemon coming.job) g failure
acts_mount s coming failure g n =
    let f = turn_found coming s.daemon n.comes in
    outcome_by_turn s coming failure f ∙ acted_is_mount f.act s f.row failure g (sym f.act_kind ∙ n.does) ∙ ap (λ (r : JobPlan). mount_act s r g failure) (sym (row_of_turn coming s.daemon f))

pub acts_umount : (s : State) (coming : NextAct) (failure : Option FailNo) (g : Trigger) → IsNext coming (act_kind.Umount g) s.daemon → act_outcome s coming.job failure ≡ umount_act s (row_for s.daemon coming.job) g failure
acts_umount s coming failure g n =
    let f = turn_found coming s.daemon n.comes in
    outcome_by_turn s coming failure f ∙ acted_is_umount f.act s f.row failure g (sym f.act_kind ∙ n.does) ∙ ap (λ (r : JobPlan). umount_act s r g failure) (sym (row_of_turn coming s.daemon f))

pub acts_rmdir : (s : State) (coming : NextAct) (failure : Option FailNo) (g : Trigger) → IsNext coming (act_kind.Rmdir g) s.daemon → act_outcome s coming.job failure ≡ rmdir_by (rmdir_refusal s.kernel (row_for s.daemon coming.job).attach g) s (row_for s.daemon coming.job) g
acts_rmdir s coming failure g n =
    let f = turn_found coming s.daemon n.comes in
    outcome_by_turn s coming failure f ∙ acted_is_rmdir f.act s f.row failure g (sym f.act_kind ∙ n.does) ∙ ap (λ (r : JobPlan). rmdir_by (rmdir_refusal s.kernel r.attach g) s r g) (sym (row_of_turn coming s.daemon f))

pub acts_record : (s : State) (coming : NextAct) (failure : Option FailNo) (g : Trigger) (entry : Option Record) → IsNext coming (act_kind.Record g entry) s.daemon → act_outcome s coming.job failure ≡ record_act s (row_for s.daemon coming.job) g entry
acts_record s coming failure g entry n =
    let f = turn_found coming s.daemon n.comes in
    outcome_by_turn s coming failure f ∙ acted_is_record f.act s f.row failure g entry (sym f.act_kind ∙ n.does) ∙ ap (λ (r : JobPlan). record_act s r g entry) (sym (row_of_turn coming s.daemon f))

pub acts_reply : (s : State) (coming : NextAct) (failure : Option FailNo) (status : Status) → IsNext coming (act_kind.Reply status) s.daemon → act_outcome s coming.job failure ≡ reply_by (answer_refusal s.kernel (row_for s.daemon coming.job).attach (row_for s.daemon coming.job).token) s (row_for s.daemon coming.job) status
acts_reply s coming failure status n =
    let f = turn_found coming s.daemon n.comes in
    outcome_by_turn s coming failure f ∙ acted_is_reply f.act s f.row failure status (sym f.act_kind ∙ n.does) ∙ ap (λ (r : JobPlan). reply_by (answer_refusal s.kernel r.attach r.token) s r status) (sym (row_of_turn coming s.daemon f))

-- no job, or one without an act, is refused
refused_without_act : (job : ℕ) (row : JobPlan) (o : Option Act) (s : State) (failure : Option FailNo) → next_act_by job row o ≡ None → acted o s row failure ≡ refused s EINVAL
refused_without_act job row None s failure h = refl
refused_without_act job row (Some a) s failure h = absurd cc

refused_without_job : (job : ℕ) (o : Option JobPlan) (s : State) (failure : Option FailNo) → next_act_in job o ≡ None → acted_at o s failure ≡ refused s EINVAL
refused_without_job job None s failure h = refl
refused_without_job job (Some row) s failure h = refused_without_act job row (next_of row.plan) s failure h

pub refused_without_turn : (s : State) (job : ℕ) (failure : Option FailNo) → next_act_of job s.daemon ≡ None → act_outcome s job failure ≡ refused s EINVAL
refused_without_turn s job failure h = refused_without_job job (job_of s.daemon.jobs job) s failure h

-- ---- from a look-up

pub turn_is_of_job : (coming : NextAct) (job : ℕ) (d : DaemonState) → next_act_of job d ≡ Some coming → coming.job ≡ job
turn_is_of_job coming job d h = by_row (job_of d.jobs job) h
  where
    by_act : (row : JobPlan) (o : Option Act) → next_act_by job row o ≡ Some coming → coming.job ≡ job
    by_act row None h = absurd cc
    by_act row (Some a) h =
        let same : record { job = job; attach = row.attach; act_kind = act_kind_of a } ≡ coming = cc in
        sym (ap (λ (t : NextAct). t.job) same)

    by_row : (o : Option JobPlan) → next_act_in job o ≡ Some coming → coming.job ≡ job
    by_row None h = absurd cc
    by_row (Some row) h = by_act row (next_of row.plan) h

pub next_by_look_up : (coming : NextAct) (job : ℕ) (act_kind : ActKind) (d : DaemonState) → next_act_of job d ≡ Some coming → coming.act_kind ≡ act_kind → IsNext coming act_kind d
next_by_look_up coming job act_kind d h is = record { comes = subst (λ (j : ℕ). next_act_of j d ≡ Some coming) (sym (turn_is_of_job coming job d h)) h; does = is }

-- the act of the job that was looked up
pub goes_as_looked_up : (s : State) (job : ℕ) (coming : NextAct) (failure : Option FailNo) (o : EventOutcome) (came : Result Answer Errno) (new : State) → next_act_of job s.daemon ≡ Some coming → act_outcome s coming.job failure ≡ o → Yields o s came new → Yields (act_outcome s job failure) s came new
goes_as_looked_up s job coming failure o came new found same h =
    subst (λ (x : EventOutcome). Yields x s came new) (sym same ∙ ap (λ (j : ℕ). act_outcome s j failure) (turn_is_of_job coming job s.daemon found)) h

-- ---- what the daemon may write down

written_act : (a : Act) (g : Trigger) (entry : Option Record) → act_kind.Record g entry ≡ act_kind_of a → writes (Some a) ≡ Some (record { trigger = g; entry = entry })
written_act (act.Record t e) g entry h =
    let one : t ≡ g = cc in
    let other : e ≡ entry = cc in
    ap (λ (x : Trigger). Some (record { trigger = x; entry = e })) one ∙ ap (λ (x : Option Record). Some (record { trigger = g; entry = x })) other
written_act _ g entry h = absurd cc

held_unless_refused : (b : Bool) → (if b then None else Some EPERM) ≡ None → b ≡ true
held_unless_refused true h = refl
held_unless_refused false h = absurd cc

pub record_held : (coming : NextAct) (g : Trigger) (entry : Option Record) (d : DaemonState) → IsNext coming (act_kind.Record g entry) d → finish_refusal coming.job d ≡ None → holds d (row_for d coming.job).trigger.fs (row_for d coming.job).attach ≡ true
record_held coming g entry d n h =
    let f = turn_found coming d n.comes in
    let what : writes (next_of f.row.plan) ≡ Some (record { trigger = g; entry = entry }) = ap writes f.next ∙ written_act f.act g entry (sym n.does ∙ f.act_kind) in
    let may : writing_refusal (Some (record { trigger = g; entry = entry })) f.row d ≡ None = sym (ap (λ w. writing_refusal w f.row d) what) ∙ sym (ap (λ (o : Option JobPlan). refusal_in o d) f.found) ∙ h in
    ap (λ (r : JobPlan). holds d r.trigger.fs r.attach) (row_of_turn coming d f) ∙ held_unless_refused (holds d f.row.trigger.fs f.row.attach) may

pub record_goes : (s : State) (row : JobPlan) (g : Trigger) (entry : Option Record) → holds s.daemon row.trigger.fs row.attach ≡ true → record_act s row g entry ≡ goes_on s row Done answers.DidRecord (seen.Recorded g entry ∷ []) s.kernel
record_goes s row g entry h = ap (λ (b : Bool). if not b then refused s EPERM else goes_on s row Done answers.DidRecord (seen.Recorded g entry ∷ []) s.kernel) h
