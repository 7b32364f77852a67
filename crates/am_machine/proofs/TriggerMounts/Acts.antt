-- A job that goes on leaves right what the daemon knows of the mounts.
use Rattle.std.proofs.Common.{◌≡◌, ℕ, Bool, true, false, List, Option, Some, None, refl, sym, ap, subst, ◌∙◌}
use Rattle.std.specs.Prelude.{◌==◌, ◌&&◌, if◌then◌else◌}
use Rattle.am_names.specs.{same_trigger}
use Rattle.am_names.specs.declared.trigger.Trigger.{Trigger}
use Rattle.am_state.specs.{Record, RecordRow}
use Rattle.am_state.specs.declared.daemon_row.Record.TheVariants.{Mounting, Mounted, Unmounting}
use Rattle.am_job.specs.{Outcome, rest_of, next_of, claims, mount_in, record_of}
use Rattle.am_names.proofs.SameTriggers.{equal_by_same_trigger, same_trigger_itself}
use Rattle.am_names.proofs.Basics.{equal_to_itself, equal_by_test, some_injective, and_of_both}
use Rattle.am_trigger.specs.{Autofs, autofs_of}
use Rattle.am_kernel.specs.{KernelState, attach_of, mounted_on}
use Rattle.am_daemon.specs.{Writing, DaemonState, JobPlan, holds, job_of, is_pending, mounted_in, next_in, writes, writing_of, book_after, walked, finished_in, finished}
use Rattle.am_daemon.proofs.JobLemmas.{others_stay}
use Rattle.am_machine.specs.{has_record_left, IsServed, is_pending_for, is_to_record, BookAgrees}
use Rattle.am_machine.proofs.Planned.Rests.{left_kept, Writes, left_written}
use Rattle.am_machine.proofs.Books.Pending.{recorded_is, settled_for, pending_once}
use Rattle.am_machine.proofs.Books.Unchanged.{Narrows}
use Rattle.am_machine.proofs.Books.Acts.{IsJob, IsWriting, held_is, served_before_act}
use Rattle.am_machine.proofs.TriggerMounts.Unchanged.{Knows, Still, its_autofs, stands_still}
use Rattle.am_machine.proofs.TriggerMounts.Jobs.{finished_found, MovesNothing, claims_kept}

-- ---- the job

-- what its next act writes
book_is : (d : DaemonState) (row : JobPlan) (w : Option Writing) → IsJob d row → writes (next_of row.plan) ≡ w → book_after (writing_of row.token d) d.book ≡ book_after w d.book
book_is d row w j e = ap (λ (o : Option Writing). book_after o d.book) (ap (λ (o : Option JobPlan). writes (next_in o)) j.found ∙ e)

-- a job of the daemon as it goes on: it is the one that acted, or one of the others
abbrev AtWork : KernelState → JobPlan → Type 0
AtWork k row = has_record_left row.plan ≡ true → mounted_on k row.trigger ≡ claims row.plan

at_work_by_cases : (made : KernelState) (d : DaemonState) (row : JobPlan) (outcome : Outcome) (job : ℕ) (new : JobPlan) (b : Bool) → (job == row.token) ≡ b → IsJob d row → job_of (finished_in row.token outcome d.jobs) job ≡ Some new →
    (new ≡ walked outcome row → AtWork made new) → ((job == row.token) ≡ false → job_of d.jobs job ≡ Some new → AtWork made new) → AtWork made new
at_work_by_cases made d row outcome job new true is j found here there =
    here (finished_found outcome row.token row new d.jobs j.differ j.found (subst (λ (n : ℕ). job_of (finished_in row.token outcome d.jobs) n ≡ Some new) (equal_by_test job row.token is) found))
at_work_by_cases made d row outcome job new false is j found here there =
    there is (sym (others_stay d.jobs row.token outcome job is) ∙ found)

-- ---- an act that mounts and unmounts nothing, and writes nothing

goes_kept : (k : KernelState) (d : DaemonState) (row : JobPlan) (outcome : Outcome) → IsJob d row → writes (next_of row.plan) ≡ None → MovesNothing (next_of row.plan) outcome → BookAgrees k d → Knows k d → Knows k (finished row.token outcome d)
goes_kept k d row outcome j none still book h = record {
  at_work = λ fs attach s job new found same under.
      let was = served_before_act k d row outcome fs attach s in
      at_work_by_cases k d row outcome job new (job == row.token) refl j found
      (λ is left.
      let rest : has_record_left (rest_of outcome row.plan) ≡ true = subst (λ (r : JobPlan). has_record_left r.plan ≡ true) is left in
      let rests = j.planned.rest in
      let first : has_record_left row.plan ≡ true = sym (left_kept row.trigger row.plan outcome none rests) ∙ rest in
      let system : row.trigger.fs ≡ fs = ap (λ (r : JobPlan). r.trigger.fs) (sym is) ∙ same in
      let attached : row.attach ≡ attach = ap (λ (r : JobPlan). r.attach) (sym is) ∙ under in
      subst (λ (r : JobPlan). mounted_on k r.trigger ≡ claims r.plan) (sym is)
      (h.at_work fs attach was row.token row j.found system attached first ∙ sym (claims_kept row.trigger row.plan outcome still rests j.planned.claims_right rest)))
      (λ other there left. h.at_work fs attach was job new there same under left);
  settled = λ fs attach s g same.
      subst (λ (rows : List RecordRow). is_pending (record_of rows g) ≡ false → mounted_on k g ≡ mounted_in (record_of rows g)) (sym (book_is d row None j none))
      (h.settled fs attach (served_before_act k d row outcome fs attach s) g same);
}

pub goes_plainly : (k made : KernelState) (d : DaemonState) (row : JobPlan) (outcome : Outcome) → Narrows k made → Still k made → IsJob d row → writes (next_of row.plan) ≡ None → MovesNothing (next_of row.plan) outcome → BookAgrees k d → Knows k d →
    Knows made (finished row.token outcome d)
goes_plainly k made d row outcome n still j none moves book h =
    stands_still k made (finished row.token outcome d) n still (goes_kept k d row outcome j none moves book h)

-- ---- an act that mounts or unmounts

-- what is mounted changes on the trigger of the job alone, to what is claimed then
pub record Moves (k made : KernelState) (row : JobPlan) (outcome : Outcome) : Type 0 where
  pub narrows : Narrows k made
  pub others : (g : Trigger) (a : Autofs) → autofs_of k.triggers g.fs ≡ Some a → same_trigger row.trigger g ≡ false → mounted_on made g ≡ mounted_on k g
  pub here : mounted_on made row.trigger ≡ claims (rest_of outcome row.plan)
  -- the job is of the current attachment, and has its record left
  pub current : attach_of k row.trigger.fs ≡ Some row.attach
  pub left : has_record_left row.plan ≡ true

to_record : (attach : ℕ) (g : Trigger) (row : JobPlan) → row.trigger ≡ g → row.attach ≡ attach → has_record_left row.plan ≡ true → is_to_record attach g (Some row) ≡ true
to_record attach g row on under left =
    let mine = subst (λ (n : ℕ). (row.attach == n) ≡ true) under (equal_to_itself row.attach) in
    let its = subst (λ (t : Trigger). same_trigger row.trigger t ≡ true) on (same_trigger_itself row.trigger) in
    and_of_both (row.attach == attach && same_trigger row.trigger g) (has_record_left row.plan) (and_of_both (row.attach == attach) (same_trigger row.trigger g) mine its) left

-- until then the record is pending for the job
pending_for : (k : KernelState) (d : DaemonState) (job : ℕ) (row : JobPlan) (fs attach : ℕ) (g : Trigger) → job_of d.jobs job ≡ Some row → row.trigger ≡ g → row.attach ≡ attach → has_record_left row.plan ≡ true → BookAgrees k d → IsServed k d fs attach → g.fs ≡ fs → is_pending_for job (record_of d.book g) ≡ true
pending_for k d job row fs attach g found on under left book s same =
    book.pending fs attach s g same job ∙ ap (is_to_record attach g) found ∙ to_record attach g row on under left

pub goes_moved : (k made : KernelState) (d : DaemonState) (row : JobPlan) (outcome : Outcome) → IsJob d row → writes (next_of row.plan) ≡ None → Moves k made row outcome → BookAgrees k d → Knows k d → Knows made (finished row.token outcome d)
goes_moved k made d row outcome j none m book h = record {
  at_work = λ fs attach s job new found same under.
      let was = served fs attach s in
      at_work_by_cases made d row outcome job new (job == row.token) refl j found
      (λ is left. subst (λ (r : JobPlan). mounted_on made r.trigger ≡ claims r.plan) (sym is) m.here)
      (λ other there left. at_work_there fs attach was job new other there same under left (same_trigger row.trigger new.trigger) refl);
  settled = λ fs attach s g same.
      subst (λ (rows : List RecordRow). is_pending (record_of rows g) ≡ false → mounted_on made g ≡ mounted_in (record_of rows g)) (sym (book_is d row None j none))
      (λ written. settled_by_cases fs attach (served fs attach s) g same written (same_trigger row.trigger g) refl);
}
  where
    served : (fs attach : ℕ) → IsServed made (finished row.token outcome d) fs attach → IsServed k d fs attach
    served fs attach s = record { current = m.narrows.current fs attach s.current; held = s.held }

    -- where its trigger is served the job's record is pending
    pending_here : (fs attach : ℕ) → IsServed k d fs attach → (g : Trigger) → g.fs ≡ fs → same_trigger row.trigger g ≡ true → is_pending_for row.token (record_of d.book g) ≡ true
    pending_here fs attach was g same is =
        let on : row.trigger ≡ g = equal_by_same_trigger row.trigger g is in
        let system : row.trigger.fs ≡ fs = ap (λ (t : Trigger). t.fs) on ∙ same in
        let under : row.attach ≡ attach = some_injective (sym m.current ∙ ap (attach_of k) system ∙ was.current) in
        pending_for k d row.token row fs attach g j.found on under m.left book was same

    at_work_there : (fs attach : ℕ) → IsServed k d fs attach → (job : ℕ) (new : JobPlan) → (job == row.token) ≡ false → job_of d.jobs job ≡ Some new → new.trigger.fs ≡ fs → new.attach ≡ attach → has_record_left new.plan ≡ true → (b : Bool) → same_trigger row.trigger new.trigger ≡ b →
        mounted_on made new.trigger ≡ claims new.plan
    at_work_there fs attach was job new other there same under left true is =
        let mine = pending_here fs attach was new.trigger same is in
        let its = pending_for k d job new fs attach new.trigger there refl under left book was same in
        let no : true ≡ false = sym its ∙ pending_once row.token job (record_of d.book new.trigger) mine other in
        absurd cc
    at_work_there fs attach was job new other there same under left false is =
        let its = its_autofs k fs attach new.trigger was.current same in
        m.others new.trigger its.0 its.1 is ∙ h.at_work fs attach was job new there same under left

    settled_by_cases : (fs attach : ℕ) → IsServed k d fs attach → (g : Trigger) → g.fs ≡ fs → is_pending (record_of d.book g) ≡ false → (b : Bool) → same_trigger row.trigger g ≡ b → mounted_on made g ≡ mounted_in (record_of d.book g)
    settled_by_cases fs attach was g same written true is =
        let no : true ≡ false = sym (pending_here fs attach was g same is) ∙ settled_for row.token (record_of d.book g) written in
        absurd cc
    settled_by_cases fs attach was g same written false is =
        let its = its_autofs k fs attach g was.current same in
        m.others g its.0 its.1 is ∙ h.settled fs attach was g same written

-- ---- an act that writes the record

-- what is written down is what was claimed
written_in : (entry : Option Record) → is_pending entry ≡ false → mount_in entry ≡ mounted_in entry
written_in None h = refl
written_in (Some (Mounting token)) h = absurd cc
written_in (Some (Mounted mount)) h = refl
written_in (Some (Unmounting token mount)) h = absurd cc

pub goes_written : (k : KernelState) (d : DaemonState) (row : JobPlan) (outcome : Outcome) (trigger : Trigger) (entry : Option Record) → IsJob d row → IsWriting d row trigger entry → claims row.plan ≡ mount_in entry → BookAgrees k d → Knows k d →
    Knows k (finished row.token outcome d)
goes_written k d row outcome trigger entry j w claimed book h = record {
  at_work = λ fs attach s job new found same under.
      at_work_by_cases k d row outcome job new (job == row.token) refl j found
      (λ is left. absurd (let no : true ≡ false = sym (subst (λ (r : JobPlan). has_record_left r.plan ≡ true) is left) ∙ p.written in cc))
      (λ other there left. h.at_work fs attach (served_before_act k d row outcome fs attach s) job new there same under left);
  settled = λ fs attach s g same.
      subst (λ (o : Option Record). is_pending o ≡ false → mounted_on k g ≡ mounted_in o) (sym (record_is g))
      (settled_by_cases fs attach (served_before_act k d row outcome fs attach s) g same (same_trigger row.trigger g) refl);
}
  where
    p : Writes row.trigger row.plan outcome trigger entry
    p = left_written row.trigger row.plan outcome trigger entry w.next j.planned.rest

    record_is : (g : Trigger) → record_of (finished row.token outcome d).book g ≡ (if same_trigger row.trigger g then entry else record_of d.book g)
    record_is g =
        ap (λ (rows : List RecordRow). record_of rows g) (book_is d row (Some (record { trigger = trigger; entry = entry })) j (ap writes w.next))
        ∙ recorded_is trigger entry d.book g
        ∙ ap (λ (t : Trigger). if same_trigger t g then entry else record_of d.book g) p.trigger_is

    settled_by_cases : (fs attach : ℕ) → IsServed k d fs attach → (g : Trigger) → g.fs ≡ fs → (b : Bool) → same_trigger row.trigger g ≡ b → is_pending (if b then entry else record_of d.book g) ≡ false → mounted_on k g ≡ mounted_in (if b then entry else record_of d.book g)
    settled_by_cases fs attach was g same true is written =
        let on : row.trigger ≡ g = equal_by_same_trigger row.trigger g is in
        let system : row.trigger.fs ≡ fs = ap (λ (t : Trigger). t.fs) on ∙ same in
        let under : row.attach ≡ attach = held_is d fs attach row.attach book.held (subst (λ (n : ℕ). holds d n row.attach ≡ true) system w.holds) was.held in
        ap (mounted_on k) (sym on) ∙ h.at_work fs attach was row.token row j.found system under p.before ∙ claimed ∙ written_in entry written
    settled_by_cases fs attach was g same false is written = h.settled fs attach was g same written
