-- A job that goes on leaves the daemon's book right.
use Rattle.std.proofs.Common.{◌≡◌, ℕ, Bool, true, false, map, Option, Some, None, refl, sym, ap, subst, ◌∙◌}
use Rattle.std.specs.Prelude.{◌==◌, ◌&&◌, if◌then◌else◌}
use Rattle.am_names.specs.{same_trigger}
use Rattle.am_names.specs.declared.trigger.Trigger.{Trigger}
use Rattle.am_state.specs.{HeldRow, Record}
use Rattle.am_job.specs.declared.act.Act.TheVariants as act
use Rattle.am_job.specs.{Outcome, rest_of, next_of, record_of}
use Rattle.am_names.proofs.SameTriggers.{equal_by_same_trigger, same_trigger_itself}
use Rattle.am_names.proofs.Basics.{equal_to_itself, equal_by_test}
use Rattle.am_kernel.specs.{KernelState}
use Rattle.am_daemon.specs.{Writing, DaemonState, JobPlan, holds, attach_held, job_of, next_in, writes, writing_of, book_after, finished_in, finished}
use Rattle.am_daemon.proofs.JobLemmas.{others_stay}
use Rattle.am_machine.specs.{AreDifferent, has_record_left, IsPlanned, IsServed, is_pending_for, is_to_record, BookAgrees}
use Rattle.am_machine.proofs.Planned.Rests.{left_kept, Writes, left_written}
use Rattle.am_machine.proofs.Books.Pending.{recorded_is, settled_for, pending_once}
use Rattle.am_machine.proofs.Books.Jobs.{is_left, never_left, finished_here, holds_one}

-- A job of the daemon, by its number, which no other has.
pub record IsJob (d : DaemonState) (row : JobPlan) : Type 0 where
  pub differ : AreDifferent (map (λ (r : JobPlan). r.token) d.jobs)
  pub found : job_of d.jobs row.token ≡ Some row
  pub planned : IsPlanned row

-- what its next act writes
its_writing : (d : DaemonState) (row : JobPlan) (w : Option Writing) → IsJob d row → writes (next_of row.plan) ≡ w → writing_of row.token d ≡ w
its_writing d row w j e = ap (λ (o : Option JobPlan). writes (next_in o)) j.found ∙ e

-- the book is of the file systems that were served before
pub served_before_act : (k : KernelState) (d : DaemonState) (row : JobPlan) (outcome : Outcome) (fs attach : ℕ) → IsServed k (finished row.token outcome d) fs attach → IsServed k d fs attach
served_before_act k d row outcome fs attach s = record { current = s.current; held = s.held }

-- ---- an act that writes nothing

kept_here : (k : KernelState) (d : DaemonState) (row : JobPlan) (outcome : Outcome) (fs attach : ℕ) (g : Trigger) → IsJob d row → writes (next_of row.plan) ≡ None → BookAgrees k d → IsServed k d fs attach → g.fs ≡ fs →
    is_pending_for row.token (record_of d.book g) ≡ is_to_record attach g (job_of (finished_in row.token outcome d.jobs) row.token)
kept_here k d row outcome fs attach g j none h s same =
    h.pending fs attach s g same row.token
    ∙ ap (is_to_record attach g) j.found
    ∙ sym (finished_here attach g outcome row.token row d.jobs j.differ j.found ∙ ap (is_left attach g row) (left_kept row.trigger row.plan outcome none j.planned.rest))

kept_by_cases : (k : KernelState) (d : DaemonState) (row : JobPlan) (outcome : Outcome) (fs attach : ℕ) (g : Trigger) (token : ℕ) (b : Bool) → (token == row.token) ≡ b → IsJob d row → writes (next_of row.plan) ≡ None → BookAgrees k d → IsServed k d fs attach → g.fs ≡ fs →
    is_pending_for token (record_of d.book g) ≡ is_to_record attach g (job_of (finished_in row.token outcome d.jobs) token)
kept_by_cases k d row outcome fs attach g token true is j none h s same =
    subst (λ (n : ℕ). is_pending_for n (record_of d.book g) ≡ is_to_record attach g (job_of (finished_in row.token outcome d.jobs) n)) (sym (equal_by_test token row.token is)) (kept_here k d row outcome fs attach g j none h s same)
kept_by_cases k d row outcome fs attach g token false other j none h s same =
    h.pending fs attach s g same token ∙ ap (is_to_record attach g) (sym (others_stay d.jobs row.token outcome token other))

-- the book stays, and what the jobs have still to write
pub goes_on_kept : (k : KernelState) (d : DaemonState) (row : JobPlan) (outcome : Outcome) → IsJob d row → writes (next_of row.plan) ≡ None → BookAgrees k d → BookAgrees k (finished row.token outcome d)
goes_on_kept k d row outcome j none h = record {
  pending = λ fs attach s g same token.
      ap (λ (w : Option Writing). is_pending_for token (record_of (book_after w d.book) g)) (its_writing d row None j none)
      ∙ kept_by_cases k d row outcome fs attach g token (token == row.token) refl j none h (served_before_act k d row outcome fs attach s) same;
  held = h.held;
  given = h.given;
}

-- ---- an act that writes the record

-- The job writes the record of its trigger, under the attachment that the daemon holds.
pub record IsWriting (d : DaemonState) (row : JobPlan) (trigger : Trigger) (entry : Option Record) : Type 0 where
  pub next : next_of row.plan ≡ Some (act.Record trigger entry)
  pub holds : holds d row.trigger.fs row.attach ≡ true

-- what the daemon holds of a file system that it serves is its attachment
pub held_is : (d : DaemonState) (fs attach other : ℕ) → AreDifferent (map (λ (r : HeldRow). r.fs) d.held) → holds d fs other ≡ true → attach_held d fs ≡ Some attach → other ≡ attach
held_is d fs attach other differ h held =
    let its : Some other ≡ Some attach = sym (holds_one fs other d.held differ h) ∙ held in
    cc

its_left : (row : JobPlan) → is_left row.attach row.trigger row true ≡ true
its_left row = rw (equal_to_itself row.attach, same_trigger_itself row.trigger) refl

-- until then the record is pending for the job, where its file system is served
was_pending : (k : KernelState) (d : DaemonState) (row : JobPlan) (fs attach : ℕ) → IsJob d row → has_record_left row.plan ≡ true → holds d row.trigger.fs row.attach ≡ true → BookAgrees k d → IsServed k d fs attach → row.trigger.fs ≡ fs →
    is_pending_for row.token (record_of d.book row.trigger) ≡ true
was_pending k d row fs attach j left w h s same =
    let held : attach_held d row.trigger.fs ≡ Some attach = subst (λ (n : ℕ). attach_held d n ≡ Some attach) (sym same) s.held in
    let under : row.attach ≡ attach = held_is d row.trigger.fs attach row.attach h.held w held in
    h.pending fs attach s row.trigger same row.token
    ∙ ap (is_to_record attach row.trigger) j.found
    ∙ ap (is_left attach row.trigger row) left
    ∙ subst (λ (n : ℕ). is_left n row.trigger row true ≡ true) under (its_left row)

-- the job has nothing left to write
written_here : (attach : ℕ) (g : Trigger) (d : DaemonState) (row : JobPlan) (outcome : Outcome) → IsJob d row → has_record_left (rest_of outcome row.plan) ≡ false → is_to_record attach g (job_of (finished_in row.token outcome d.jobs) row.token) ≡ false
written_here attach g d row outcome j written =
    finished_here attach g outcome row.token row d.jobs j.differ j.found ∙ ap (is_left attach g row) written ∙ never_left (row.attach == attach) (same_trigger row.trigger g)

pub not_its : (a b c : Bool) → b ≡ false → (a && b && c) ≡ false
not_its true b c other = rw other refl
not_its false b c other = refl

written_by_cases : (k : KernelState) (d : DaemonState) (row : JobPlan) (outcome : Outcome) (trigger : Trigger) (entry : Option Record) (fs attach : ℕ) (g : Trigger) (token : ℕ) (t b : Bool) → (token == row.token) ≡ t → same_trigger row.trigger g ≡ b →
    IsJob d row → Writes row.trigger row.plan outcome trigger entry → holds d row.trigger.fs row.attach ≡ true → BookAgrees k d → IsServed k d fs attach → g.fs ≡ fs →
    is_pending_for token (if b then entry else record_of d.book g) ≡ is_to_record attach g (job_of (finished_in row.token outcome d.jobs) token)
written_by_cases k d row outcome trigger entry fs attach g token true true is its j p w h s same =
    settled_for token entry p.settled
    ∙ sym (subst (λ (n : ℕ). is_to_record attach g (job_of (finished_in row.token outcome d.jobs) n) ≡ false) (sym (equal_by_test token row.token is)) (written_here attach g d row outcome j p.written))
written_by_cases k d row outcome trigger entry fs attach g token true false is other j p w h s same =
    let job : job_of d.jobs token ≡ Some row = subst (λ (n : ℕ). job_of d.jobs n ≡ Some row) (sym (equal_by_test token row.token is)) j.found in
    h.pending fs attach s g same token
    ∙ ap (is_to_record attach g) job
    ∙ not_its (row.attach == attach) (same_trigger row.trigger g) (has_record_left row.plan) other
    ∙ sym (subst (λ (n : ℕ). is_to_record attach g (job_of (finished_in row.token outcome d.jobs) n) ≡ false) (sym (equal_by_test token row.token is)) (written_here attach g d row outcome j p.written))
written_by_cases k d row outcome trigger entry fs attach g token false true differs its j p w h s same =
    let g_is : row.trigger ≡ g = equal_by_same_trigger row.trigger g its in
    let system : row.trigger.fs ≡ fs = ap (λ (t : Trigger). t.fs) g_is ∙ same in
    let mine : is_pending_for row.token (record_of d.book g) ≡ true =
    subst (λ (t : Trigger). is_pending_for row.token (record_of d.book t) ≡ true) g_is (was_pending k d row fs attach j p.before w h s system) in
    settled_for token entry p.settled
    ∙ sym (pending_once row.token token (record_of d.book g) mine differs)
    ∙ h.pending fs attach s g same token
    ∙ ap (is_to_record attach g) (sym (others_stay d.jobs row.token outcome token differs))
written_by_cases k d row outcome trigger entry fs attach g token false false differs other j p w h s same =
    h.pending fs attach s g same token ∙ ap (is_to_record attach g) (sym (others_stay d.jobs row.token outcome token differs))

-- the record is pending no more, and the job has it no longer to write
pub goes_on_written : (k : KernelState) (d : DaemonState) (row : JobPlan) (outcome : Outcome) (trigger : Trigger) (entry : Option Record) → IsJob d row → IsWriting d row trigger entry → BookAgrees k d → BookAgrees k (finished row.token outcome d)
goes_on_written k d row outcome trigger entry j w h =
    let p = left_written row.trigger row.plan outcome trigger entry w.next j.planned.rest in
    let writing : Writing = record { trigger = trigger; entry = entry } in
    record {
      pending = λ fs attach s g same token.
          ap (λ (o : Option Writing). is_pending_for token (record_of (book_after o d.book) g)) (its_writing d row (Some writing) j (ap writes w.next))
          ∙ ap (is_pending_for token) (recorded_is trigger entry d.book g)
          ∙ ap (λ (t : Trigger). is_pending_for token (if same_trigger t g then entry else record_of d.book g)) p.trigger_is
          ∙ written_by_cases k d row outcome trigger entry fs attach g token (token == row.token) (same_trigger row.trigger g) refl refl j p w.holds h (served_before_act k d row outcome fs attach s) same;
      held = h.held;
      given = h.given;
    }
