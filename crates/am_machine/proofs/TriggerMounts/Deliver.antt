-- A job that begins leaves right what the daemon knows of the mounts: it claims what the book said.
use Rattle.std.proofs.Common.{◌≡◌, ℕ, Bool, true, false, [], ◌∷◌, ◌++◌, Option, Some, None, refl, sym, ap, subst, ◌∙◌}
use Rattle.std.specs.Prelude.{◌==◌, if◌then◌else◌}
use Rattle.am_names.specs.{same_trigger, TokenKind}
use Rattle.am_names.specs.declared.trigger.Trigger.{Trigger}
use Rattle.am_names.specs.declared.row.TokenKind.TheVariants.{Missing, Expire}
use Rattle.am_names.proofs.Basics.{equal_to_itself, equal_by_test, false_where_not}
use Rattle.am_wire.specs.{token_kind, Packet}
use Rattle.am_map.specs.EntryText.{EntryText}
use Rattle.am_state.specs.{Record}
use Rattle.am_job.specs.{record_of, recorded, is_reply, plan_for, claims}
use Rattle.am_job.proofs.PlanLemmas.{plan_claims}
use Rattle.am_kernel.specs.{KernelState, mounted_on}
use Rattle.am_daemon.specs.{DaemonState, JobPlan, entry_of, trigger_of, plan_of_packet, pending, pending_of, mounted_for, mounted_in, is_pending, job_of, job_for, taken_up}
use Rattle.am_machine.specs.{has_record_left, IsServed}
use Rattle.am_machine.proofs.Planned.Rests.{plan_left}
use Rattle.am_machine.proofs.Books.Pending.{recorded_is}
use Rattle.am_machine.proofs.Lists.Found.{find_others, find_new}
use Rattle.am_machine.proofs.Books.Deliver.{MayTake, served_before_taken}
use Rattle.am_machine.proofs.TriggerMounts.Unchanged.{Knows}

-- the job claims what the book said, if it writes the book
claims_first : (kind : TokenKind) (g : Trigger) (mounted : Option ℕ) (entry : Option EntryText) → has_record_left (plan_for kind g mounted entry) ≡ true → claims (plan_for kind g mounted entry) ≡ mounted
claims_first kind g mounted entry left =
    let more : is_reply (plan_for kind g mounted entry) ≡ false = false_where_not (is_reply (plan_for kind g mounted entry)) (sym (plan_left kind g mounted entry) ∙ left) in
    plan_claims kind g mounted entry ∙ rw more refl

-- and then the record is pending
pending_there : (kind : TokenKind) (token : ℕ) (g : Trigger) (mounted : Option ℕ) (entry : Option EntryText) → is_reply (plan_for kind g mounted entry) ≡ false → is_pending (pending kind token mounted) ≡ true
pending_there Missing token g mounted entry more = refl
pending_there Expire token g (Some mount) entry more = refl
pending_there Expire token g None entry more = absurd cc

module _ (k : KernelState) (d : DaemonState) (own : ℕ) (packet : Packet) (m : MayTake d own packet) (h : Knows k d) where
  -- ---- the jobs

  new_claims : (fs attach : ℕ) → IsServed k d fs attach → packet.dev ≡ fs → has_record_left (plan_of_packet d packet) ≡ true → mounted_on k (trigger_of packet) ≡ claims (plan_of_packet d packet)
  new_claims fs attach s same left =
      h.settled fs attach s (trigger_of packet) same m.settled
      ∙ sym (claims_first (token_kind packet.kind) (trigger_of packet) (mounted_for d packet) (entry_of d (trigger_of packet)) left)

  at_work_by_cases : (fs attach : ℕ) → IsServed k d fs attach → (job : ℕ) (row : JobPlan) (b : Bool) → (packet.token == job) ≡ b → job_of (d.jobs ++ job_for own packet d ∷ []) job ≡ Some row → row.trigger.fs ≡ fs → row.attach ≡ attach → has_record_left row.plan ≡ true →
      mounted_on k row.trigger ≡ claims row.plan
  at_work_by_cases fs attach s job row true is found same under left =
      let here : job_of (d.jobs ++ job_for own packet d ∷ []) packet.token ≡ Some row = subst (λ (n : ℕ). job_of (d.jobs ++ job_for own packet d ∷ []) n ≡ Some row) (sym (equal_by_test packet.token job is)) found in
      let both : Some (job_for own packet d) ≡ Some row = sym (find_new (λ (r : JobPlan). r.token == packet.token) d.jobs (job_for own packet d) m.idle (equal_to_itself packet.token)) ∙ here in
      let one : job_for own packet d ≡ row = cc in
      subst (λ (r : JobPlan). mounted_on k r.trigger ≡ claims r.plan) one
      (new_claims fs attach s (ap (λ (r : JobPlan). r.trigger.fs) one ∙ same) (subst (λ (r : JobPlan). has_record_left r.plan ≡ true) (sym one) left))
  at_work_by_cases fs attach s job row false differs found same under left =
      h.at_work fs attach s job row (sym (find_others (λ (r : JobPlan). r.token == job) d.jobs (job_for own packet d) differs) ∙ found) same under left

  -- ---- the book

  told_by_cases : (fs attach : ℕ) → IsServed k d fs attach → (g : Trigger) → g.fs ≡ fs → (b : Bool) → is_reply (plan_of_packet d packet) ≡ false → is_pending (if b then pending_of d packet else record_of d.book g) ≡ false →
      mounted_on k g ≡ mounted_in (if b then pending_of d packet else record_of d.book g)
  told_by_cases fs attach s g same true more written =
      let no : true ≡ false = sym (pending_there (token_kind packet.kind) packet.token (trigger_of packet) (mounted_for d packet) (entry_of d (trigger_of packet)) more) ∙ written in
      absurd cc
  told_by_cases fs attach s g same false more written = h.settled fs attach s g same written

  settled_by_cases : (fs attach : ℕ) → IsServed k d fs attach → (g : Trigger) → g.fs ≡ fs → (b : Bool) → is_reply (plan_of_packet d packet) ≡ b → is_pending (record_of (if b then d.book else recorded (trigger_of packet) (pending_of d packet) d.book) g) ≡ false →
      mounted_on k g ≡ mounted_in (record_of (if b then d.book else recorded (trigger_of packet) (pending_of d packet) d.book) g)
  settled_by_cases fs attach s g same true replies = h.settled fs attach s g same
  settled_by_cases fs attach s g same false more =
      subst (λ (o : Option Record). is_pending o ≡ false → mounted_on k g ≡ mounted_in o) (sym (recorded_is (trigger_of packet) (pending_of d packet) d.book g))
      (told_by_cases fs attach s g same (same_trigger (trigger_of packet) g) more)

  pub taken_stands : Knows k (taken_up own packet d)
  taken_stands = record {
    at_work = λ fs attach s job row found same under left. at_work_by_cases fs attach (served_before_taken k d own packet fs attach s) job row (packet.token == job) refl found same under left;
    settled = λ fs attach s g same written. settled_by_cases fs attach (served_before_taken k d own packet fs attach s) g same (is_reply (plan_of_packet d packet)) refl written;
  }
