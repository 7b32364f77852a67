-- A job that begins leaves the daemon's book right: its record is pending, unless it only acknowledges.
use Rattle.std.proofs.Common.{◌≡◌, ℕ, Bool, true, false, [], ◌∷◌, ◌++◌, Option, Some, None, refl, sym, ap, subst, ◌∙◌}
use Rattle.std.specs.Prelude.{◌==◌, not, is_some, if◌then◌else◌}
use Rattle.am_names.specs.{same_trigger, TokenKind}
use Rattle.am_names.specs.declared.trigger.Trigger.{Trigger}
use Rattle.am_names.specs.declared.row.TokenKind.TheVariants.{Missing, Expire}
use Rattle.am_wire.specs.{token_kind, Packet}
use Rattle.am_map.specs.EntryText.{EntryText}
use Rattle.am_state.specs.{Record}
use Rattle.am_job.specs.{record_of, recorded, is_reply, plan_for}
use Rattle.am_names.proofs.SameTriggers.{equal_by_same_trigger}
use Rattle.am_names.proofs.Basics.{neither_of_or, equal_to_itself, equal_by_test}
use Rattle.am_wait.proofs.CallLemmas.{is_none_of}
use Rattle.am_kernel.specs.{KernelState}
use Rattle.am_daemon.specs.{DaemonState, JobPlan, holds, attach_held, entry_of, trigger_of, plan_of_packet, pending, pending_of, mounted_for, is_pending, job_of, job_for, is_busy, taken_up}
use Rattle.am_machine.specs.{has_record_left, IsServed, is_pending_for, is_to_record, BookAgrees}
use Rattle.am_machine.proofs.Planned.Rests.{plan_left}
use Rattle.am_machine.proofs.Books.Pending.{recorded_is, settled_for}
use Rattle.am_machine.proofs.Lists.Found.{find_others, find_new}
use Rattle.am_machine.proofs.Books.Jobs.{is_left, never_left}
use Rattle.am_machine.proofs.Books.Acts.{held_is, not_its}

-- ---- the record that is written first

-- it is pending for the packet's token
pending_here : (kind : TokenKind) (token : ℕ) (g : Trigger) (mounted : Option ℕ) (entry : Option EntryText) → is_reply (plan_for kind g mounted entry) ≡ false → is_pending_for token (pending kind token mounted) ≡ true
pending_here Missing token g mounted entry more = equal_to_itself token
pending_here Expire token g (Some mount) entry more = equal_to_itself token
pending_here Expire token g None entry more = absurd cc

-- and for no other
pending_other : (kind : TokenKind) (token other : ℕ) (mounted : Option ℕ) → (token == other) ≡ false → is_pending_for other (pending kind token mounted) ≡ false
pending_other Missing token other mounted differs = differs
pending_other Expire token other (Some mount) differs = differs
pending_other Expire token other None differs = refl

-- What the daemon tests before it takes a packet up.
pub record MayTake (d : DaemonState) (attach : ℕ) (packet : Packet) : Type 0 where
  pub holds : holds d packet.dev attach ≡ true
  pub settled : is_pending (record_of d.book (trigger_of packet)) ≡ false
  pub idle : job_of d.jobs packet.token ≡ None

pub may_take : (d : DaemonState) (attach : ℕ) (packet : Packet) → holds d packet.dev attach ≡ true → is_busy d packet ≡ false → MayTake d attach packet
may_take d attach packet held free =
    let both = neither_of_or (is_pending (record_of d.book (trigger_of packet))) (is_some (job_of d.jobs packet.token)) free in
    record { holds = held; settled = both.0; idle = is_none_of (job_of d.jobs packet.token) both.1 }

-- ---- the records of each token

-- the book with the record of the job, or as it was
abbrev told_by : Bool → DaemonState → Packet → Option Record → Trigger → Option Record
told_by reply d packet entry g =
    if reply then record_of d.book g
    else if same_trigger (trigger_of packet) g then entry else record_of d.book g

told_is : (reply : Bool) (d : DaemonState) (packet : Packet) (entry : Option Record) (g : Trigger) → record_of (if reply then d.book else recorded (trigger_of packet) entry d.book) g ≡ told_by reply d packet entry g
told_is true d packet entry g = refl
told_is false d packet entry g = recorded_is (trigger_of packet) entry d.book g

-- of another token
others_by_cases : (d : DaemonState) (packet : Packet) (g : Trigger) (token : ℕ) (reply b : Bool) → same_trigger (trigger_of packet) g ≡ b → (packet.token == token) ≡ false → is_pending (record_of d.book (trigger_of packet)) ≡ false →
    is_pending_for token (told_by reply d packet (pending_of d packet) g) ≡ is_pending_for token (record_of d.book g)
others_by_cases d packet g token true b is differs settled = refl
others_by_cases d packet g token false true is differs settled =
    let g_is : trigger_of packet ≡ g = equal_by_same_trigger (trigger_of packet) g is in
    rw is (pending_other (token_kind packet.kind) packet.token token (mounted_for d packet) differs
    ∙ sym (subst (λ (t : Trigger). is_pending_for token (record_of d.book t) ≡ false) g_is (settled_for token (record_of d.book (trigger_of packet)) settled)))
others_by_cases d packet g token false false is differs settled = rw is refl

-- of the packet's
pending_here_by_cases : (k : KernelState) (d : DaemonState) (attach : ℕ) (packet : Packet) (fs own : ℕ) (g : Trigger) (reply b : Bool) → is_reply (plan_of_packet d packet) ≡ reply → same_trigger (trigger_of packet) g ≡ b → MayTake d own packet → BookAgrees k d → IsServed k d fs attach → g.fs ≡ fs →
    is_pending_for packet.token (told_by reply d packet (pending_of d packet) g) ≡ is_left attach g (job_for own packet d) (not reply)
pending_here_by_cases k d attach packet fs own g true b replies is m h s same =
    h.pending fs attach s g same packet.token ∙ ap (is_to_record attach g) m.idle ∙ sym (never_left (own == attach) (same_trigger (trigger_of packet) g))
pending_here_by_cases k d attach packet fs own g false true more is m h s same =
    let g_is : trigger_of packet ≡ g = equal_by_same_trigger (trigger_of packet) g is in
    let system : packet.dev ≡ fs = ap (λ (t : Trigger). t.fs) g_is ∙ same in
    let held : attach_held d packet.dev ≡ Some attach = subst (λ (n : ℕ). attach_held d n ≡ Some attach) (sym system) s.held in
    let under : own ≡ attach = held_is d packet.dev attach own h.held m.holds held in
    let now : (own == attach) ≡ true = subst (λ (n : ℕ). (own == n) ≡ true) under (equal_to_itself own) in
    rw (is, now) (pending_here (token_kind packet.kind) packet.token (trigger_of packet) (mounted_for d packet) (entry_of d (trigger_of packet)) more)
pending_here_by_cases k d attach packet fs own g false false more is m h s same =
    rw is (h.pending fs attach s g same packet.token ∙ ap (is_to_record attach g) m.idle ∙ sym (not_its (own == attach) false true refl))

-- ---- the job

job_others : (d : DaemonState) (attach : ℕ) (packet : Packet) (token : ℕ) → (packet.token == token) ≡ false → job_of (d.jobs ++ job_for attach packet d ∷ []) token ≡ job_of d.jobs token
job_others d attach packet token differs = find_others (λ (r : JobPlan). r.token == token) d.jobs (job_for attach packet d) differs

job_new : (d : DaemonState) (attach : ℕ) (packet : Packet) → job_of d.jobs packet.token ≡ None → job_of (d.jobs ++ job_for attach packet d ∷ []) packet.token ≡ Some (job_for attach packet d)
job_new d attach packet idle = find_new (λ (r : JobPlan). r.token == packet.token) d.jobs (job_for attach packet d) idle (equal_to_itself packet.token)

left_as : (d : DaemonState) (packet : Packet) → has_record_left (plan_of_packet d packet) ≡ not (is_reply (plan_of_packet d packet))
left_as d packet = plan_left (token_kind packet.kind) (trigger_of packet) (mounted_for d packet) (entry_of d (trigger_of packet))

taken_by_cases : (k : KernelState) (d : DaemonState) (own : ℕ) (packet : Packet) (fs attach : ℕ) (g : Trigger) (token : ℕ) (b : Bool) → (packet.token == token) ≡ b → MayTake d own packet → BookAgrees k d → IsServed k d fs attach → g.fs ≡ fs →
    is_pending_for token (told_by (is_reply (plan_of_packet d packet)) d packet (pending_of d packet) g) ≡ is_to_record attach g (job_of (d.jobs ++ job_for own packet d ∷ []) token)
taken_by_cases k d own packet fs attach g token true is m h s same =
    let reply = is_reply (plan_of_packet d packet) in
    subst (λ (n : ℕ). is_pending_for n (told_by reply d packet (pending_of d packet) g) ≡ is_to_record attach g (job_of (d.jobs ++ job_for own packet d ∷ []) n)) (equal_by_test packet.token token is)
    (pending_here_by_cases k d attach packet fs own g reply (same_trigger (trigger_of packet) g) refl refl m h s same
    ∙ ap (is_left attach g (job_for own packet d)) (sym (left_as d packet))
    ∙ ap (is_to_record attach g) (sym (job_new d own packet m.idle)))
taken_by_cases k d own packet fs attach g token false differs m h s same =
    others_by_cases d packet g token (is_reply (plan_of_packet d packet)) (same_trigger (trigger_of packet) g) refl differs m.settled
    ∙ h.pending fs attach s g same token
    ∙ ap (is_to_record attach g) (sym (job_others d own packet token differs))

pub served_before_taken : (k : KernelState) (d : DaemonState) (own : ℕ) (packet : Packet) (fs attach : ℕ) → IsServed k (taken_up own packet d) fs attach → IsServed k d fs attach
served_before_taken k d own packet fs attach s = record { current = s.current; held = s.held }

-- the job of a packet begins
pub taken_kept : (k : KernelState) (d : DaemonState) (own : ℕ) (packet : Packet) → MayTake d own packet → BookAgrees k d → BookAgrees k (taken_up own packet d)
taken_kept k d own packet m h = record {
  pending = λ fs attach s g same token.
      ap (is_pending_for token) (told_is (is_reply (plan_of_packet d packet)) d packet (pending_of d packet) g)
      ∙ taken_by_cases k d own packet fs attach g token (packet.token == token) refl m h (served_before_taken k d own packet fs attach s) same;
  held = h.held;
  given = h.given;
}
