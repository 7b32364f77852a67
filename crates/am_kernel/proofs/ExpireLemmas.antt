-- A walker asks for an expiry.
use Rattle.std.proofs.Common.{◌≡◌, ℕ, List, [], ◌∷◌, Option, Some, None, Err, refl, ap}
use Rattle.std.specs.Prelude.{is_some}
use Rattle.am_names.specs.declared.errno.Errno.{Errno}
use Rattle.am_names.specs.declared.trigger.Trigger.{Trigger}
use Rattle.am_names.specs.{PipeState, WaitRow}
use Rattle.am_names.specs.declared.row.TokenKind.TheVariants.{Expire}
use Rattle.am_wire.specs.{Packet}
use Rattle.am_state.specs.{Obs}
use Rattle.am_state.specs.declared.obs.Obs.TheVariants as seen
use Rattle.am_wait.specs.{wait_of, is_exhausted, is_full, open_refusal}
use Rattle.am_kernel.specs.{KernelState, Yields, packet_for, expires_by, expires_next}
use Rattle.am_kernel.proofs.NotifyLemmas.{limits_refuse, limits_after_wait, limits_are_left}

-- ---- what is seen, with this token and packet

abbrev pub shown_expiring : ℕ → ℕ → ℕ → Packet → List Obs
shown_expiring walker attach token packet = seen.Queued token attach packet ∷ seen.Waits walker token ∷ []

abbrev pub expiry_packet : ℕ → Trigger → ℕ → Packet
expiry_packet walker trigger token = packet_for Expire token walker trigger

-- ---- tokens and waits are left, or they aren't

pub expiry_refused : (k : KernelState) (walker : ℕ) (trigger : Trigger) (attach : ℕ) (pipe : PipeState) (e : Errno) (before : List Obs) → wait_of k.waits.waits walker ≡ None → open_refusal walker k.waits ≡ Some e →
    Yields (expires_next (Some trigger) pipe k walker attach) (Err e) k k before before
expiry_refused k walker trigger attach pipe e before idle why_not =
    limits_refuse (is_exhausted k.waits) (is_full k.waits) (expires_by pipe k walker trigger attach) k before e
    (limits_after_wait (is_some (wait_of k.waits.waits walker)) (is_exhausted k.waits) (is_full k.waits) (Some e) (ap (λ (o : Option WaitRow). is_some o) idle) why_not)

pub expiry_by : (k : KernelState) (walker : ℕ) (trigger : Trigger) (attach : ℕ) (pipe : PipeState) → wait_of k.waits.waits walker ≡ None → open_refusal walker k.waits ≡ None →
    expires_next (Some trigger) pipe k walker attach ≡ expires_by pipe k walker trigger attach
expiry_by k walker trigger attach pipe idle room =
    let two = limits_are_left (is_exhausted k.waits) (is_full k.waits) (limits_after_wait (is_some (wait_of k.waits.waits walker)) (is_exhausted k.waits) (is_full k.waits) None (ap (λ (o : Option WaitRow). is_some o) idle) room) in
    rw (two.0, two.1) refl
