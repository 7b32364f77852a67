-- A packet in the pipe of a file system that the daemon serves can be taken from it.
use Rattle.std.proofs.Common.{◌≡◌, ℕ, Bool, true, false, List, [], ◌∷◌, Option, Some, None, refl, sym, ap, subst, ◌∙◌}
use Rattle.std.specs.Prelude.{◌==◌, ◌&&◌, ◌||◌, find, if◌then◌else◌}
use Rattle.std.specs.Option.{option_map}
use Rattle.std.specs.List.{list_any}
use Rattle.std.proofs.lemmas.Slice.Eq.{bytes_eq-Decides}
use Rattle.am_names.specs.declared.errno.Errno.TheVariants.{Stranger}
use Rattle.am_names.proofs.Basics.{and_of_both, equal_to_itself, some_injective}
use Rattle.am_state.specs.{HeldRow, QueuedRow}
use Rattle.am_kernel.specs.{attach_of, queued_of}
use Rattle.am_daemon.specs.{DaemonState, attach_held, holds}
use Rattle.am_machine.specs.State.{State}
use Rattle.am_machine.specs.{IsServed, refused, packet_bytes, has_bytes, takes, delivered_at, deliver_outcome}
use Rattle.am_machine.proofs.Tokens.Catatonic.{dev_of}
use Rattle.am_machine.proofs.Agreement.Tokens.{in_pipe, queued_number}
use Rattle.am_machine.proofs.InStep.States.{in_step, refuses_in_step}
use Rattle.am_progress.specs.{PacketsCanBeTaken, QueuedPacketsCanBeDelivered}
use Rattle.am_progress.proofs.Worlds.{IsWorld, after_runs}

-- ---- what the daemon holds of a file system it holds

held_by_cases : (fs attach : ℕ) (row : HeldRow) (rows : List HeldRow) (b : Bool) → (row.fs == fs) ≡ b →
    (option_map (λ (r : HeldRow). r.attach) (find (λ r. r.fs == fs) rows) ≡ Some attach → list_any (λ (r : HeldRow). r.fs == fs && r.attach == attach) rows ≡ true) →
    option_map (λ (r : HeldRow). r.attach) (if b then Some row else find (λ r. r.fs == fs) rows) ≡ Some attach → ((b && row.attach == attach) || list_any (λ (r : HeldRow). r.fs == fs && r.attach == attach) rows) ≡ true
held_by_cases fs attach row rows true is later e =
    let same : row.attach ≡ attach = cc in
    ap (λ (b : Bool). b || list_any (λ (r : HeldRow). r.fs == fs && r.attach == attach) rows) (subst (λ (n : ℕ). (row.attach == n) ≡ true) same (equal_to_itself row.attach))
held_by_cases fs attach row rows false is later e = later e

held_any : (fs attach : ℕ) (rows : List HeldRow) → option_map (λ (r : HeldRow). r.attach) (find (λ r. r.fs == fs) rows) ≡ Some attach → list_any (λ (r : HeldRow). r.fs == fs && r.attach == attach) rows ≡ true
held_any fs attach [] e = absurd cc
held_any fs attach (row ∷ rows) e = held_by_cases fs attach row rows (row.fs == fs) refl (held_any fs attach rows) e

pub holds_held : (d : DaemonState) (fs attach : ℕ) → attach_held d fs ≡ Some attach → holds d fs attach ≡ true
holds_held d fs attach e = held_any fs attach d.held e

-- ---- it is taken

packet_is_taken : (s : State) (token : ℕ) (row : QueuedRow) (bytes : Option (List ℕ)) → IsWorld s → queued_of s.kernel.queue token ≡ Some row → has_bytes bytes row ≡ true → holds s.daemon row.packet.dev row.attach ≡ true → deliver_outcome s token bytes ≡ takes s row
packet_is_taken s token row bytes w is own held =
    let may = (refuses_in_step s (in_step s w.consistent w.named w.failures)).deliver token row bytes is ∙ and_of_both (has_bytes bytes row) (holds s.daemon row.packet.dev row.attach) own held in
    ap (λ (o : Option QueuedRow). delivered_at o s bytes) is ∙ ap (λ (b : Bool). if b then takes s row else refused s Stranger) may

-- the daemon holds the attachment under which it was queued
pub packet_held : (s : State) → IsWorld s → (fs attach : ℕ) → IsServed s.kernel s.daemon fs attach → (token : ℕ) (row : QueuedRow) → queued_of s.kernel.queue token ≡ Some row → row.packet.dev ≡ fs → holds s.daemon row.packet.dev row.attach ≡ true
packet_held s w fs attach served token row is same =
    let pipe = in_pipe s.kernel s.daemon w.consistent.agreed.tokens token row is in
    let dev : pipe.token.trigger.fs ≡ fs = sym (dev_of row.packet pipe.token pipe.asks) ∙ same in
    let own : row.attach ≡ attach = some_injective (sym pipe.current ∙ ap (attach_of s.kernel) dev ∙ served.current) in
    holds_held s.daemon row.packet.dev row.attach (ap (attach_held s.daemon) same ∙ served.held ∙ ap (λ (n : ℕ). Some n) (sym own))

pub taken : (s : State) → IsWorld s → PacketsCanBeTaken s
taken s w fs attach served token row is same =
    let pipe = in_pipe s.kernel s.daemon w.consistent.agreed.tokens token row is in
    let held = packet_held s w fs attach served token row is same in
    record {
      numbered = pipe.numbered ∙ queued_number s.kernel token row is;
      alone = packet_is_taken s token row None w is refl held;
      by_bytes = packet_is_taken s token row (Some (packet_bytes row)) w is ((bytes_eq-Decides (packet_bytes row) (packet_bytes row)).1 refl) held;
    }

pub packets_taken : QueuedPacketsCanBeDelivered
packets_taken = after_runs PacketsCanBeTaken taken
