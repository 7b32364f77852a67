use Rattle.std.proofs.Common.{◌≡◌, ◌<◌, ◌+◌, ◌++◌, ◌∷◌, [], ℕ, List, sym, ap, subst, ◌∙◌, refl}
use Rattle.std.specs.List.{All}
use Rattle.am_names.specs.declared.trigger.Trigger.{Trigger}
use Rattle.am_wire.specs.{Packet}
use Rattle.am_state.specs.{Obs, QueuedRow, with_token}
use Rattle.am_names.specs.declared.row.TokenKind.TheVariants.{Expire}
use Rattle.am_wait.specs.{opened}
use Rattle.am_kernel.specs.declared.progress.Progress.TheVariants.{Waits}
use Rattle.am_kernel.specs.{KernelState, passes, with_expiring}
use Rattle.am_kernel.specs.View.{kernel_of}
use Rattle.am_kernel.proofs.ExpireLemmas.{shown_expiring, expiry_packet}
use Rattle.am_kernel.proofs.RisingLemmas.{below_next}
use Rattle.am_kernel.proofs.kernel.Kernel.queue_expiry.Goals as goal

pub push_reserved-requires-clause-above : goal.push_reserved-requires-clause-above
push_reserved-requires-clause-above c =
    let last : ℕ = c.self.inside.waits.last_token in
    let token : ℕ = c.in_ok-token.token in
    subst (λ (rows : List QueuedRow). All (λ (r : QueuedRow). r.token < token) rows) (sym c.reserve-2.ensures.rows)
    (below_next (λ (r : QueuedRow). r.token) last token c.self.inside.queue.rows c.in_ok-token.ensures.token c.self.invariant.opened)

pub returns : goal.returns
returns c =
    let k = c.args.self.now in
    let old = kernel_of c.self.inside in
    let n = c.args.walker in
    let trigger = c.args.trigger.now in
    let attach = c.args.attach in
    let row : ℕ → Packet → QueuedRow = λ token packet. record { token = token; attach = attach; packet = packet } in
    let kept : c.set_token.new.self ≡ expiry_packet n trigger c.in_ok-token.token =
    c.set_token.ensures ∙ ap (with_token c.in_ok-token.token) (c.in_ok-packet.ensures ∙ c.packet_for-unnumbered.ensures) in
    let packet : c.to_packet.result ≡ expiry_packet n trigger c.in_ok-token.token = c.to_packet.ensures ∙ kept in
    let next : c.in_ok-token.token ≡ old.waits.last_token + 1 = c.in_ok-token.ensures.token in
    let waits : c.open.new.self ≡ opened trigger Expire n old.waits = c.in_ok-token.ensures.ok in
    let queue : c.push_reserved.new.self.rows ≡ old.queue ++ row (old.waits.last_token + 1) (expiry_packet n trigger (old.waits.last_token + 1)) ∷ [] =
    c.push_reserved.ensures ∙ ap (λ (rows : List QueuedRow). rows ++ row c.in_ok-token.token c.to_packet.result ∷ []) c.reserve-2.ensures.rows ∙ ap (λ (packet : Packet). old.queue ++ row c.in_ok-token.token packet ∷ []) packet ∙ ap (λ (token : ℕ). old.queue ++ row token (expiry_packet n trigger token) ∷ []) next in
    let next_now : c.in_ok-token.token ≡ k.waits.last_token + 1 = next ∙ ap (λ (s : KernelState). s.waits.last_token + 1) c.self.view_is in (
      ap (λ (t : ℕ). Waits t) next_now,
      record {
        state = (rw (c.reserve_failure.ensures.rows, waits, queue) refl) ∙ ap (λ (s : KernelState). with_expiring n trigger attach s) c.self.view_is;
        seen = c.tell_queued.ensures
            ∙ ap (λ (ts : List Trigger). c.reserve.new.self.items ++ (passes n ts ++ shown_expiring n attach c.in_ok-token.token c.set_token.new.self)) c.new-2.ensures.items
            ∙ ap (λ (xs : List Obs). xs ++ shown_expiring n attach c.in_ok-token.token c.set_token.new.self) c.reserve.ensures.items ∙ ap (λ (packet : Packet). c.args.seen.now.items ++ shown_expiring n attach c.in_ok-token.token packet) kept ∙ ap (λ (token : ℕ). c.args.seen.now.items ++ shown_expiring n attach token (expiry_packet n trigger token)) next_now;
      },
    )
