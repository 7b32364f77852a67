use Rattle.std.proofs.Common.{◌≡◌, ◌<◌, ◌+◌, ◌++◌, ◌∷◌, [], ℕ, List, sym, ap, subst, ◌∙◌, refl, length, arith, rules}
use Rattle.std.specs.List.{All}
use Rattle.am_names.specs.declared.trigger.Trigger.{Trigger}
use Rattle.am_wire.specs.{Packet}
use Rattle.am_state.specs.{Obs, QueuedRow, with_token}
use Rattle.am_names.specs.declared.row.TokenKind.TheVariants.{Missing}
use Rattle.am_trigger.specs.{used, all_used}
use Rattle.am_wait.specs.{WaitRows, reopened}
use Rattle.am_kernel.specs.{WalkRow, KernelState, without_walk, with_walk, with_notified, expired_uses, walks_ended}
use Rattle.am_kernel.specs.View.{kernel_of, AreOpened}
use Rattle.am_kernel.proofs.FreeLemmas.{put_again, without_wait}
use Rattle.am_kernel.proofs.NotifyLemmas.{notified_as, shown_with, packet_of}
use Rattle.am_kernel.proofs.RisingLemmas.{below_next, given_next}
use Rattle.am_kernel.proofs.TokenLemmas.{one_more_reopened}
use Rattle.am_kernel.proofs.kernel.Kernel.queue.Goals as goal

pub push_reserved-requires-clause-above : goal.push_reserved-requires-clause-above
push_reserved-requires-clause-above c =
    let last : ℕ = c.self.inside.waits.last_token in
    let token : ℕ = c.in_ok-token.token in
    subst (λ (rows : List QueuedRow). All (λ (r : QueuedRow). r.token < token) rows) (sym c.reserve-3.ensures.rows)
    (below_next (λ (r : QueuedRow). r.token) last token c.self.inside.queue.rows c.in_ok-token.ensures.token c.self.invariant.opened)

pub invariant_of-self-2 : goal.invariant_of-self-2
invariant_of-self-2 c =
    let old = kernel_of c.self.inside in
    let trigger = c.args.trigger.now in
    let row : QueuedRow = record { token = c.in_ok-token.token; attach = c.args.attach; packet = c.to_packet.result } in
    let waits : c.reopen.new.self ≡ reopened trigger Missing c.args.attempt.now.walker old.waits = c.in_ok-token.ensures.ok in
    let queue : c.push_reserved.new.self.rows ≡ old.queue ++ row ∷ [] = c.push_reserved.ensures ∙ ap (λ (rows : List QueuedRow). rows ++ row ∷ []) c.reserve-3.ensures.rows in
    record {
      numbered = search rules;
      room = omega (arith, c.in_ok-reserve_failure.ensures.ok, ap (λ (w : WaitRows). length w.tokens) waits, one_more_reopened trigger Missing c.args.attempt.now.walker old.waits);
      given = c.self.invariant.given;
      attached = c.self.invariant.attached;
      opened =
          subst (λ (w : WaitRows). AreOpened w.last_token c.push_reserved.new.self.rows) (sym waits)
          (subst (λ (rows : List QueuedRow). AreOpened (old.waits.last_token + 1) rows) (sym queue)
          (given_next (λ (r : QueuedRow). r.token) old.waits.last_token old.queue row c.in_ok-token.ensures.token c.self.invariant.opened));
    }

pub returns : goal.returns
returns c =
    let k = c.args.self.now in
    let old = kernel_of c.self.inside in
    let b = c.args.attempt.now in
    let w = c.args.waited.now in
    let trigger = c.args.trigger.now in
    let attach = c.args.attach in
    let passed = c.args.passed.now in
    let row : ℕ → Packet → QueuedRow = λ token packet. record { token = token; attach = attach; packet = packet } in
    let kept : c.set_token.new.self ≡ packet_of b trigger c.in_ok-token.token =
    c.set_token.ensures ∙ ap (with_token c.in_ok-token.token) (c.in_ok-packet.ensures ∙ c.packet_for-unnumbered.ensures) in
    let packet : c.to_packet.result ≡ packet_of b trigger c.in_ok-token.token = c.to_packet.ensures ∙ kept in
    let next : c.in_ok-token.token ≡ old.waits.last_token + 1 = c.in_ok-token.ensures.token in
    let triggers : c.touch_reserved.new.self.rows ≡ used trigger b.moment (all_used passed b.moment (expired_uses w b.moment old.triggers)) =
    c.touch_reserved.ensures.rows ∙ ap (used trigger b.moment) (c.touch_all_reserved.ensures.rows ∙ ap (all_used passed b.moment) (c.touch_expired.ensures.rows ∙ ap (expired_uses w b.moment) c.reserve_uses.ensures.rows)) in
    let waits : c.reopen.new.self ≡ reopened trigger Missing b.walker old.waits = c.in_ok-token.ensures.ok in
    let walks : c.put.new.self.rows ≡ with_walk b (walks_ended w b.walker old.walks) =
    c.put.ensures ∙ ap (λ (r : WalkRow). without_walk r.walker c.reserve-2.new.self.rows ++ r ∷ []) c.in_ok-row.ensures ∙ ap (with_walk b) c.reserve-2.ensures.rows ∙ sym (put_again w b old.walks) in
    let queue : c.push_reserved.new.self.rows ≡ old.queue ++ row (old.waits.last_token + 1) (packet_of b trigger (old.waits.last_token + 1)) ∷ [] =
    c.push_reserved.ensures ∙ ap (λ (rows : List QueuedRow). rows ++ row c.in_ok-token.token c.to_packet.result ∷ []) c.reserve-3.ensures.rows ∙ ap (λ (packet : Packet). old.queue ++ row c.in_ok-token.token packet ∷ []) packet ∙ ap (λ (token : ℕ). old.queue ++ row token (packet_of b trigger token) ∷ []) next in
    let next_now : c.in_ok-token.token ≡ k.waits.last_token + 1 = next ∙ ap (λ (s : KernelState). s.waits.last_token + 1) c.self.view_is in
    notified_as w k _ b trigger attach passed c.in_ok-token.token c.args.seen.now.items _ c.requires.free next_now
    ((rw (triggers, c.reserve_failure.ensures.rows, waits, walks, queue) refl) ∙ ap (λ (s : KernelState). with_notified b trigger attach passed (without_wait w b.walker b.moment s)) c.self.view_is)
    (c.tell_queued.ensures
    ∙ ap (λ (ts : List Trigger). c.reserve.new.self.items ++ shown_with b attach ts c.in_ok-token.token c.set_token.new.self) c.in_ok-kept.ensures
    ∙ ap (λ (xs : List Obs). xs ++ shown_with b attach passed c.in_ok-token.token c.set_token.new.self) c.reserve.ensures.items
    ∙ ap (λ (packet : Packet). c.args.seen.now.items ++ shown_with b attach passed c.in_ok-token.token packet) kept
    ∙ ap (λ (token : ℕ). c.args.seen.now.items ++ shown_with b attach passed token (packet_of b trigger token)) next_now)
