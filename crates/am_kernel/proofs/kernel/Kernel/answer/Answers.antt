use Rattle.std.proofs.Common.{◌≡◌, ◌≤◌, ◌+◌, true, length, sym, subst, ◌∙◌, arith}
use Rattle.std.specs.Prelude.{is_some}
use Rattle.am_wait.specs.{WaitRows, token_of}
use Rattle.am_kernel.specs.View.{AreOpened}
use Rattle.am_kernel.proofs.TokenLemmas.{one_fewer, mapped_some}
use Rattle.am_kernel.proofs.kernel.Kernel.answer.Goals as goal

pub invariant_of-self-2 : goal.invariant_of-self-2
invariant_of-self-2 c =
    let old = c.self.inside.waits in
    let open_now : is_some (token_of old.tokens c.args.token) ≡ true = mapped_some _ (token_of old.tokens c.args.token) _ (sym c.purpose_of.ensures ∙ c.in-Some.is) in
    let fewer : length c.answer.new.self.tokens + 1 ≤ length old.tokens =
    subst (λ (w : WaitRows). length w.tokens + 1 ≤ length old.tokens) (sym c.in_ok-answer.ensures.ok) (one_fewer c.args.token old.tokens open_now) in
    record {
      numbered = c.self.invariant.numbered;
      room = omega (arith, c.self.invariant.room, c.settle.ensures.room, fewer);
      given = c.self.invariant.given;
      attached = c.self.invariant.attached;
      opened = subst (λ (w : WaitRows). AreOpened w.last_token c.self.inside.queue.rows) (sym c.in_ok-answer.ensures.ok) c.self.invariant.opened;
    }
