use Rattle.std.proofs.Common.{◌≡◌, ◌≤◌, ◌++◌, ◌∷◌, [], ℕ, false, List, length, sym, ap, subst, ◌∙◌, refl, arith}
use Rattle.std.specs.List.{All}
use Rattle.std.specs.Prelude.{⊤}
use Rattle.std.proofs.lemmas.Result.{err_from_is_err_and}
use Rattle.am_names.specs.declared.trigger.Trigger.{Trigger}
use Rattle.am_state.specs.{Obs}
use Rattle.am_state.specs.declared.obs.Obs.TheVariants as seen
use Rattle.am_trigger.specs.{Autofs, TriggerRows, all_used}
use Rattle.am_wait.specs.{WaitRows, is_full, collected, rejoined}
use Rattle.am_kernel.specs.{WalkRow, KernelState, without_walk, with_walk, with_joined, passes, expired_uses, walks_ended}
use Rattle.am_kernel.specs.View.{kernel_of, AreOpened}
use Rattle.am_kernel.proofs.TokenLemmas.{expired_autofs, as_many_rejoined, last_rejoined}
use Rattle.am_kernel.proofs.FreeLemmas.{joins_full, joins_as, joins_wants, put_again, without_wait}
use Rattle.am_kernel.proofs.kernel.Kernel.join.Goals as goal

pub returns-then-is_full_for : goal.returns-then-is_full_for
returns-then-is_full_for c =
    joins_full c.args.waited.now c.args.self.now c.args.attempt.now c.args.token c.args.passed.now _ c.requires.free
    (ap (λ (k : KernelState). is_full (collected c.args.attempt.now.walker k.waits)) (sym c.self.view_is) ∙ sym c.is_full_for.ensures ∙ c.if-is_full_for.true)

pub returns-in_err-rejoin : goal.returns-in_err-rejoin
returns-in_err-rejoin c =
    let k = c.args.self.now in
    let b = c.args.attempt.now in
    let room : is_full (collected b.walker k.waits) ≡ false = ap (λ (s : KernelState). is_full (collected b.walker s.waits)) (sym c.self.view_is) ∙ sym c.is_full_for.ensures ∙ c.if-is_full_for.false in
    let p = err_from_is_err_and c.from_residual-in_err-rejoin.result c.from_residual-in_err-rejoin.ensures.1 in
    rw (p.1, p.2)
    (joins_wants ⊤ c.args.waited.now (kernel_of c.self.inside) k _ b c.args.token c.args.passed.now c.in_err-rejoin.field-0.0 c.args.seen.now.items _ c.requires.free c.requires.open room c.self.view_is
    c.in_err-rejoin.ensures.refusal
    (rw (c.reserve_uses.ensures.rows, c.in_err-rejoin.ensures.err, c.reserve-2.ensures.rows) refl)
    c.reserve.ensures.items)

pub invariant_of-self-2 : goal.invariant_of-self-2
invariant_of-self-2 c =
    let old = kernel_of c.self.inside in
    let b = c.args.attempt.now in
    let w = c.args.waited.now in
    let triggers : c.touch_all_reserved.new.self.rows ≡ all_used c.args.passed.now b.moment (expired_uses w b.moment old.triggers) =
    c.touch_all_reserved.ensures.rows ∙ ap (all_used c.args.passed.now b.moment) (c.touch_expired.ensures.rows ∙ ap (expired_uses w b.moment) c.reserve_uses.ensures.rows) in
    let autofs : c.touch_all_reserved.new.self.rows.autofs ≡ old.triggers.autofs = ap (λ (t : TriggerRows). t.autofs) triggers ∙ expired_autofs w b.moment old.triggers in
    let waits : c.rejoin.new.self ≡ rejoined c.args.token b.walker old.waits = c.in_ok-rejoin.ensures.ok in
    record {
      numbered = subst (λ (rows : List Autofs). All (λ (row : Autofs). row.fs ≤ c.self.inside.last_fs) rows) (sym autofs) c.self.invariant.numbered;
      room = omega (arith, c.self.invariant.room, ap (λ (x : WaitRows). length x.tokens) waits, as_many_rejoined c.args.token b.walker old.waits);
      given = c.self.invariant.given;
      attached = c.self.invariant.attached;
      opened = subst (λ (n : ℕ). AreOpened n c.self.inside.queue.rows) (sym (ap (λ (x : WaitRows). x.last_token) waits ∙ last_rejoined c.args.token b.walker old.waits)) c.self.invariant.opened;
    }

pub returns : goal.returns
returns c =
    let k = c.args.self.now in
    let old = kernel_of c.self.inside in
    let b = c.args.attempt.now in
    let w = c.args.waited.now in
    let room : is_full (collected b.walker k.waits) ≡ false = ap (λ (s : KernelState). is_full (collected b.walker s.waits)) (sym c.self.view_is) ∙ sym c.is_full_for.ensures ∙ c.if-is_full_for.false in
    let triggers : c.touch_all_reserved.new.self.rows ≡ all_used c.args.passed.now b.moment (expired_uses w b.moment old.triggers) =
    c.touch_all_reserved.ensures.rows ∙ ap (all_used c.args.passed.now b.moment) (c.touch_expired.ensures.rows ∙ ap (expired_uses w b.moment) c.reserve_uses.ensures.rows) in
    let waits : c.rejoin.new.self ≡ rejoined c.args.token b.walker old.waits = c.in_ok-rejoin.ensures.ok in
    let walks : c.put.new.self.rows ≡ with_walk b (walks_ended w b.walker old.walks) =
    c.put.ensures ∙ ap (λ (row : WalkRow). without_walk row.walker c.reserve-2.new.self.rows ++ row ∷ []) c.in_ok-row.ensures ∙ ap (with_walk b) c.reserve-2.ensures.rows ∙ sym (put_again w b old.walks) in
    joins_as w k _ b c.args.token c.args.passed.now c.args.seen.now.items _ c.requires.free room
    ((rw (triggers, waits, walks) refl) ∙ ap (λ (s : KernelState). with_joined b c.args.token c.args.passed.now (without_wait w b.walker b.moment s)) c.self.view_is)
    (c.push_reserved.ensures.items ∙ ap (λ (xs : List Obs). xs ++ seen.Waits b.walker c.args.token ∷ []) (c.tell_passes.ensures.seen ∙ ap (λ (ts : List Trigger). c.reserve.new.self.items ++ passes b.walker ts) c.in_ok-kept.ensures ∙ ap (λ (xs : List Obs). xs ++ passes b.walker c.args.passed.now) c.reserve.ensures.items))
