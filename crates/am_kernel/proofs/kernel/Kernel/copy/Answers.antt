use Rattle.std.proofs.Common.{◌≤◌, ℕ, List, length, sym, ap, subst, arith}
use Rattle.std.specs.List.{All}
use Rattle.am_trigger.specs.{Autofs, TriggerRows}
use Rattle.am_state.specs.{QueuedRow}
use Rattle.am_wait.specs.{WaitRows}
use Rattle.am_kernel.specs.{Attached}
use Rattle.am_kernel.specs.View.{AreAttached, AreGiven, AreOpened}
use Rattle.am_kernel.proofs.kernel.Kernel.copy.Goals as goal

pub invariant_of-result : goal.invariant_of-result
invariant_of-result c =
    let old = c.self.inside in
    let kept = c.self.invariant in
    let first = c.in_ok-first.ensures in
    let second = c.in_ok-second.ensures in
    record {
      numbered = subst (λ (t : TriggerRows). All (λ (row : Autofs). row.fs ≤ old.last_fs) t.autofs) (sym first.triggers) kept.numbered;
      room = omega (arith, kept.room, ap (λ (w : WaitRows). length w.tokens) first.waits, first.room);
      given = subst (λ (rows : List Attached). AreGiven old.last_fs rows) (sym second.attached) kept.given;
      attached = subst (λ (rows : List Attached). AreAttached old.last_attach rows) (sym second.attached) kept.attached;
      opened =
          subst (λ (last : ℕ). AreOpened last c.in_ok-second.second.queue.rows)
          (sym (ap (λ (w : WaitRows). w.last_token) first.waits))
          (subst (λ (rows : List QueuedRow). AreOpened old.waits.last_token rows) (sym second.queue) kept.opened);
    }
