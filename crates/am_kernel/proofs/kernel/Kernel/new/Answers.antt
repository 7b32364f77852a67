use Rattle.std.proofs.Common.{◌≤◌, List, length, sym, subst, arith}
use Rattle.std.specs.List.{All}
use Rattle.am_trigger.specs.{Autofs, TriggerRows}
use Rattle.am_state.specs.{QueuedRow}
use Rattle.am_wait.specs.{WaitRows}
use Rattle.am_kernel.specs.{Attached}
use Rattle.am_kernel.specs.View.{AreAttached, AreGiven, AreOpened}
use Rattle.am_kernel.proofs.kernel.Kernel.new.Goals as goal

pub invariant_of-result : goal.invariant_of-result
invariant_of-result c = record {
  numbered = subst (λ (t : TriggerRows). All (λ (row : Autofs). row.fs ≤ 1) t.autofs) (sym c.new-2.ensures) (λ k d less. absurd (omega (arith, less)));
  room = subst (λ (w : WaitRows). length w.tokens ≤ c.new-3.result.room) (sym c.new-4.ensures) (omega arith);
  given = subst (λ (rows : List Attached). AreGiven 1 rows) (sym c.new-6.ensures) (λ k d less. absurd (omega (arith, less)));
  attached = subst (λ (rows : List Attached). AreAttached 0 rows) (sym c.new-6.ensures) (λ k d less. absurd (omega (arith, less)));
  opened = subst (λ (rows : List QueuedRow). AreOpened c.new-4.result.last_token rows) (sym c.new-8.ensures) (λ k d less. absurd (omega (arith, less)));
}
