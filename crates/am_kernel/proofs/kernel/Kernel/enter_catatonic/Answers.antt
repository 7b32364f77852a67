use Rattle.std.proofs.Common.{◌≤◌, List, true, length, sym, ap, subst, arith}
use Rattle.std.specs.Prelude.{not}
use Rattle.std.specs.List.{All}
use Rattle.std.proofs.lemmas.List.Elements.{All-filter}
use Rattle.am_state.specs.{QueuedRow}
use Rattle.am_trigger.specs.{Autofs, TriggerRows}
use Rattle.am_kernel.specs.{is_packet_of, made_catatonic}
use Rattle.am_kernel.specs.View.{AreOpened}
use Rattle.am_wait.specs.{WaitRows}
use Rattle.am_kernel.proofs.TokenLemmas.{fewer_released}
use Rattle.am_kernel.proofs.WalkLemmas.{catatonic_within}
use Rattle.am_kernel.proofs.kernel.Kernel.enter_catatonic.Goals as goal

pub invariant_of-self : goal.invariant_of-self
invariant_of-self c =
    record {
      numbered =
          subst (λ (t : TriggerRows). All (λ (row : Autofs). row.fs ≤ c.self.inside.last_fs) t.autofs) (sym c.make_catatonic.ensures)
          (catatonic_within c.self.inside.last_fs c.args.fs true c.self.inside.triggers.rows.autofs c.self.invariant.numbered);
      room =
          omega (arith, c.self.invariant.room, c.remove_fs.ensures.room, ap (λ (w : WaitRows). length w.tokens) c.release_fs.ensures, fewer_released c.args.fs c.self.inside.waits);
      given = c.self.invariant.given;
      attached = c.self.invariant.attached;
      opened =
          subst (λ (w : WaitRows). AreOpened w.last_token c.take_fs.new.self.rows) (sym c.release_fs.ensures)
          (subst (λ (rows : List QueuedRow). AreOpened c.self.inside.waits.last_token rows) (sym c.take_fs.ensures)
          (All-filter (λ (row : QueuedRow). not (is_packet_of c.args.fs row)) (λ (row : QueuedRow). row.token ≤ c.self.inside.waits.last_token) c.self.inside.queue.rows c.self.invariant.opened));
    }

pub returns : goal.returns
returns c =
    rw (c.make_catatonic.ensures, c.remove_fs.ensures.rows, c.release_fs.ensures, c.take_fs.ensures) (ap (made_catatonic c.args.fs) c.self.view_is)
