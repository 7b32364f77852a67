use Rattle.std.proofs.Common.{◌≤◌, ◌==◌, not, List, ap, sym, subst, ◌∙◌}
use Rattle.std.proofs.lemmas.List.Elements.{All-filter}
use Rattle.am_state.specs.{QueuedRow}
use Rattle.am_kernel.specs.View.{kernel_of, AreOpened}
use Rattle.am_kernel.specs.{without_packet}
use Rattle.am_kernel.proofs.MountLemmas.{with_queue}
use Rattle.am_kernel.proofs.kernel.Kernel.take_packet.Goals as goal

pub invariant_of-self : goal.invariant_of-self
invariant_of-self c = record {
  numbered = c.self.invariant.numbered;
  room = c.self.invariant.room;
  given = c.self.invariant.given;
  attached = c.self.invariant.attached;
  opened =
      subst (λ (rows : List QueuedRow). AreOpened c.self.inside.waits.last_token rows) (sym c.take.ensures)
      (All-filter (λ (row : QueuedRow). not (row.token == c.args.token)) (λ (row : QueuedRow). row.token ≤ c.self.inside.waits.last_token) c.self.inside.queue.rows c.self.invariant.opened);
}

pub returns : goal.returns
returns c = ap (with_queue (kernel_of c.self.inside)) c.take.ensures ∙ ap (without_packet c.args.token) c.self.view_is
