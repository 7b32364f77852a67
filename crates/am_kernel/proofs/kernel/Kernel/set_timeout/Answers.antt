use Rattle.std.proofs.Common.{List, sym, subst}
use Rattle.am_kernel.specs.{Attached}
use Rattle.am_kernel.specs.View.{AreAttached, AreGiven}
use Rattle.am_kernel.proofs.AttachmentLemmas.{timeout_attached, timeout_given}
use Rattle.am_kernel.proofs.kernel.Kernel.set_timeout.Goals as goal

pub invariant_of-self : goal.invariant_of-self
invariant_of-self c = record {
  numbered = c.self.invariant.numbered;
  room = c.self.invariant.room;
  given =
      subst (λ (rows : List Attached). AreGiven c.self.inside.last_fs rows) (sym c.set_timeout.ensures)
      (timeout_given c.self.inside.last_fs c.args.fs c.args.timeout c.self.inside.attached.rows c.self.invariant.given);
  attached =
      subst (λ (rows : List Attached). AreAttached c.self.inside.last_attach rows) (sym c.set_timeout.ensures)
      (timeout_attached c.self.inside.last_attach c.args.fs c.args.timeout c.self.inside.attached.rows c.self.invariant.attached);
  opened = c.self.invariant.opened;
}
