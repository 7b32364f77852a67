use Rattle.std.proofs.Common.{◌+◌, ◌≤◌, ℕ, List, false, refl, sym, subst, arith}
use Rattle.std.specs.List.{All}
use Rattle.am_trigger.specs.{Autofs, TriggerRows}
use Rattle.am_kernel.specs.{Attached}
use Rattle.am_kernel.specs.View.{AreAttached, AreGiven}
use Rattle.am_kernel.proofs.AttachmentLemmas.{reattached_attached, reattached_given}
use Rattle.am_kernel.proofs.RisingLemmas.{below_next}
use Rattle.am_kernel.proofs.WalkLemmas.{catatonic_within}
use Rattle.am_kernel.proofs.kernel.Kernel.set_pipe.Goals as goal

pub set_attach-requires : goal.set_attach-requires
set_attach-requires c =
    below_next (λ (r : Attached). r.attach) c.self.inside.last_attach (c.self.inside.last_attach + 1) c.self.inside.attached.rows refl c.self.invariant.attached

pub invariant_of-self : goal.invariant_of-self
invariant_of-self c =
    record {
      numbered =
          subst (λ (t : TriggerRows). All (λ (row : Autofs). row.fs ≤ c.self.inside.last_fs) t.autofs) (sym c.make_live.ensures)
          (catatonic_within c.self.inside.last_fs c.args.fs false c.self.inside.triggers.rows.autofs c.self.invariant.numbered);
      room = omega (arith, c.self.invariant.room, c.remove_fs.ensures.room);
      given =
          subst (λ (rows : List Attached). AreGiven c.self.inside.last_fs rows) (sym c.set_attach.ensures)
          (reattached_given c.self.inside.last_fs c.args.fs _ c.self.inside.attached.rows c.self.invariant.given);
      attached =
          subst (λ (n : ℕ). AreAttached n c.set_attach.new.self.rows) (sym c.attach.view_is)
          (subst (λ (rows : List Attached). AreAttached (c.self.inside.last_attach + 1) rows) (sym c.set_attach.ensures)
          (reattached_attached c.self.inside.last_attach c.args.fs c.self.inside.attached.rows c.self.invariant.attached));
      opened = c.self.invariant.opened;
    }
