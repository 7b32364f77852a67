use Rattle.std.proofs.Common.{sym, subst}
use Rattle.am_machine.specs.{Event, outcome_of}
use Rattle.am_world.specs.{whole_state, Yields}
use Rattle.am_world.proofs.machine.Machine.handle.Goals as goal

pub returns-in-Umount : goal.returns-in-Umount
returns-in-Umount c =
    let s = whole_state c.args.self.now in
    subst (λ (e : Event). Yields (outcome_of s e) s c.umount.result (whole_state c.umount.new.self)) (sym c.in-Umount.is) c.umount.ensures
