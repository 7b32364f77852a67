use Rattle.am_world.specs.{whole_state}
use Rattle.am_world.proofs.SpareLemmas.{resume_spares}
use Rattle.am_world.proofs.OtherLemmas.{other_is, others_free}
use Rattle.am_world.proofs.machine.Machine.made_ahead.Goals as goal

pub returns-in_ok-arrival_again-in-Resume : goal.returns-in_ok-arrival_again-in-Resume
returns-in_ok-arrival_again-in-Resume c =
    let s = whole_state c.args.self.now in
    rw (c.arrival_told-in-Resume.ensures, c.in_ok-arrival_again-in-Resume.ensures, c.in-Resume.is) (resume_spares c.in-Resume.pipe s c.in-Resume.walker c.in-Resume.now)

pub returns-in_default : goal.returns-in_default
returns-in_default c =
    (others_free (whole_state c.args.self.now) c.args.event.now (other_is c.args.event.now c.in_default.not-Umount c.in_default.not-DropNamespace c.in_default.not-Walk c.in_default.not-Resume)).free
