use Rattle.am_kernel.specs.{expire_outcome}
use Rattle.am_world.specs.{whole_state}
use Rattle.am_world.proofs.GoesLemmas.{walk_goes, walk_fails}
use Rattle.am_world.proofs.machine.Machine.expire.Goals as goal

pub returns-in-Ok : goal.returns-in-Ok
returns-in-Ok c =
    let s = whole_state c.args.self.now in
    let o = expire_outcome c.args.pipe s.kernel c.args.walker c.args.fs c.args.now c.args.immediate in
    rw c.answer_of.ensures (walk_goes o s c.in-Ok.progress c.expire-came.new.self c.expire-came.new.seen.items c.in-Ok.ensures)

pub returns-in-Err : goal.returns-in-Err
returns-in-Err c =
    let s = whole_state c.args.self.now in
    let o = expire_outcome c.args.pipe s.kernel c.args.walker c.args.fs c.args.now c.args.immediate in
    walk_fails o s c.in-Err.errno c.expire-came.new.self c.expire-came.new.seen.items c.in-Err.ensures
