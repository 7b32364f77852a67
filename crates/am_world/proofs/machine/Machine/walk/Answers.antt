use Rattle.am_kernel.specs.{walk_outcome}
use Rattle.am_world.specs.{whole_state}
use Rattle.am_world.proofs.GoesLemmas.{walk_goes, walk_fails}
use Rattle.am_world.proofs.machine.Machine.walk.Goals as goal

pub returns-in-Ok : goal.returns-in-Ok
returns-in-Ok c =
    let s = whole_state c.args.self.now in
    let o = walk_outcome c.args.pipe s.kernel c.args.walker c.args.ns c.args.path.now c.args.now in
    rw c.answer_of.ensures (walk_goes o s c.in-Ok.progress c.walk-came.new.self c.walk-came.new.seen.items (rw c.path-path.ensures at c.in-Ok.ensures))

pub returns-in-Err : goal.returns-in-Err
returns-in-Err c =
    let s = whole_state c.args.self.now in
    let o = walk_outcome c.args.pipe s.kernel c.args.walker c.args.ns c.args.path.now c.args.now in
    walk_fails o s c.in-Err.errno c.walk-came.new.self c.walk-came.new.seen.items (rw c.path-path.ensures at c.in-Err.ensures)
