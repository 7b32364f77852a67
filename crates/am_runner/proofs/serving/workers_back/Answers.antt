use Rattle.std.proofs.Common.{rules}
use Rattle.am_runner.proofs.PartLemmas.{workers_behind}
use Rattle.am_runner.proofs.serving.workers_back.Goals as goal

pub loop-thread-preserved-in-Ok : goal.loop-thread-preserved-in-Ok
loop-thread-preserved-in-Ok g c =
    let one = c.parts-caller.result in record {
      can = search rules;
      finite = search rules;
      callers = search rules;
      takers = search rules;
      backends = search rules;
      are = workers_behind g.L.Opened.pipe c.loop-thread.takers.items
          c.push_reserved-in-Ok.new.self.items c.loop-thread.callers.items
          c.push_reserved.new.self.items one.1 one.0 c.push_reserved-in-Ok.ensures.items
          c.push_reserved.ensures.items c.loop-thread.invariant.are c.parts-caller.ensures;
    }
