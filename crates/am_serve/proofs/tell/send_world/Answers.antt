use Rattle.std.proofs.lemmas.Result.{on_ok_weaker, IfErr-weaker}
use Rattle.am_serve.proofs.SendLemmas.{no_world_said, no_world_unsaid, world_cut, world_said, world_unsaid}
use Rattle.am_serve.proofs.tell.send_world.Goals as goal

pub returns-in-Ok-clause-ok : goal.returns-in-Ok-clause-ok
returns-in-Ok-clause-ok g c =
    let contents = g.W.Write.contents in
    on_ok_weaker c.send.result
    (λ written. world_said c.args.only c.args.serving.now.lines c.args.session.now (contents c.args.writer.now) (contents c.write_world.new.writer) (contents c.send.new.writer) c.in-Ok.ensures.ok written)
    c.send.ensures.ok

pub returns-in-Ok-clause-err : goal.returns-in-Ok-clause-err
returns-in-Ok-clause-err g c =
    let contents = g.W.Write.contents in
    IfErr-weaker c.send.result _ _
    (λ lost cut. world_unsaid c.args.only c.args.serving.now.lines c.args.number c.args.session.now (contents c.args.writer.now) (contents c.write_world.new.writer) (contents c.send.new.writer) lost c.in-Ok.ensures.ok cut)
    c.send.ensures.err

pub returns-in-WriteFailed-clause-err : goal.returns-in-WriteFailed-clause-err
returns-in-WriteFailed-clause-err g c =
    let contents = g.W.Write.contents in
    world_cut c.args.only c.args.serving.now.lines c.args.number c.args.session.now (contents c.args.writer.now) (contents c.write_world.new.writer) c.in-Err.fault c.in-WriteFailed.is c.in-Err.ensures.err

pub returns-in_default-clause-ok : goal.returns-in_default-clause-ok
returns-in_default-clause-ok g c =
    let contents = g.W.Write.contents in
    on_ok_weaker c.send-in_default.result
    (λ written. no_world_said c.args.only c.args.serving.now.lines c.args.session.now (contents c.args.writer.now) (contents c.write_world.new.writer) (contents c.send-in_default.new.writer) c.in-Err.fault c.in_default.not-WriteFailed c.in-Err.ensures.err written)
    c.send-in_default.ensures.ok

pub returns-in_default-clause-err : goal.returns-in_default-clause-err
returns-in_default-clause-err g c =
    let contents = g.W.Write.contents in
    IfErr-weaker c.send-in_default.result _ _
    (λ lost cut. no_world_unsaid c.args.only c.args.serving.now.lines c.args.number c.args.session.now (contents c.args.writer.now) (contents c.write_world.new.writer) (contents c.send-in_default.new.writer) c.in-Err.fault lost c.in_default.not-WriteFailed c.in-Err.ensures.err cut)
    c.send-in_default.ensures.err
