use Rattle.std.proofs.Common.{◌-◌, ◌^◌, arith}
use Rattle.std.proofs.lemmas.Result.{on_ok_weaker, IfErr-weaker}
use Rattle.am_serve.proofs.ReplyLemmas.{loses_unsaid, sends_said}
use Rattle.am_serve.proofs.answering.reply.Goals as goal

pub tell-requires : goal.tell-requires
tell-requires g c = omega (arith, (c.attend-telling.ensures.few (2 ^ 62 - 2) c.requires).lines)

pub returns-clause-ok : goal.returns-clause-ok
returns-clause-ok g c =
    let contents = g.W.Write.contents in
    on_ok_weaker c.tell.result
    (λ said. sends_said c.args.service.now c.attend-telling.new.service c.args.line.now c.attend-telling.result (contents c.args.writer.now) (contents c.tell.new.writer) c.attend-telling.ensures.attends said)
    c.tell.ensures.ok

pub returns-clause-err : goal.returns-clause-err
returns-clause-err g c =
    let contents = g.W.Write.contents in
    IfErr-weaker c.tell.result _ _
    (λ fault unsaid. loses_unsaid c.args.service.now c.attend-telling.new.service c.args.line.now c.attend-telling.result c.args.number (contents c.args.writer.now) (contents c.tell.new.writer) fault c.attend-telling.ensures.attends unsaid)
    c.tell.ensures.err
