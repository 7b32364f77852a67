use Rattle.am_serve.specs.Replies.{closed}
use Rattle.am_serve.specs.Tellings.{plain_text}
use Rattle.am_serve.proofs.SendLemmas.{ends_sent, ends_unsent, text_ends}
use Rattle.am_serve.proofs.tell.send.Goals as goal

pub returns-clause-ok : goal.returns-clause-ok
returns-clause-ok g c =
    let contents = g.W.Write.contents in
    ends_sent c.args.number (closed (plain_text c.args.telling c.args.serving.now)) _ _ c.close.result c.ended.result (text_ends c.new-output.result c.begin.new.self c.put_reply.new.output c.args.number (closed (plain_text c.args.telling c.args.serving.now)) c.no_event.result (contents c.args.writer.now) (contents c.begin.new.writer) (contents c.put_reply.new.writer) (contents c.close.new.writer) c.close.result c.new-output.ensures.bytes c.new-output.ensures.marks c.new-output.ensures.lost c.begin.ensures.settles c.begin.ensures.line c.put_reply.ensures c.close.ensures.closes) c.ended.ensures.ok

pub returns-clause-err : goal.returns-clause-err
returns-clause-err g c =
    let contents = g.W.Write.contents in
    ends_unsent c.args.number (closed (plain_text c.args.telling c.args.serving.now)) _ _ c.close.result c.ended.result (text_ends c.new-output.result c.begin.new.self c.put_reply.new.output c.args.number (closed (plain_text c.args.telling c.args.serving.now)) c.no_event.result (contents c.args.writer.now) (contents c.begin.new.writer) (contents c.put_reply.new.writer) (contents c.close.new.writer) c.close.result c.new-output.ensures.bytes c.new-output.ensures.marks c.new-output.ensures.lost c.begin.ensures.settles c.begin.ensures.line c.put_reply.ensures c.close.ensures.closes) c.ended.ensures.err
