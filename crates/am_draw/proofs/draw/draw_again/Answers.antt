use Rattle.am_draw.proofs.DrawInputs.{from_nothing, from_head, from_opened, opened_size}
use Rattle.am_draw.proofs.draw.draw_again.Goals as goal

pub returns-in-Ok-None : goal.returns-in-Ok-None
returns-in-Ok-None g c = λ sized.
    from_nothing c.args.first c.args.last (g.W.Write.contents c.args.writer.now) (g.W.Write.contents c.draw_nothing.new.writer) c.args.input.now.text.items c.args.input.now.broke c.draw_nothing.result (rw c.in-Ok-None.field-0-is at c.in-Ok-None.ensures.ok) c.draw_nothing.ensures

pub returns-in-Ok-Some : goal.returns-in-Ok-Some
returns-in-Ok-Some g c = λ sized.
    let contents = g.W.Write.contents in
    let opens = rw c.in-Ok-Some.field-0-is at c.in-Ok-Some.ensures.ok in
    let its = opened_size c.args.input.now.text.items c.args.input.now.broke c.in-Ok-Some.opened c.args.counted.size opens sized in
    from_opened c.args.first c.args.last (contents c.args.writer.now) (contents c.draw_opened.new.writer) c.args.input.now.text.items c.args.input.now.broke c.in-Ok-Some.opened c.draw_opened.result opens c.draw_opened.ensures.whole (c.draw_opened.ensures.ok its) (c.draw_opened.ensures.err its)

pub returns-in-Err : goal.returns-in-Err
returns-in-Err g c = λ sized.
    from_head c.args.first c.args.last (g.W.Write.contents c.args.writer.now) c.args.input.now.text.items c.args.input.now.broke c.in-Err.fault c.in-Err.ensures.err
