use Rattle.std.proofs.Common.{Err}
use Rattle.am_draw.proofs.DrawInputs.{input_ok, input_err, from_nothing, from_head, from_count, opened_negative, script_size}
use Rattle.am_draw.proofs.draw.draw_script.Goals as goal

pub count_opened-requires-clause-negative : goal.count_opened-requires-clause-negative
count_opened-requires-clause-negative g c =
    let input = c.read_all-input.result in
    opened_negative input.text.items input.broke c.in-Ok-Some.opened c.negative_of-negative.result (rw c.in-Ok-Some.field-0-is at c.in-Ok-Some.ensures.ok) c.negative_of-negative.ensures

pub returns-in-Ok-None-clause-ok : goal.returns-in-Ok-None-clause-ok
returns-in-Ok-None-clause-ok g c =
    let reads = g.R.Read.remaining in
    let contents = g.W.Write.contents in
    let input = c.read_all-input.result in
    let drawn = from_nothing c.args.first c.args.last (contents c.args.writer.now) (contents c.draw_nothing.new.writer) input.text.items input.broke c.draw_nothing.result (rw c.in-Ok-None.field-0-is at c.in-Ok-None.ensures.ok) c.draw_nothing.ensures in
    input_ok c.args.first c.args.last (reads c.args.reader.now) (reads c.read_all-input.new.reader) (contents c.args.writer.now) (contents c.draw_nothing.new.writer) input.text.items input.broke c.draw_nothing.result c.read_all-input.ensures.read c.read_all-input.ensures.end drawn

pub returns-in-Ok-None-clause-err : goal.returns-in-Ok-None-clause-err
returns-in-Ok-None-clause-err g c =
    let reads = g.R.Read.remaining in
    let contents = g.W.Write.contents in
    let input = c.read_all-input.result in
    let drawn = from_nothing c.args.first c.args.last (contents c.args.writer.now) (contents c.draw_nothing.new.writer) input.text.items input.broke c.draw_nothing.result (rw c.in-Ok-None.field-0-is at c.in-Ok-None.ensures.ok) c.draw_nothing.ensures in
    input_err c.args.first c.args.last (reads c.args.reader.now) (reads c.read_all-input.new.reader) (contents c.args.writer.now) (contents c.draw_nothing.new.writer) input.text.items input.broke c.draw_nothing.result c.read_all-input.ensures.read c.read_all-input.ensures.end c.read_all-input.ensures.kind drawn

pub returns-in-Ok-clause-ok : goal.returns-in-Ok-clause-ok
returns-in-Ok-clause-ok g c =
    let reads = g.R.Read.remaining in
    let contents = g.W.Write.contents in
    let input = c.read_all-input.result in
    let opens = rw c.in-Ok-Some.field-0-is at c.in-Ok-Some.ensures.ok in
    let drawn = c.draw_again.ensures (script_size input.text.items input.broke c.in-Ok-Some.opened c.in-Ok.counted.size opens c.in-Ok.ensures.ok) in
    input_ok c.args.first c.args.last (reads c.args.reader.now) (reads c.read_all-input.new.reader) (contents c.args.writer.now) (contents c.draw_again.new.writer) input.text.items input.broke c.draw_again.result c.read_all-input.ensures.read c.read_all-input.ensures.end drawn

pub returns-in-Ok-clause-err : goal.returns-in-Ok-clause-err
returns-in-Ok-clause-err g c =
    let reads = g.R.Read.remaining in
    let contents = g.W.Write.contents in
    let input = c.read_all-input.result in
    let opens = rw c.in-Ok-Some.field-0-is at c.in-Ok-Some.ensures.ok in
    let drawn = c.draw_again.ensures (script_size input.text.items input.broke c.in-Ok-Some.opened c.in-Ok.counted.size opens c.in-Ok.ensures.ok) in
    input_err c.args.first c.args.last (reads c.args.reader.now) (reads c.read_all-input.new.reader) (contents c.args.writer.now) (contents c.draw_again.new.writer) input.text.items input.broke c.draw_again.result c.read_all-input.ensures.read c.read_all-input.ensures.end c.read_all-input.ensures.kind drawn

pub returns-in-Ok-Some-clause-err : goal.returns-in-Ok-Some-clause-err
returns-in-Ok-Some-clause-err g c =
    let reads = g.R.Read.remaining in
    let contents = g.W.Write.contents in
    let input = c.read_all-input.result in
    let opens = rw c.in-Ok-Some.field-0-is at c.in-Ok-Some.ensures.ok in
    let fault = c.in-Err-count_opened.fault in
    input_err c.args.first c.args.last (reads c.args.reader.now) (reads c.read_all-input.new.reader) (contents c.args.writer.now) (contents c.args.writer.now) input.text.items input.broke (Err fault) c.read_all-input.ensures.read c.read_all-input.ensures.end c.read_all-input.ensures.kind (from_count c.args.first c.args.last (contents c.args.writer.now) input.text.items input.broke c.in-Ok-Some.opened fault opens c.in-Err-count_opened.ensures.err)

pub returns-clause-err : goal.returns-clause-err
returns-clause-err g c =
    let reads = g.R.Read.remaining in
    let contents = g.W.Write.contents in
    let input = c.read_all-input.result in
    let fault = c.in-Err.fault in
    input_err c.args.first c.args.last (reads c.args.reader.now) (reads c.read_all-input.new.reader) (contents c.args.writer.now) (contents c.args.writer.now) input.text.items input.broke (Err fault) c.read_all-input.ensures.read c.read_all-input.ensures.end c.read_all-input.ensures.kind (from_head c.args.first c.args.last (contents c.args.writer.now) input.text.items input.broke fault c.in-Err.ensures.err)
