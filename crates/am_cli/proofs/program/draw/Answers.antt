use Rattle.am_cli.proofs.Ends.{ends_drawn, ends_draw_stopped}
use Rattle.am_cli.proofs.program.draw.Goals as goal

pub returns-in-Ok : goal.returns-in-Ok
returns-in-Ok g c =
    let reads = g.R.Read.remaining in
    let contents = g.W.Write.contents in
    ends_drawn c.draw_script.new.reader.recalled c.args.first c.args.last c.from.result c.from-2.result c.from.ensures c.from-2.ensures (reads c.args.reader.now.reader) (reads c.draw_script.new.reader.reader) (contents c.args.writer.now) (contents c.draw_script.new.writer) (g.E.Write.contents c.args.errors.now) c.in-Ok._drawn c.in-Ok.ensures.ok

pub returns-in-Err : goal.returns-in-Err
returns-in-Err g c =
    let reads = g.R.Read.remaining in
    let contents = g.W.Write.contents in
    let tells = g.E.Write.contents in
    ends_draw_stopped c.draw_script.new.reader.recalled c.args.first c.args.last c.from.result c.from-2.result c.from.ensures c.from-2.ensures (reads c.args.reader.now.reader) (reads c.draw_script.new.reader.reader) (contents c.args.writer.now) (contents c.draw_script.new.writer) (tells c.args.errors.now) (tells c.tell_fault.new.errors) c.in-Err.fault c.in-Err.ensures.err c.tell_fault.ensures
