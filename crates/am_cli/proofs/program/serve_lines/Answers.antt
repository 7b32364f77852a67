use Rattle.am_cli.proofs.Ends.{ends_served, ends_serve_stopped}
use Rattle.am_cli.proofs.program.serve_lines.Goals as goal

pub returns-in-Ok : goal.returns-in-Ok
returns-in-Ok g c recalled =
    let reads = g.R.Read.remaining in
    let contents = g.W.Write.contents in
    ends_served recalled (reads c.args.reader.now) (reads c.serve.new.reader) (contents c.args.writer.now) (contents c.serve.new.writer) (g.E.Write.contents c.args.errors.now) c.in-Ok.ensures.ok

pub returns-in-Err : goal.returns-in-Err
returns-in-Err g c recalled =
    let reads = g.R.Read.remaining in
    let contents = g.W.Write.contents in
    let tells = g.E.Write.contents in
    ends_serve_stopped recalled (reads c.args.reader.now) (reads c.serve.new.reader) (contents c.args.writer.now) (contents c.serve.new.writer) (tells c.args.errors.now) (tells c.tell_script.new.errors) c.in-Err.fault c.in-Err.ensures.err c.tell_script.ensures
