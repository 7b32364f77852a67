use Rattle.am_cli.proofs.Ends.{ends_played, ends_stopped}
use Rattle.am_cli.proofs.program.play.Goals as goal

pub returns-in-Ok : goal.returns-in-Ok
returns-in-Ok g c =
    let reads = g.R.Read.remaining in
    let contents = g.W.Write.contents in
    ends_played c.run_script.new.reader.recalled (reads c.args.reader.now.reader) (reads c.run_script.new.reader.reader) (contents c.args.writer.now) (contents c.run_script.new.writer) (g.E.Write.contents c.args.errors.now) c.in-Ok.field-0 c.in-Ok.ensures.ok

pub returns-in-Err : goal.returns-in-Err
returns-in-Err g c =
    let reads = g.R.Read.remaining in
    let contents = g.W.Write.contents in
    let tells = g.E.Write.contents in
    ends_stopped c.run_script.new.reader.recalled (reads c.args.reader.now.reader) (reads c.run_script.new.reader.reader) (contents c.args.writer.now) (contents c.run_script.new.writer) (tells c.args.errors.now) (tells c.tell_fault.new.errors) c.in-Err.fault c.in-Err.ensures.err c.tell_fault.ensures
