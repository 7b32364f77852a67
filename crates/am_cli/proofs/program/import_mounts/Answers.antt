use Rattle.std.proofs.Common.{refl}
use Rattle.am_cli.proofs.Ends.{ends_imported, ends_import_stopped}
use Rattle.am_cli.proofs.program.import_mounts.Goals as goal

pub returns-in-Ok : goal.returns-in-Ok
returns-in-Ok g c recalled =
    let reads = g.R.Read.remaining in
    let contents = g.W.Write.contents in
    ends_imported recalled (reads c.args.reader.now) (reads c.import.new.reader) (contents c.args.writer.now) (contents c.import.new.writer) (g.E.Write.contents c.args.errors.now) 0 c.in-Ok.ensures.ok refl

pub returns-in-Err : goal.returns-in-Err
returns-in-Err g c recalled =
    let reads = g.R.Read.remaining in
    let contents = g.W.Write.contents in
    let tells = g.E.Write.contents in
    ends_import_stopped recalled (reads c.args.reader.now) (reads c.import.new.reader) (contents c.args.writer.now) (contents c.import.new.writer) (tells c.args.errors.now) (tells c.tell_import.new.errors) c.in-Err.fault c.in-Err.ensures.err c.tell_import.ensures
