use Rattle.am_mountinfo.proofs.Inputs.{shows_none, shows_head, shows_opened, stops_opened}
use Rattle.am_mountinfo.proofs.world_text.world_script.Goals as goal

pub returns-in-Ok-None-clause-ok : goal.returns-in-Ok-None-clause-ok
returns-in-Ok-None-clause-ok g c =
    let reads = g.R.Read.remaining in
    let contents = g.W.Write.contents in
    shows_none c.args.only (reads c.args.reader.now) (reads c.read_all-input.new.reader) (contents c.args.writer.now) c.read_all-input.result.text.items c.read_all-input.result.broke c.read_all-input.ensures.read c.read_all-input.ensures.end (rw c.in-Ok-None.field-0-is at c.in-Ok-None.ensures.ok)

pub returns-in-Ok-Some-clause-ok : goal.returns-in-Ok-Some-clause-ok
returns-in-Ok-Some-clause-ok g c =
    let reads = g.R.Read.remaining in
    let contents = g.W.Write.contents in
    shows_opened c.args.only (reads c.args.reader.now) (reads c.read_all-input.new.reader) (contents c.args.writer.now) (contents c.show_opened.new.writer) c.read_all-input.result.text.items c.read_all-input.result.broke c.in-Ok-Some.opened c.show_opened.result c.read_all-input.ensures.read c.read_all-input.ensures.end (rw c.in-Ok-Some.field-0-is at c.in-Ok-Some.ensures.ok) c.show_opened.ensures.whole c.show_opened.ensures.ok

pub returns-in-Ok-Some-clause-err : goal.returns-in-Ok-Some-clause-err
returns-in-Ok-Some-clause-err g c =
    let reads = g.R.Read.remaining in
    let contents = g.W.Write.contents in
    stops_opened c.args.only (reads c.args.reader.now) (reads c.read_all-input.new.reader) (contents c.args.writer.now) (contents c.show_opened.new.writer) c.read_all-input.result.text.items c.read_all-input.result.broke c.in-Ok-Some.opened c.show_opened.result c.read_all-input.ensures.read c.read_all-input.ensures.end c.read_all-input.ensures.kind (rw c.in-Ok-Some.field-0-is at c.in-Ok-Some.ensures.ok) c.show_opened.ensures.err

pub returns-clause-err : goal.returns-clause-err
returns-clause-err g c =
    let reads = g.R.Read.remaining in
    let contents = g.W.Write.contents in
    shows_head c.args.only (reads c.args.reader.now) (reads c.read_all-input.new.reader) (contents c.args.writer.now) c.read_all-input.result.text.items c.read_all-input.result.broke c.in-Err.fault c.read_all-input.ensures.read c.read_all-input.ensures.end c.read_all-input.ensures.kind c.in-Err.ensures.err
