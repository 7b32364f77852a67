use Rattle.am_cli.proofs.Ends.{ends_traced, ends_trace_stopped}
use Rattle.am_cli.proofs.program.trace.Goals as goal

pub returns-in-Ok : goal.returns-in-Ok
returns-in-Ok g c =
    let reads = g.R.Read.remaining in
    let contents = g.W.Write.contents in
    ends_traced c.trace_script.new.reader.recalled c.args.plain c.style_of.result c.style_of.ensures (reads c.args.reader.now.reader) (reads c.trace_script.new.reader.reader) (contents c.args.writer.now) (contents c.trace_script.new.writer) (g.E.Write.contents c.args.errors.now) c.in-Ok._traced c.in-Ok.ensures.ok

pub returns-in-Err : goal.returns-in-Err
returns-in-Err g c =
    let reads = g.R.Read.remaining in
    let contents = g.W.Write.contents in
    let tells = g.E.Write.contents in
    ends_trace_stopped c.trace_script.new.reader.recalled c.args.plain c.style_of.result c.style_of.ensures (reads c.args.reader.now.reader) (reads c.trace_script.new.reader.reader) (contents c.args.writer.now) (contents c.trace_script.new.writer) (tells c.args.errors.now) (tells c.tell_fault.new.errors) c.in-Err.fault c.in-Err.ensures.err c.tell_fault.ensures
