use Rattle.am_cli.proofs.Ends.{ends_judged, ends_judge_stopped}
use Rattle.am_cli.proofs.program.judge.Goals as goal

pub returns-in-Ok : goal.returns-in-Ok
returns-in-Ok g c recalled =
    let reads = g.R.Read.remaining in
    let contents = g.W.Write.contents in
    ends_judged recalled (reads c.args.reader.now) (reads c.judge_trace.new.reader) (contents c.args.writer.now) (contents c.judge_trace.new.writer) (g.E.Write.contents c.args.errors.now) c.in-Ok.verdict c.status_of.result c.in-Ok.ensures.ok c.status_of.ensures

pub returns-in-Err : goal.returns-in-Err
returns-in-Err g c recalled =
    let reads = g.R.Read.remaining in
    let contents = g.W.Write.contents in
    let tells = g.E.Write.contents in
    ends_judge_stopped recalled (reads c.args.reader.now) (reads c.judge_trace.new.reader) (contents c.args.writer.now) (contents c.judge_trace.new.writer) (tells c.args.errors.now) (tells c.tell_judge.new.errors) c.in-Err.fault c.in-Err.ensures.err c.tell_judge.ensures
