use Rattle.am_cli.proofs.Ends.{ends_explored, ends_explore_stopped}
use Rattle.am_cli.proofs.program.explore_orders.Goals as goal

pub returns-in-Ok : goal.returns-in-Ok
returns-in-Ok g c =
    let reads = g.R.Read.remaining in
    let contents = g.W.Write.contents in
    ends_explored c.explore_scene.new.reader.recalled c.args.most c.from-most.result c.args.prefix.now
    c.as_slice.result.now c.from-most.ensures c.as_slice.ensures.value (reads c.args.reader.now.reader)
    (reads c.explore_scene.new.reader.reader) (contents c.args.writer.now) (contents c.explore_scene.new.writer)
    (g.E.Write.contents c.args.errors.now) c.in-Ok.findings c.status_of_findings.result c.in-Ok.ensures.ok
    c.status_of_findings.ensures

pub returns-in-Err : goal.returns-in-Err
returns-in-Err g c =
    let reads = g.R.Read.remaining in
    let contents = g.W.Write.contents in
    let tells = g.E.Write.contents in
    ends_explore_stopped c.explore_scene.new.reader.recalled c.args.most c.from-most.result c.args.prefix.now
    c.as_slice.result.now c.from-most.ensures c.as_slice.ensures.value (reads c.args.reader.now.reader)
    (reads c.explore_scene.new.reader.reader) (contents c.args.writer.now) (contents c.explore_scene.new.writer)
    (tells c.args.errors.now) (tells c.tell_explore.new.errors) c.in-Err.fault c.in-Err.ensures.err
    c.tell_explore.ensures
