use Rattle.am_findings.proofs.ReadLemmas.{explores, no_scene, reads_scene, stops}
use Rattle.am_findings.proofs.explore.explore_scene.Goals as goal

pub returns-in-Ok-clause-ok : goal.returns-in-Ok-clause-ok
returns-in-Ok-clause-ok g c =
    let reads = g.R.Read.remaining in
    let contents = g.W.Write.contents in
    let input = reads c.args.reader.now in
    let rest = reads c.read_all-input.new.reader in
    let told = reads_scene input rest c.read_all-input.result.text.items c.read_all-input.result.broke c.in-Ok.told
    c.read_all-input.ensures.read c.read_all-input.ensures.end c.in-Ok.ensures.ok in
    explores c.args.most c.args.prefix.now input rest (contents c.args.writer.now) (contents c.tell.new.writer) c.in-Ok.told c.tell.result
    told c.tell.ensures.ok

pub returns-in-Ok-clause-err : goal.returns-in-Ok-clause-err
returns-in-Ok-clause-err g c =
    let reads = g.R.Read.remaining in
    let contents = g.W.Write.contents in
    let input = reads c.args.reader.now in
    let rest = reads c.read_all-input.new.reader in
    let told = reads_scene input rest c.read_all-input.result.text.items c.read_all-input.result.broke c.in-Ok.told
    c.read_all-input.ensures.read c.read_all-input.ensures.end c.in-Ok.ensures.ok in
    stops c.args.most c.args.prefix.now input rest (contents c.args.writer.now) (contents c.tell.new.writer) c.in-Ok.told c.tell.result
    told c.tell.ensures.err

pub returns-clause-err : goal.returns-clause-err
returns-clause-err g c =
    let reads = g.R.Read.remaining in
    let contents = g.W.Write.contents in
    no_scene (reads c.args.reader.now) (reads c.read_all-input.new.reader) (contents c.args.writer.now)
    c.read_all-input.result.text.items c.read_all-input.result.broke c.in-Err.fault c.read_all-input.ensures.read
    c.read_all-input.ensures.end c.read_all-input.ensures.kind c.in-Err.ensures.err
