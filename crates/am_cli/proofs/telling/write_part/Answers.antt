use Rattle.am_cli.proofs.PartLemmas.{all_taken, some_taken}
use Rattle.am_cli.proofs.telling.write_part.Goals as goal

pub returns-clause-whole : goal.returns-clause-whole
returns-clause-whole g c =
    let contents = g.W.Write.contents in
    all_taken c.write_bytes-taken.result c.args.part.now (contents c.args.writer.now) (contents c.write_bytes-taken.new.writer) c.write_bytes-taken.ensures.taken

pub returns-clause-cut : goal.returns-clause-cut
returns-clause-cut g c =
    let contents = g.W.Write.contents in
    some_taken c.write_bytes-taken.result c.args.part.now (contents c.args.writer.now) (contents c.write_bytes-taken.new.writer) c.write_bytes-taken.ensures.bound c.write_bytes-taken.ensures.taken
