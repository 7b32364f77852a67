use Rattle.am_daemon.specs.{rows_of}
use Rattle.am_mountinfo.specs.{part_text}
use Rattle.am_mountinfo.proofs.PrintLemmas.{text_ends, ends_ok, ends_err}
use Rattle.am_mountinfo.proofs.world_text.print.Goals as goal

pub returns-clause-ok : goal.returns-clause-ok
returns-clause-ok g c =
    let contents = g.W.Write.contents in
    ends_ok _ _ _ _ _ _ (text_ends c.new-output.result c.begin.new.self c.put_part.new.output c.args.played.line (part_text c.args.world.now.kernel (rows_of c.args.world.now.daemon) c.args.view.now.part) c.args.played.summary (contents c.args.writer.now) (contents c.begin.new.writer) (contents c.put_part.new.writer) (contents c.close.new.writer) c.close.result c.new-output.ensures.bytes c.new-output.ensures.marks c.new-output.ensures.lost c.begin.ensures.settles c.begin.ensures.line c.put_part.ensures c.close.ensures.closes)

pub returns-clause-err : goal.returns-clause-err
returns-clause-err g c =
    let contents = g.W.Write.contents in
    ends_err _ _ _ _ _ _ (text_ends c.new-output.result c.begin.new.self c.put_part.new.output c.args.played.line (part_text c.args.world.now.kernel (rows_of c.args.world.now.daemon) c.args.view.now.part) c.args.played.summary (contents c.args.writer.now) (contents c.begin.new.writer) (contents c.put_part.new.writer) (contents c.close.new.writer) c.close.result c.new-output.ensures.bytes c.new-output.ensures.marks c.new-output.ensures.lost c.begin.ensures.settles c.begin.ensures.line c.put_part.ensures c.close.ensures.closes)
