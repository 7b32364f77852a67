use Rattle.am_cli.proofs.PartLemmas.{appends_part, cut_in_part}
use Rattle.am_cli.proofs.telling.write_parts.Goals as goal

pub returns-then-not-write_part-clause-cut : goal.returns-then-not-write_part-clause-cut
returns-then-not-write_part-clause-cut g c cut =
    let contents = g.W.Write.contents in
    cut_in_part (λ part. part.now) c.args.parts.now c.loop-part.part-index _ (contents c.args.writer.now) (contents c.loop-part.writer) (contents c.write_part.new.writer) c.loop-part-test.true c.loop-part.invariant (c.write_part.ensures.cut c.if-not-write_part.true)

pub loop-part-preserved : goal.loop-part-preserved
loop-part-preserved g c =
    let contents = g.W.Write.contents in
    appends_part (λ part. part.now) c.args.parts.now c.loop-part.part-index _ (contents c.args.writer.now) (contents c.loop-part.writer) (contents c.write_part.new.writer) c.loop-part-test.true c.loop-part.invariant (c.write_part.ensures.whole c.if-not-write_part.false)
