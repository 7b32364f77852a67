use Rattle.am_mountinfo.proofs.AttachmentLemmas.{one_attachment_more}
use Rattle.am_mountinfo.proofs.attachments.Attachments.of.Goals as goal

pub loop-row-preserved : goal.loop-row-preserved
loop-row-preserved c =
    one_attachment_more c.loop-row.found c.add.new.self c.args.rows.now c.loop-row.row-index c.row-item.result c.loop-row-test.true c.row-item.is c.loop-row.invariant c.in_ok-add.ensures
