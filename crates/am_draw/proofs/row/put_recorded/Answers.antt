use Rattle.std.proofs.Common.{◌+◌, subst}
use Rattle.am_names.specs.declared.trigger.Trigger.{Trigger}
use Rattle.am_script.specs.{Puts}
use Rattle.am_draw.specs.{lasts_of}
use Rattle.am_draw.specs.Rows.{book_marks}
use Rattle.am_draw.specs.Stretches.{moved}
use Rattle.am_draw.proofs.row.put_recorded.Goals as goal

pub returns : goal.returns
returns g c =
    let contents = g.W.Write.contents in
    subst (λ (t : Trigger). Puts c.args.output.now c.put_book.new.output (book_marks (895 + moved (lasts_of c.args.lasting.now)) t c.args.entry.now) (contents c.args.writer.now) (contents c.put_book.new.writer)) c.to_trigger-kept.ensures
    (rw c.moved-x.ensures.moved at c.put_book.ensures)
