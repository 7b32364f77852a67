use Rattle.am_import.specs.Notes.{note_text}
use Rattle.am_import.proofs.NoteLemmas.{note_more}
use Rattle.am_import.proofs.notes.push_notes.Goals as goal

pub loop-row-preserved : goal.loop-row-preserved
loop-row-preserved c =
    note_more (note_text c.args.world.now.kernel.table c.args.rows.now) c.args.rows.now c.loop-row.row-index c.row-item.result c.args.text.now.items c.loop-row.text.items c.push_note.new.text.items c.loop-row-test.true c.loop-row.invariant c.row-item.is c.in_ok-push_note.ensures
