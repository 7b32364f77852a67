use Rattle.std.proofs.Common.{ℕ, List, subst}
use Rattle.am_script.specs.{Puts}
use Rattle.am_script.proofs.Pieces.{puts_two}
use Rattle.am_mountinfo.specs.{known_note}
use Rattle.am_mountinfo.proofs.RowLemmas.{row_more}
use Rattle.am_mountinfo.proofs.lasting.put_known.Goals as goal

pub loop-index-preserved : goal.loop-index-preserved
loop-index-preserved g c =
    let contents = g.W.Write.contents in
    subst (λ (text : List ℕ). Puts c.args.output.now c.put_known_at.new.output text (contents c.args.writer.now) (contents c.put_known_at.new.writer))
    (row_more known_note c.args.world.now.daemon.known c.loop-index.index (rw c.known_count-index-end.ensures at c.loop-index-test.true))
    (puts_two _ _ _ _ _ _ _ _ c.loop-index.invariant c.put_known_at.ensures)
