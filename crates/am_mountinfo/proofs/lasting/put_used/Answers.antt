use Rattle.std.proofs.Common.{ℕ, List, subst}
use Rattle.am_script.specs.{Puts}
use Rattle.am_script.proofs.Pieces.{puts_two}
use Rattle.am_mountinfo.specs.{used_note}
use Rattle.am_mountinfo.proofs.RowLemmas.{row_more}
use Rattle.am_mountinfo.proofs.lasting.put_used.Goals as goal

pub loop-index-preserved : goal.loop-index-preserved
loop-index-preserved g c =
    let contents = g.W.Write.contents in
    subst (λ (text : List ℕ). Puts c.args.output.now c.put_used_at.new.output text (contents c.args.writer.now) (contents c.put_used_at.new.writer))
    (row_more used_note c.args.triggers.now.rows.uses c.loop-index.index (rw c.use_count-index-end.ensures at c.loop-index-test.true))
    (puts_two _ _ _ _ _ _ _ _ c.loop-index.invariant (rw c.use_at.ensures at c.put_used_at.ensures))
