use Rattle.std.proofs.Common.{ℕ, List, subst}
use Rattle.am_script.specs.{Puts}
use Rattle.am_script.proofs.Pieces.{puts_two}
use Rattle.am_draw.specs.{lasts_of}
use Rattle.am_draw.proofs.BarLemmas.{behind_next}
use Rattle.am_draw.proofs.RowLemmas.{drawn_next}
use Rattle.am_draw.proofs.row.put_seen.Goals as goal

pub loop-obs-preserved : goal.loop-obs-preserved
loop-obs-preserved g c =
    let contents = g.W.Write.contents in record {
      lasts = behind_next c.args.until.now.number (lasts_of c.args.lasting.now) (lasts_of c.loop-obs.lasting) (lasts_of c.put_change.new.lasting) c.args.seen.now c.loop-obs.obs-index c.obs-item.result c.loop-obs-test.true c.obs-item.is c.loop-obs.invariant.lasts c.put_change.ensures.lasts;
      puts =
          subst (λ (text : List ℕ). Puts c.args.output.now c.put_change.new.output text (contents c.args.writer.now) (contents c.put_change.new.writer))
          (drawn_next c.args.trees.now.before.now c.args.trees.now.behind.now.kernel c.args.until.now (lasts_of c.args.lasting.now) (lasts_of c.loop-obs.lasting) c.args.seen.now c.loop-obs.obs-index c.obs-item.result c.loop-obs-test.true c.obs-item.is c.loop-obs.invariant.lasts)
          (puts_two _ _ _ _ _ _ _ _ c.loop-obs.invariant.puts c.put_change.ensures.drawn);
    }
