use Rattle.std.proofs.Common.{◌++◌, subst}
use Rattle.am_script.specs.{Puts}
use Rattle.am_script.proofs.Pieces.{puts_two}
use Rattle.am_draw.specs.{Lasts, lasts_of}
use Rattle.am_draw.specs.Rows.{obs_marks}
use Rattle.am_draw.specs.Stretches.{ended_bars}
use Rattle.am_draw.proofs.row.put_change.Goals as goal

pub returns-clause-drawn : goal.returns-clause-drawn
returns-clause-drawn g c =
    let contents = g.W.Write.contents in
    subst (λ (l : Lasts). Puts c.args.output.now c.put_obs.new.output (ended_bars c.args.until.now (lasts_of c.args.lasting.now) c.args.obs.now ++ obs_marks c.args.trees.now.before.now c.args.trees.now.behind.now.kernel l c.args.obs.now) (contents c.args.writer.now) (contents c.put_obs.new.writer)) c.change.ensures
    (puts_two _ _ _ _ _ _ _ _ c.put_ended_bars.ensures c.put_obs.ensures)
