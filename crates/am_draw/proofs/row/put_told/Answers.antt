use Rattle.std.proofs.Common.{◌++◌, subst}
use Rattle.am_script.specs.{Puts}
use Rattle.am_script.proofs.Pieces.{puts_two}
use Rattle.am_draw.specs.{Lasts, lasts_of, seen_drawn}
use Rattle.am_draw.specs.FailingBars.{failures_drawn}
use Rattle.am_draw.proofs.row.put_told.Goals as goal

pub returns-clause-drawn : goal.returns-clause-drawn
returns-clause-drawn g c =
    let contents = g.W.Write.contents in
    let until = c.args.until.now in
    let k = c.args.trees.now.behind.now.kernel in
    subst (λ (l : Lasts). Puts c.args.output.now c.put_failures.new.output (seen_drawn c.args.trees.now.before.now k until (lasts_of c.args.lasting.now) c.args.seen.now ++ failures_drawn k until l) (contents c.args.writer.now) (contents c.put_failures.new.writer)) c.put_seen.ensures.lasts
    (puts_two _ _ _ _ _ _ _ _ c.put_seen.ensures.drawn c.put_failures.ensures.drawn)
