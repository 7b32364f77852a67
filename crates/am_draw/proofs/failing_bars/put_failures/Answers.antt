use Rattle.std.proofs.Common.{◌≡◌, ◌++◌, Option, Some, ap, subst, ◌∙◌}
use Rattle.am_script.specs.{Puts}
use Rattle.am_script.proofs.Pieces.{puts_two}
use Rattle.am_draw.specs.{Failing, Lasts, fresh_in, lasts_of, with_begun, with_ended}
use Rattle.am_draw.specs.FailingBars.{failing_bars, fresh_marks}
use Rattle.am_draw.proofs.failing_bars.put_failures.Goals as goal

pub returns-clause-drawn : goal.returns-clause-drawn
returns-clause-drawn g c =
    let contents = g.W.Write.contents in
    let k = c.args.world.now.kernel in
    let number = c.args.until.now.number in
    let bars = failing_bars (Some k) c.args.until.now (lasts_of c.args.lasting.now) in
    subst (λ (l : Lasts). Puts c.args.output.now c.put_fresh.new.output (bars ++ fresh_marks l (fresh_in number k l)) (contents c.args.writer.now) (contents c.put_fresh.new.writer)) c.end_failures.ensures
    (subst (λ (o : Option Failing). Puts c.args.output.now c.put_fresh.new.output (bars ++ fresh_marks (lasts_of c.end_failures.new.self) o) (contents c.args.writer.now) (contents c.put_fresh.new.writer)) c.fresh-fresh.ensures
    (puts_two _ _ _ _ _ _ _ _ c.put_failing_bars.ensures c.put_fresh.ensures))

pub returns-clause-lasts : goal.returns-clause-lasts
returns-clause-lasts g c =
    let k = c.args.world.now.kernel in
    let number = c.args.until.now.number in
    let lasts = with_ended k (lasts_of c.args.lasting.now) in
    let fresh : c.fresh-fresh.result ≡ fresh_in number k lasts = c.fresh-fresh.ensures ∙ ap (fresh_in number k) c.end_failures.ensures in
    c.begin.ensures
    ∙ ap (λ (o : Option Failing). with_begun o (lasts_of c.end_failures.new.self)) fresh
    ∙ ap (with_begun (fresh_in number k lasts)) c.end_failures.ensures
