use Rattle.std.proofs.Common.{ℕ, List, Option, None, Some, subst, arith}
use Rattle.am_script.specs.{Puts}
use Rattle.am_script.proofs.Pieces.{puts_two}
use Rattle.am_draw.specs.{Holder, IsNextEnding, lane_bar}
use Rattle.am_draw.proofs.RowLemmas.{bars_done, bars_next}
use Rattle.am_draw.proofs.stretch.put_lanes.Goals as goal

pub loop-lane-preserved : goal.loop-lane-preserved
loop-lane-preserved g c =
    let contents = g.W.Write.contents in
    let lanes = c.args.lanes.now in
    let next : IsNextEnding c.args.ending.now c.loop-lane.from lanes (Some c.in-Some.lane) =
    subst (λ (o : Option ℕ). IsNextEnding c.args.ending.now c.loop-lane.from lanes o) c.in-Some.is c.next_ending.ensures.next in
    let bar =
    subst (λ (h : Option Holder). Puts c.loop-lane.output c.put_holder.new.output (lane_bar c.args.ending.now c.args.until.now h c.lane_x-x.result) (contents c.loop-lane.writer) (contents c.put_holder.new.writer))
    c.holder.ensures c.put_holder.ensures in
    record {
      within = omega (arith, next.there);
      drawn =
          subst (λ (text : List ℕ). Puts c.args.output.now c.put_holder.new.output text (contents c.args.writer.now) (contents c.put_holder.new.writer))
          (bars_next c.args.kind c.args.first c.args.ending.now c.args.until.now c.lane_x-x.result lanes c.loop-lane.from c.in-Some.lane next c.lane_x-x.ensures.x)
          (puts_two _ _ _ _ _ _ _ _ c.loop-lane.invariant.drawn bar);
    }

pub returns : goal.returns
returns g c =
    let contents = g.W.Write.contents in
    let lanes = c.args.lanes.now in
    let none : IsNextEnding c.args.ending.now c.loop-lane.from lanes None =
    subst (λ (o : Option ℕ). IsNextEnding c.args.ending.now c.loop-lane.from lanes o) c.in_default.is c.next_ending.ensures.next in
    subst (λ (text : List ℕ). Puts c.args.output.now c.loop-lane.output text (contents c.args.writer.now) (contents c.loop-lane.writer))
    (bars_done c.args.kind c.args.first c.args.ending.now c.args.until.now lanes c.loop-lane.from c.loop-lane.invariant.within none)
    c.loop-lane.invariant.drawn
