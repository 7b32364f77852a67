use Rattle.std.proofs.Common.{◌≡◌, List, ℕ, Option, subst, arith}
use Rattle.am_script.specs.{Puts}
use Rattle.am_script.proofs.Pieces.{puts_two}
use Rattle.am_draw.specs.{Holder, lane_name, lane_names}
use Rattle.am_draw.proofs.TitleLemmas.{names_next}
use Rattle.am_draw.proofs.titles.put_first_names.Goals as goal

pub loop-lane-preserved : goal.loop-lane-preserved
loop-lane-preserved g c =
    let contents = g.W.Write.contents in
    let named =
    subst (λ (h : Option Holder). Puts c.loop-lane.output c.put_lane_name.new.output (lane_name h c.lane_x-x.result) (contents c.loop-lane.writer) (contents c.put_lane_name.new.writer))
    c.holder.ensures c.put_lane_name.ensures in
    subst (λ (text : List ℕ). Puts c.args.output.now c.put_lane_name.new.output text (contents c.args.writer.now) (contents c.put_lane_name.new.writer))
    (names_next c.args.kind c.args.first c.args.lanes.now c.loop-lane.lane c.lane_x-x.result c.lane_x-x.ensures.x)
    (puts_two _ _ _ _ _ _ _ _ c.loop-lane.invariant named)

pub returns : goal.returns
returns g c =
    let contents = g.W.Write.contents in
    let is : c.loop-lane.lane ≡ 64 = omega (arith, c.loop-lane.auto.lane-end, c.loop-lane-test.false) in
    subst (λ (n : ℕ). Puts c.args.output.now c.loop-lane.output (lane_names c.args.kind c.args.first c.args.lanes.now n) (contents c.args.writer.now) (contents c.loop-lane.writer)) is
    c.loop-lane.invariant
