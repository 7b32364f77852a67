use Rattle.std.proofs.Common.{◌≡◌, List, ℕ, Option, None, get_or, length, refl, subst, option_copied, arith}
use Rattle.std.proofs.lemmas.List.{get_or_read_under}
use Rattle.am_script.specs.{Puts}
use Rattle.am_script.proofs.Pieces.{puts_two}
use Rattle.am_draw.specs.{Failing, failing_bar, failing_bars_in}
use Rattle.am_draw.specs.Endings.{kernel_of}
use Rattle.am_draw.proofs.RowLemmas.{failing_bars_next}
use Rattle.am_draw.proofs.failing_bars.put_failing_bars.Goals as goal

pub loop-lane-preserved : goal.loop-lane-preserved
loop-lane-preserved g c =
    let contents = g.W.Write.contents in
    let lanes = c.as_slice-lanes.result.now in
    let ending = kernel_of (option_copied c.args.ending) in
    let negative = c.args.lasting.now.negative in
    let held : c.index-lanes-lane.result ≡ get_or lanes c.loop-lane.lane None =
    get_or_read_under lanes c.loop-lane.lane (length lanes) c.index-lanes-lane.result None c.index-lanes-lane.is (omega (arith, c.loop-lane-test.true)) refl in
    let bar =
    subst (λ (h : Option Failing). Puts c.loop-lane.output c.put_failing_bar.new.output (failing_bar negative ending c.args.until.now h c.lane_x-x.result) (contents c.loop-lane.writer) (contents c.put_failing_bar.new.writer))
    held c.put_failing_bar.ensures in
    subst (λ (text : List ℕ). Puts c.args.output.now c.put_failing_bar.new.output text (contents c.args.writer.now) (contents c.put_failing_bar.new.writer))
    (failing_bars_next negative ending c.args.until.now c.first_failing-first.result lanes c.loop-lane.lane c.lane_x-x.result c.lane_x-x.ensures.x)
    (puts_two _ _ _ _ _ _ _ _ c.loop-lane.invariant bar)

pub returns : goal.returns
returns g c =
    let contents = g.W.Write.contents in
    let lanes = c.as_slice-lanes.result.now in
    let ending = kernel_of (option_copied c.args.ending) in
    let negative = c.args.lasting.now.negative in
    let done : c.loop-lane.lane ≡ length lanes = omega arith in
    rw c.as_slice-lanes.ensures.value at
    (rw c.first_failing-first.ensures.first at
    (subst (λ (n : ℕ). Puts c.args.output.now c.loop-lane.output (failing_bars_in negative ending c.args.until.now c.first_failing-first.result lanes n) (contents c.args.writer.now) (contents c.loop-lane.writer)) done
    c.loop-lane.invariant))
