use Rattle.std.proofs.Common.{◌≡◌, ◌-◌, Some, arith, length, take, drop, length-drop, ap, sym, ◌∙◌}
use Rattle.std.specs.Prelude.{position}
use Rattle.std.proofs.lemmas.List.{take_all}
use Rattle.am_lines.specs.{is_line_feed}
use Rattle.am_recall.proofs.RecallLemmas.{leaves_more, place_within}
use Rattle.am_recall.proofs.recalled.whole_lines.Goals as goal

pub loop-place-preserved : goal.loop-place-preserved
loop-place-preserved c =
    let bytes = c.args.bytes.now in
    let at = c.loop-place.at in
    let size : length (drop at bytes) ≡ length bytes - at = length-drop at bytes in
    let all : take (length bytes - at) (drop at bytes) ≡ drop at bytes = take_all (length bytes - at) (drop at bytes) (omega (arith, size)) in
    let here : position is_line_feed (drop at bytes) ≡ Some c.in-Some.place =
    ap (position is_line_feed) (sym all) ∙ sym c.line_feed_place.ensures ∙ c.in-Some.is in
    let within = place_within (drop at bytes) c.in-Some.place here in
    (omega (arith, size, within), omega (arith, c.loop-place.invariant.1), leaves_more c.loop-place.lines at c.in-Some.place bytes c.loop-place.invariant.2 here)
