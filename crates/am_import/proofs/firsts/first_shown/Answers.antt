use Rattle.std.proofs.Common.{◌∙◌, ◌-◌, Some, arith}
use Rattle.std.proofs.lemmas.Map.Text.{btree_map_updates_str}
use Rattle.am_import.specs.Firsts.{shown_in}
use Rattle.am_import.proofs.ShownLemmas.{shown_before}
use Rattle.am_import.proofs.firsts.first_shown.Goals as goal

pub loop-place-preserved : goal.loop-place-preserved
loop-place-preserved c = record {
  kept = λ shown. btree_map_updates_str c.as_slice.result.now c.loop-place.places c.insert.new.self (Some (c.loop-place.place - 1)) c.in_ok-insert.ensures.updates shown
      ∙ shown_before (shown_in c.loop-place.places) c.args.rows.now (c.loop-place.place - 1) c.loop-place.place c.index-rows-place.result c.as_slice.result.now (omega (arith, c.loop-place-test.true)) (omega (arith, c.loop-place-test.true)) (omega (arith, c.loop-place.invariant.within, c.loop-place-test.true)) c.as_slice.ensures.value c.loop-place.invariant.kept shown;
  within = omega (arith, c.loop-place.invariant.within);
}
