use Rattle.std.proofs.Common.{◌≡◌, ◌∷◌, ◌∙◌, length, option_copied, ap, arith, subst, sym}
use Rattle.am_script.specs.{lines_in}
use Rattle.am_world.specs.Capacity.{state_of}
use Rattle.am_scenes.specs.{SceneFault, way_from}
use Rattle.am_scenes.specs.Reading.{StopsIn}
use Rattle.am_scenes.proofs.WayLemmas.{way_arrives, way_begins, way_stops, way_taken}
use Rattle.am_scenes.proofs.way.play_way.Goals as goal

pub loop-rest-init : goal.loop-rest-init
loop-rest-init c = record {
  left = λ broke. way_begins (state_of c.args.world.now)
      (way_from broke c.args.line (lines_in (option_copied c.args.rest)));
  counted = omega arith;
  behind = omega arith;
}

pub loop-rest-preserved : goal.loop-rest-preserved
loop-rest-preserved c =
    let all = lines_in (option_copied c.args.rest) in
    let rest = lines_in (option_copied c.loop-rest.rest) in
    let line = c.split_line.result.0.now in
    let lines = lines_in (option_copied c.split_line.result.1) in
    let here : rest ≡ line ∷ lines = ap lines_in (ap option_copied c.in-Some.is) ∙ c.split_line.ensures in
    let on = sym c.begins_scene.ensures ∙ c.if-begins_scene.false in
    record {
      left = λ broke. way_taken broke (state_of c.args.world.now) (state_of c.loop-rest.world)
          (state_of c.play_line.new.world) (way_from broke c.args.line all) c.loop-rest.number rest line lines here on
          c.in-Ok.ensures.ok (c.loop-rest.invariant.left broke);
      counted = omega (arith, ap length here, c.loop-rest.invariant.counted);
      behind = omega (arith, c.loop-rest.invariant.behind);
    }

pub loop-rest-smaller : goal.loop-rest-smaller
loop-rest-smaller c =
    let here = ap lines_in (ap option_copied c.in-Some.is) ∙ c.split_line.ensures in
    omega (arith, ap length here)

pub returns-in-Err-clause-err : goal.returns-in-Err-clause-err
returns-in-Err-clause-err c =
    let all = lines_in (option_copied c.args.rest) in
    let rest = lines_in (option_copied c.loop-rest.rest) in
    let line = c.split_line.result.0.now in
    let lines = lines_in (option_copied c.split_line.result.1) in
    let here : rest ≡ line ∷ lines = ap lines_in (ap option_copied c.in-Some.is) ∙ c.split_line.ensures in
    let on = sym c.begins_scene.ensures ∙ c.if-begins_scene.false in
    λ broke. subst (λ (f : SceneFault). StopsIn c.args.line all (way_from broke c.args.line all).scene f)
    (sym c.fault_at.ensures)
    (way_stops broke (state_of c.args.world.now) (state_of c.loop-rest.world) (way_from broke c.args.line all)
    c.args.line c.loop-rest.number all rest line lines c.in-Err.kind here on c.loop-rest.invariant.behind
    c.loop-rest.invariant.counted c.in-Err.ensures.err (c.loop-rest.invariant.left broke))

pub returns-then-begins_scene-clause-ok : goal.returns-then-begins_scene-clause-ok
returns-then-begins_scene-clause-ok c =
    let all = lines_in (option_copied c.args.rest) in
    let rest = lines_in (option_copied c.loop-rest.rest) in
    let line = c.split_line.result.0.now in
    let lines = lines_in (option_copied c.split_line.result.1) in
    let here : rest ≡ line ∷ lines = ap lines_in (ap option_copied c.in-Some.is) ∙ c.split_line.ensures in
    let there = sym c.begins_scene.ensures ∙ c.if-begins_scene.true in
    rw (← c.in-Some.is) (record {
      arrives = λ broke. way_arrives broke (state_of c.args.world.now) (state_of c.loop-rest.world)
          (way_from broke c.args.line all) c.loop-rest.number rest line lines here there
          (c.loop-rest.invariant.left broke);
      counted = c.loop-rest.invariant.counted;
      behind = c.loop-rest.invariant.behind;
    })
