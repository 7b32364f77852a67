use Rattle.std.proofs.Common.{◌≡◌, ◌∷◌, ◌∙◌, length, option_copied, ap, arith, subst, sym}
use Rattle.am_script.specs.{lines_in}
use Rattle.am_scenes.specs.{SceneFault, scene_from}
use Rattle.am_scenes.specs.Reading.{StopsIn}
use Rattle.am_scenes.proofs.SceneLemmas.{line_stops, line_taken}
use Rattle.am_scenes.proofs.gathered.Gathered.take_lines.Goals as goal

pub loop-rest-preserved : goal.loop-rest-preserved
loop-rest-preserved c =
    let all = lines_in (option_copied c.args.rest) in
    let rest = lines_in (option_copied c.loop-rest.rest) in
    let line = c.split_line.result.0.now in
    let lines = lines_in (option_copied c.split_line.result.1) in
    let here : rest ≡ line ∷ lines = ap lines_in (ap option_copied c.in-Some.is) ∙ c.split_line.ensures in
    record {
      same = λ broke. line_taken broke (scene_from broke c.args.self.now c.args.line all) c.loop-rest.self
          c.take_line.new.self c.loop-rest.number rest line lines here c.in-Ok.ensures.ok
          (c.loop-rest.invariant.same broke);
      counted = omega (arith, ap length here, c.loop-rest.invariant.counted);
      behind = omega (arith, c.loop-rest.invariant.behind);
    }

pub loop-rest-smaller : goal.loop-rest-smaller
loop-rest-smaller c =
    let here = ap lines_in (ap option_copied c.in-Some.is) ∙ c.split_line.ensures in
    omega (arith, ap length here)

pub returns-in-Err-clause-err : goal.returns-in-Err-clause-err
returns-in-Err-clause-err c =
    let all = lines_in (option_copied c.args.rest) in
    let rest = lines_in (option_copied c.loop-rest.rest) in
    let line = c.split_line.result.0.now in
    let lines = lines_in (option_copied c.split_line.result.1) in
    let here : rest ≡ line ∷ lines = ap lines_in (ap option_copied c.in-Some.is) ∙ c.split_line.ensures in
    λ broke. subst (λ (f : SceneFault). StopsIn c.args.line all (scene_from broke c.args.self.now c.args.line all) f)
    (sym c.fault_at.ensures)
    (line_stops broke (scene_from broke c.args.self.now c.args.line all) c.loop-rest.self c.args.line c.loop-rest.number
    all rest line lines c.in-Err.kind here c.loop-rest.invariant.behind c.loop-rest.invariant.counted
    (c.loop-rest.invariant.same broke) c.in-Err.ensures.err)
