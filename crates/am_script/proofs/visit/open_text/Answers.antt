use Rattle.std.proofs.Common.{◌≡◌, ◌∷◌, option_copied, ap, ◌∙◌, arith}
use Rattle.am_script.specs.{taken_as, lines_in, lines_of, size_in}
use Rattle.am_script.proofs.Heads.{one_taken}
use Rattle.am_script.proofs.Openings.{head_stops_it, begins_opened, begins_not}
use Rattle.am_script.proofs.visit.open_text.Goals as goal

pub loop-rest-preserved : goal.loop-rest-preserved
loop-rest-preserved c =
    let rest = lines_in (option_copied c.loop-rest.rest) in
    let line = c.split_line.result.0.now in
    let lines = lines_in (option_copied c.split_line.result.1) in
    let here : rest ≡ line ∷ lines = ap lines_in (ap option_copied c.in-Some.is) ∙ c.split_line.ensures.lines in
    let taken = c.in-Ok-false.ensures.ok ∙ ap (λ b. taken_as b c.take_line.new.self) c.in-Ok-false.field-0-test in
    record {
      left = one_taken (lines_of c.args.text.now) c.loop-rest.heading c.take_line.new.self c.loop-rest.number rest line lines c.loop-rest.invariant.left here taken;
      fits = omega (arith, ap size_in (ap option_copied c.in-Some.is), c.split_line.ensures.shorter, c.loop-rest.invariant.fits);
    }

pub returns-in-Err-clause-err : goal.returns-in-Err-clause-err
returns-in-Err-clause-err c =
    let rest = lines_in (option_copied c.loop-rest.rest) in
    let line = c.split_line.result.0.now in
    let lines = lines_in (option_copied c.split_line.result.1) in
    let here : rest ≡ line ∷ lines = ap lines_in (ap option_copied c.in-Some.is) ∙ c.split_line.ensures.lines in
    head_stops_it c.args.broke (lines_of c.args.text.now) c.loop-rest.heading c.loop-rest.number rest line lines c.in-Err.fault c.loop-rest.invariant.left here c.in-Err.ensures.err

pub returns-in-Ok-true-clause-ok : goal.returns-in-Ok-true-clause-ok
returns-in-Ok-true-clause-ok c =
    let rest = lines_in (option_copied c.loop-rest.rest) in
    let line = c.split_line.result.0.now in
    let lines = lines_in (option_copied c.split_line.result.1) in
    let here : rest ≡ line ∷ lines = ap lines_in (ap option_copied c.in-Some.is) ∙ c.split_line.ensures.lines in
    let taken = c.in-Ok-true.ensures.ok ∙ ap (λ b. taken_as b c.take_line.new.self) c.in-Ok-true.field-0-test in
    begins_opened c.args.broke (lines_of c.args.text.now) c.loop-rest.heading c.take_line.new.self c.loop-rest.number rest line lines c.begin_behind.result c.loop-rest.invariant.left here taken c.begin_behind.ensures.ok

pub returns-in-Ok-true-clause-err : goal.returns-in-Ok-true-clause-err
returns-in-Ok-true-clause-err c =
    let rest = lines_in (option_copied c.loop-rest.rest) in
    let line = c.split_line.result.0.now in
    let lines = lines_in (option_copied c.split_line.result.1) in
    let here : rest ≡ line ∷ lines = ap lines_in (ap option_copied c.in-Some.is) ∙ c.split_line.ensures.lines in
    let taken = c.in-Ok-true.ensures.ok ∙ ap (λ b. taken_as b c.take_line.new.self) c.in-Ok-true.field-0-test in
    begins_not c.args.broke (lines_of c.args.text.now) c.loop-rest.heading c.take_line.new.self c.loop-rest.number rest line lines c.begin_behind.result c.loop-rest.invariant.left here taken c.begin_behind.ensures.err
