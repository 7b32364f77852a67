use Rattle.std.proofs.Common.{ℕ, List, drop, option_copied, subst}
use Rattle.am_script.specs.{lines_in, lines_of}
use Rattle.am_world.specs.Capacity.{state_of}
use Rattle.am_scenes.specs.{so_far_of, way_from}
use Rattle.am_scenes.specs.Reading.{StopsIn}
use Rattle.am_scenes.proofs.TextLemmas.{told_arrives}
use Rattle.am_scenes.proofs.told.read_behind.Goals as goal

pub returns-in-Ok-clause-ok : goal.returns-in-Ok-clause-ok
returns-in-Ok-clause-ok c =
    let opened = c.args.opened in
    told_arrives opened.broke opened.line (lines_in (option_copied c.behind_lines.result))
    (drop opened.line (lines_of c.args.whole.now)) (state_of opened.world) (state_of c.read_on.new.world)
    (state_of c.told.result.world) c.in-Ok.gathered (so_far_of c.told.result)
    c.behind_lines.ensures c.told.ensures.world c.told.ensures.scene c.in-Ok.ensures.ok

pub returns-in-Err-clause-err : goal.returns-in-Err-clause-err
returns-in-Err-clause-err c =
    let opened = c.args.opened in
    subst (λ (l : List (List ℕ)). StopsIn opened.line l (way_from opened.broke opened.line l).scene c.in-Err.fault)
    c.behind_lines.ensures c.in-Err.ensures.err
