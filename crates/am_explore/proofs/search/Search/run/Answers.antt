use Rattle.std.proofs.Common.{◌≡◌, [], List, subst, arith}
use Rattle.std.specs.Prelude.{vec_len}
use Rattle.std.proofs.lemmas.Bool.Decides.{nat_tests}
use Rattle.std.proofs.lemmas.List.{nil_from_length}
use Rattle.am_explore.specs.declared.level.Node.{Node}
use Rattle.am_explore.specs.Levels.{IsLevel}
use Rattle.am_explore.proofs.LevelLemmas.{none_found}
use Rattle.am_explore.proofs.search.Search.run.Goals as goal

pub returns-then-is_empty-clause-found : goal.returns-then-is_empty-clause-found
returns-then-is_empty-clause-found g c = λ start l.
    let scene = c.args.scene.now in
    let question = c.args.question.now in
    let next = c.turn.new.ahead.next.nodes in
    let none : vec_len next ≡ 0 = grind (arith, nat_tests) in
    let empty : next.items ≡ [] = nil_from_length next.items (omega (arith, next.ok.0)) in
    let goes_on = rw c.in_default.is at c.in_ok-found.ensures.goes_on in
    none_found scene question start
    (subst (λ (z : List Node). IsLevel scene question start z) empty
    (goes_on start (c.loop-found.invariant.same start l)))
