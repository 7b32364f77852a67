use Rattle.am_explore.specs.Orders.{stand_of}
use Rattle.am_explore.proofs.LevelLemmas.{first_level}
use Rattle.am_explore.proofs.search.search_of.Goals as goal

pub returns-clause-level : goal.returns-clause-level
returns-clause-level c = λ scene question.
    rw (c.in_ok-push.ensures, c.in_ok-level.ensures)
    (first_level scene question (stand_of c.args.start.now) c.in_ok-first_node.field-0 c.in_ok-first_node.ensures.begun
    c.in_ok-first_node.ensures.choices c.in_ok-first_node.ensures.answers)
