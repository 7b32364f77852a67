use Rattle.std.proofs.Common.{List, refl, subst}
use Rattle.am_explore.specs.declared.level.Node.{Node}
use Rattle.am_explore.specs.Levels.{HasLike}
use Rattle.am_explore.specs.Orders.{stand_of}
use Rattle.am_explore.proofs.LevelLemmas.{like_at}
use Rattle.am_explore.proofs.level.Level.index_of.Goals as goal

pub returns-then-is_like : goal.returns-then-is_like
returns-then-is_like c =
    let b = stand_of c.args.begun.now in
    subst (λ (z : List Node). HasLike z b) c.deref.ensures.value
    (like_at c.deref.result.now _ c.in-Some.node.now b c.in-Some.ensures.lookup.3.0 c.in-Some.ensures.lookup.1
    (c.if-is_like.ensures.0 refl))
