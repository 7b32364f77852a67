use Rattle.std.proofs.Common.{[], ◌∷◌, ◌++◌, Vec, Global, sym, ap, subst, ◌∙◌}
use Rattle.am_explore.specs.declared.begun.Begun.{Begun}
use Rattle.am_explore.specs.declared.level.Node.{Node}
use Rattle.am_explore.specs.Levels.{HasLike, node_stand}
use Rattle.am_explore.specs.Orders.{IsMade, Stand, stand_of}
use Rattle.am_explore.proofs.OrderLemmas.{like_same, same_made}
use Rattle.am_explore.proofs.LevelLemmas.{grows_by, like_pushed}
use Rattle.am_explore.proofs.search.visit.Goals as goal

pub returns-then-merges-clause-seen : goal.returns-then-merges-clause-seen
returns-then-merges-clause-seen c =
    let a = node_stand c.args.node.now in
    let made = rw c.in-Some.is at c.in_ok-made.ensures in (
      λ answer b other.
          subst (λ (z : Stand). HasLike c.merges.new.self.nodes.items z)
          (same_made c.args.scene.now a c.args.choice.now c.in-Some.made.answer answer (stand_of c.in-Some.made.begun) b
          made other)
          (subst (λ (v : Vec Node Global). HasLike v.items (stand_of c.in-Some.made.begun)) (sym c.merges.ensures.nodes)
          c.if-merges.ensures.like),
      λ ends. ends c.args.choice.now c.in-Some.made.answer (stand_of c.in-Some.made.begun)
          (record { chosen = c.requires.chosen; made = made }),
    )

pub returns-clause-seen : goal.returns-clause-seen
returns-clause-seen c =
    let a = node_stand c.args.node.now in
    let made = rw c.in-Some.is at c.in_ok-made.ensures in
    let child = c.in_ok-child_of.field-0 in (
      λ answer b other.
          rw c.in_ok-push.ensures
          (like_pushed c.merges.new.self.nodes.items child b
          (like_same (node_stand child) b
          (ap stand_of c.in_ok-child_of.ensures.begun
          ∙ same_made c.args.scene.now a c.args.choice.now c.in-Some.made.answer answer (stand_of c.in-Some.made.begun)
          b made other))),
      λ ends. ends c.args.choice.now c.in-Some.made.answer (stand_of c.in-Some.made.begun)
          (record { chosen = c.requires.chosen; made = made }),
    )

pub returns-clause-grows : goal.returns-clause-grows
returns-clause-grows c =
    let scene = c.args.scene.now in
    let a = node_stand c.args.node.now in
    let choice = c.args.choice.now in
    let answer = c.in-Some.made.answer in
    let made = rw c.in-Some.is at c.in_ok-made.ensures in
    let child = c.in_ok-child_of.field-0 in
    grows_by scene c.args.node.now c.args.ahead.now.next.nodes.items c.push.new.self.nodes.items child choice answer
    (record {
      chosen = c.requires.chosen;
      made = subst (λ (z : Begun). IsMade scene a choice answer (stand_of z)) (sym c.in_ok-child_of.ensures.begun) made;
    }) c.in_ok-child_of.ensures.choices c.in_ok-child_of.ensures.answers
    (c.in_ok-push.ensures ∙ ap (λ (v : Vec Node Global). v.items ++ child ∷ []) c.merges.ensures.nodes)
