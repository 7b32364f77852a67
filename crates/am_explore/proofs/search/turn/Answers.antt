use Rattle.std.proofs.Common.{◌≡◌, ◌<◌, List, length, get_or, sym, subst, ◌∙◌, arith}
use Rattle.std.proofs.lemmas.Bool.{false≢true}
use Rattle.std.proofs.lemmas.List.{take_all}
use Rattle.am_explore.specs.declared.level.Node.{Node}
use Rattle.am_explore.specs.Levels.{AllOf, IsPassed}
use Rattle.am_explore.proofs.LevelLemmas.{ahead_more, counts_then, next_level, none_below, order_found, pass_more}
use Rattle.am_explore.proofs.search.turn.Goals as goal
use Rattle.am_explore.proofs.search.turn.Goals.{in-GoesOn, in-End+in_ok-met-in-End+else-met}

pub returns-then-met-clause-found : goal.returns-then-met-clause-found
returns-then-met-clause-found g c = λ start l.
    let level = c.args.level.now.nodes.items in
    let i = c.loop-index.index in
    let node = c.node-item.result in
    let is : node ≡ get_or level i node =
    subst (λ (z : List Node). node ≡ get_or z i node) c.deref-node-items.ensures.value c.node-item.is in
    let below : i < length level =
    subst (λ (z : List Node). i < length z) c.deref-node-items.ensures.value c.loop-index-test.true in
    order_found c.args.scene.now c.args.question.now start level i node c.in_ok-order_to-in-End.field-0 below is
    (rw c.in-End.is at c.in_ok-look.ensures.seen) (c.in_ok-met-in-End.ensures.0 c.if-met.true)
    c.in_ok-order_to-in-End.ensures l

pub returns-in-Cut-clause-found : goal.returns-in-Cut-clause-found
returns-in-Cut-clause-found g c = λ start l.
    let level = c.args.level.now.nodes.items in
    let i = c.loop-index.index in
    let node = c.node-item.result in
    let is : node ≡ get_or level i node =
    subst (λ (z : List Node). node ≡ get_or z i node) c.deref-node-items.ensures.value c.node-item.is in
    let below : i < length level =
    subst (λ (z : List Node). i < length z) c.deref-node-items.ensures.value c.loop-index-test.true in
    rw c.cut_at.ensures (none_below c.args.scene.now c.args.question.now start level i node below is l)

pub loop-index-preserved : goal.loop-index-preserved
loop-index-preserved g c =
    let scene = c.args.scene.now in
    let question = c.args.question.now in
    let level = c.args.level.now.nodes.items in
    let old = c.loop-index.ahead.next.nodes.items in
    let next = c.look.new.ahead.next.nodes.items in
    let i = c.loop-index.index in
    let node = c.node-item.result in
    let is : node ≡ get_or level i node =
    subst (λ (z : List Node). node ≡ get_or z i node) c.deref-node-items.ensures.value c.node-item.is in
    let below : i < length level =
    subst (λ (z : List Node). i < length z) c.deref-node-items.ensures.value c.loop-index-test.true in
    let grows = c.in_ok-look.ensures.grows in
    let passed : IsPassed scene question next node =
    elim c.match-branch-2.branch [
      | in-GoesOn w ↦
          let seen = rw w.in-GoesOn.is at c.in_ok-look.ensures.seen in
          record { follows = seen.0; unmet = λ ends meets. seen.1 ends }
      | in-End+in_ok-met-in-End+else-met w ↦
          let seen = rw w.in-End.is at c.in_ok-look.ensures.seen in
          record {
            follows = λ choice answer b step. absurd (seen choice answer b step);
            unmet = λ ends meets. false≢true (sym w.if-met.false ∙ w.in_ok-met-in-End.ensures.1 meets);
          }
    ] in
    record {
      orders = ahead_more scene level old next i node below is grows c.loop-index.invariant.orders;
      counts = counts_then c.args.ahead.now c.loop-index.ahead c.look.new.ahead c.loop-index.invariant.counts
          c.in_ok-look.ensures.counts;
      passed = pass_more scene question level old next i node below is grows passed c.loop-index.invariant.passed;
    }

pub returns-clause-goes_on : goal.returns-clause-goes_on
returns-clause-goes_on g c = λ start l.
    let level = c.args.level.now.nodes.items in
    let next = c.loop-index.ahead.next.nodes.items in
    next_level c.args.scene.now c.args.question.now start level next c.loop-index.invariant.orders
    (subst (λ (z : List Node). AllOf (IsPassed c.args.scene.now c.args.question.now next) z)
    (take_all c.loop-index.index level (omega (arith, c.deref-node-items.ensures.len, c.args.level.now.nodes.ok.0)))
    c.loop-index.invariant.passed) l
