use Rattle.std.proofs.Common.{◌+◌, List, take, sym, subst, ◌∙◌}
use Rattle.std.proofs.lemmas.Bool.{false≢true}
use Rattle.std.proofs.lemmas.List.{take_all}
use Rattle.am_explore.specs.declared.choice.Choice.{Choice}
use Rattle.am_explore.specs.Levels.{AllOf, IsNoStep, LeadsTo, node_stand}
use Rattle.am_explore.specs.Orders.{IsIn}
use Rattle.am_explore.proofs.LevelLemmas.{counts_then, grows_then}
use Rattle.am_explore.proofs.ListLemmas.{AllOf_in, AllOf_more, AllOf_weaker, IsIn_at}
use Rattle.am_explore.proofs.search.look.Goals as goal
use Rattle.am_explore.proofs.search.look.Goals.{in-NoStep, in-Reached}

pub visit-requires-clause-chosen : goal.visit-requires-clause-chosen
visit-requires-clause-chosen c =
    subst (λ (z : List Choice). IsIn c.choice-item.result z)
    (c.deref-choice-items.ensures.value ∙ c.in_ok-choices.ensures)
    (IsIn_at c.deref-choice-items.result.now c.loop-choice.choice-index c.choice-item.result c.loop-choice-test.true
    c.choice-item.is)

pub loop-choice-preserved : goal.loop-choice-preserved
loop-choice-preserved c =
    let scene = c.args.scene.now in
    let node = c.args.node.now in
    let a = node_stand node in
    let choices = c.deref-choice-items.result.now in
    let i = c.loop-choice.choice-index in
    let choice = c.choice-item.result in
    let old = c.loop-choice.ahead.next.nodes.items in
    let next = c.visit.new.ahead.next.nodes.items in
    let before = c.loop-choice.invariant in
    let came = c.in_ok-visit.ensures in
    let led : LeadsTo scene a next choice → AllOf (LeadsTo scene a next) (take (i + 1) choices) = λ here.
    AllOf_more (LeadsTo scene a next) choices i choice c.loop-choice-test.true c.choice-item.is
    (AllOf_weaker (LeadsTo scene a old) (LeadsTo scene a next) (take i choices)
    (λ other leads answer b made. came.grows.likes b (leads answer b made)) before.leads) here in
    elim c.match-branch-3.branch [
      | in-NoStep w ↦
          let seen = rw w.in-NoStep.is at came.seen in
          record {
            grows = grows_then scene node c.args.ahead.now.next.nodes.items old next before.grows came.grows;
            counts = counts_then c.args.ahead.now c.loop-choice.ahead c.visit.new.ahead before.counts came.counts;
            leads = led (λ answer b made. absurd (seen answer b made));
            none = λ end. AllOf_more (IsNoStep scene a) choices i choice c.loop-choice-test.true c.choice-item.is
                (before.none (sym w.is_end-is ∙ end)) seen;
            some = λ on ends. before.some (sym w.is_end-is ∙ on) ends;
          }
      | in-Reached w ↦
          let seen = rw w.in-Reached.is at came.seen in
          record {
            grows = grows_then scene node c.args.ahead.now.next.nodes.items old next before.grows came.grows;
            counts = counts_then c.args.ahead.now c.loop-choice.ahead c.visit.new.ahead before.counts came.counts;
            leads = led seen.0;
            none = λ end. absurd (false≢true (sym w.is_end-is ∙ end));
            some = λ on ends. seen.1 ends;
          }
    ]

pub returns-then-is_end-clause-seen : goal.returns-then-is_end-clause-seen
returns-then-is_end-clause-seen c = λ choice answer b step.
    let scene = c.args.scene.now in
    let a = node_stand c.args.node.now in
    let choices = c.deref-choice-items.result.now in
    let all = subst (λ (z : List Choice). AllOf (IsNoStep scene a) z)
    (take_all c.loop-choice.choice-index choices c.loop-choice-test.false)
    (c.loop-choice.invariant.none c.if-is_end.true) in
    let chosen = subst (λ (z : List Choice). IsIn choice z)
    (sym (c.deref-choice-items.ensures.value ∙ c.in_ok-choices.ensures)) step.chosen in
    AllOf_in (IsNoStep scene a) choices choice chosen all answer b step.made

pub returns-clause-seen : goal.returns-clause-seen
returns-clause-seen c =
    let scene = c.args.scene.now in
    let a = node_stand c.args.node.now in
    let choices = c.deref-choice-items.result.now in
    let next = c.loop-choice.ahead.next.nodes.items in (
      λ choice answer b step.
          let all = subst (λ (z : List Choice). AllOf (LeadsTo scene a next) z)
          (take_all c.loop-choice.choice-index choices c.loop-choice-test.false) c.loop-choice.invariant.leads in
          let chosen = subst (λ (z : List Choice). IsIn choice z)
          (sym (c.deref-choice-items.ensures.value ∙ c.in_ok-choices.ensures)) step.chosen in
          AllOf_in (LeadsTo scene a next) choices choice chosen all answer b step.made,
      λ ends. c.loop-choice.invariant.some c.if-is_end.false ends,
    )
