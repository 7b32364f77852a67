use Rattle.std.proofs.Common.{arith}
use Rattle.am_walk.specs.View.{scene_in}
use Rattle.am_walk.proofs.WalkLemmas.{rests, halts, enters, goes_past, ends}
use Rattle.am_walk.proofs.scene.View.settle.Goals.{in-Enters, in-Passes+in_ok-push-in-Passes}
use Rattle.am_walk.proofs.scene.View.settle.Goals as goal

pub returns-in-Rests : goal.returns-in-Rests
returns-in-Rests c = rests _ (scene_in c.args.self.now) _ _ _ _ c.loop-step.invariant (omega arith) c.in-Rests.ensures

pub returns-in-Halts : goal.returns-in-Halts
returns-in-Halts c = halts _ (scene_in c.args.self.now) _ _ _ c.in-Halts.stop _ c.loop-step.invariant (omega arith) c.in-Halts.ensures

pub loop-step-preserved : goal.loop-step-preserved
loop-step-preserved c =
    elim c.match-next_at.branch [ in-Enters w ↦ rw (w.at-is, c.root.ensures) (enters _ _ (scene_in c.args.self.now) _ _ _ w.in-Enters.mount _ c.loop-step.invariant (omega arith) w.in-Enters.ensures) | in-Passes+in_ok-push-in-Passes w ↦ rw (w.at-is, c.root.ensures, w.in_ok-push-in-Passes.ensures.items) (goes_past _ _ (scene_in c.args.self.now) _ _ _ w.in-Passes.mount w.in-Passes.trigger _ c.loop-step.invariant (omega arith) w.in-Passes.ensures) ]

pub returns : goal.returns
returns c = ends _ (scene_in c.args.self.now) _ _ _ _ c.loop-step.invariant (omega arith)
