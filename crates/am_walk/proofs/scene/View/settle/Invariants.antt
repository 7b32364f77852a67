use Rattle.std.proofs.Common.{◌≡◌, ◌-◌}
use Rattle.am_walk.specs.{settled_within}
use Rattle.am_walk.specs.View.{scene_in, settled_at}
use Rattle.am_walk.proofs.scene.View.settle.Given as goal

abbrev pub invariant-loop-step : goal.invariant-loop-step
invariant-loop-step l =
    settled_within (l._step-end - l._step) (scene_in l.self) l.at.mount l.at.place l.at.passed.items ≡ settled_at (scene_in l.self) l.fn.at
