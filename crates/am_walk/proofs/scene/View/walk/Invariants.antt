use Rattle.std.proofs.Common.{◌≡◌, length}
use Rattle.am_walk.specs.{visit_of, Stands}
use Rattle.am_walk.specs.View.{scene_in}
use Rattle.am_walk.proofs.WalkLemmas.{along}
use Rattle.am_walk.proofs.scene.View.walk.Given as goal

abbrev pub invariant-loop-name : goal.invariant-loop-name
invariant-loop-name l = along (scene_in l.self) l.rest (Stands l.at.mount l.at.place l.at.passed.items) ≡ visit_of (scene_in l.self) l.fn.ns l.fn.path

abbrev pub decreases-loop-name : goal.decreases-loop-name
decreases-loop-name l = length l.rest
