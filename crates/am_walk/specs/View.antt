-- What the code's values stand for.
use Rattle.std.specs.Prelude.{Option, Some, None}
use Rattle.am_names.specs.declared.fail_no.FailNo.{FailNo}
use Rattle.am_names.specs.declared.trigger.Trigger.{Trigger}
use Rattle.am_trigger.specs.{Lasting, failing}
use Rattle.am_walk.specs.declared.scene.View.{View}
use Rattle.am_walk.specs.declared.follow.Walking.{Walking}
use Rattle.am_walk.specs.declared.stop.Stop.{Stop}
use Rattle.am_walk.specs.declared.stop.Walk.{Walk}
use Rattle.am_walk.specs.Scene.{Scene}
use Rattle.am_walk.specs.Walks.{Visit, Stands, Stops, Walked, settled}
use Rattle.std.specs.Option.{option_map}

-- what lasts of the failures; none does where the mount traps are off
abbrev pub failing_in : Option Lasting → Trigger → Option FailNo
failing_in None = λ trigger. None
failing_in (Some l) = failing l.moment l.negative l.failures.now.rows

-- what the references stand for
abbrev pub scene_in : View → Scene
scene_in v = record {
  mounts = v.tree.now;
  triggers = v.triggers.now.rows;
  tokens = option_map (λ waits. waits.now.tokens) v.waits;
  failing = failing_in v.lasting;
}

-- how a walk ended, and what it passed
abbrev pub walked_of : Walk → Walked
walked_of walk = record { stop = walk.stop; passed = walk.passed.items }

-- where a walk stands that has not stopped, or how it has
abbrev pub left_of : Option Stop → Walking → Visit
left_of None walking = Stands walking.mount walking.place walking.passed.items
left_of (Some stop) walking = Stops stop walking.passed.items

-- where it comes to rest, or stops
abbrev pub settled_at : Scene → Walking → Visit
settled_at scene walking = settled scene walking.mount walking.place walking.passed.items
