-- What the whole text of a scene says: the opening of its world, the events that lead to the scene,
-- and the scene, or the first fault. Own choice (docs/FORMATS.md, "Scenes").
use Rattle.std.specs.Prelude.{ℕ, List, length, drop, Option, None, Some, Err}
use Rattle.am_machine.specs.{Setup}
use Rattle.am_script.specs.{ScriptFault, ScriptFaultKind, broken, lines_of, played, script_of}
use Rattle.am_script.specs.Script.{Script}
use Rattle.am_scenes.specs.declared.fault.SceneFault.{SceneFault}
use Rattle.am_scenes.specs.declared.fault.SceneFaultKind.TheVariants.{NoEvents}
use Rattle.am_scenes.specs.Faults.{fault_at, fault_of_script}
use Rattle.am_scenes.specs.Way.{Way, only_scene, way_from}

-- the opening is there if the head is whole and faultless, as a script's
pub record SceneText : Type 0 where
  pub opening : Option Setup
  pub way : Way

-- the head has this fault, or it is all, of so many lines
abbrev pub head_fault : Option ScriptFault → ℕ → SceneFault
head_fault (Some fault) lines = fault_of_script fault
head_fault None lines = fault_at lines NoEvents

-- there is no world, for this fault
abbrev pub no_world : SceneFault → SceneText
no_world fault = record { opening = None; way = only_scene (Err fault) }

-- the way begins behind the line `events`
abbrev pub behind_head : Option Setup → Option ℕ → Option ScriptFault → Option ScriptFaultKind → List (List ℕ)
    → SceneText
behind_head (Some opening) (Some number) fault broke lines =
    record { opening = Some opening; way = way_from broke number (drop number lines) }
behind_head opening number fault broke lines = no_world (head_fault fault (length lines))

-- the scene of these lines, whose head is that of this script
abbrev pub scene_by : Script → Option ScriptFaultKind → List (List ℕ) → SceneText
scene_by script broke lines = behind_head script.opening script.events_at script.told.fault broke lines

-- what was read of a scene, up to its end or to where reading broke off
abbrev pub scene_of : Option ScriptFaultKind → List ℕ → SceneText
scene_of broke text = scene_by (script_of broke text) (broken broke text) (lines_of (played broke text))
