-- What comes of the reading of a scene: own choice (docs/FORMATS.md, "Scenes").
use Rattle.std.specs.Prelude.{◌≡◌, ◌⊎◌, ◌≤◌, ◌<◌, ℕ, ◌+◌, false, List, length, Option, None, Some, Result, Ok, Err}
use Rattle.std.specs.Prelude.{map, option_copied}
use Rattle.am_machine.specs.{Answer, Event, Setup, Step, initial_state_of}
use Rattle.am_machine.specs.State.{State}
use Rattle.am_state.specs.{Obs}
use Rattle.am_script.specs.{ScriptFaultKind, lines_in}
use Rattle.am_script.specs.Script.{events_in}
use Rattle.am_world.specs.Capacity.{state_of}
use Rattle.am_explore.specs.Answers.{is_no_memory}
use Rattle.am_scenes.specs.declared.fault.SceneFault.{SceneFault}
use Rattle.am_scenes.specs.declared.fault.SceneFaultKind.{SceneFaultKind}
use Rattle.am_scenes.specs.declared.fault.SceneFaultKind.TheVariants.{NoMemory}
use Rattle.am_scenes.specs.declared.told.Told.{Told}
use Rattle.am_scenes.specs.declared.way.Arrival.{Arrival}
use Rattle.am_scenes.specs.Asking.{asked_line}
use Rattle.am_scenes.specs.Faults.{kind_of_script}
use Rattle.am_scenes.specs.Leading.{IsLed}
use Rattle.am_scenes.specs.SceneLines.{scene_from}
use Rattle.am_scenes.specs.SceneText.{SceneText}
use Rattle.am_scenes.specs.SoFar.{SceneSoFar, nothing_said}
use Rattle.am_scenes.specs.View.{results_in}
use Rattle.am_scenes.specs.Way.{Way, way_from}

-- ---- the whole text

-- what is told of a scene, as its lines say it
abbrev pub so_far_of : Told → SceneSoFar
so_far_of told = record {
  names = told.names.items;
  threads = told.scene.threads.items;
  within = None;
  service = results_in told.scene.daemon;
  asked = map asked_line told.asked.items;
}

-- the text says this scene, and its events lead from the script's initial world to this world
pub record IsScene (said : SceneText) (told : Told) : Type 0 where
  pub opening : Setup
  pub opens : said.opening ≡ Some opening
  pub leads : IsLed (initial_state_of opening) (events_in said.way.events) (state_of told.world)
  pub scene : said.way.scene ≡ Ok (so_far_of told)

-- memory ran out, which is told at one of so many lines
pub record NoRoom (lines : ℕ) (fault : SceneFault) : Type 0 where
  pub kind : fault.kind ≡ NoMemory
  pub first : 1 ≤ fault.line
  pub last : fault.line ≤ lines

-- the text, of so many lines, has this fault before any other, or memory ran out
abbrev pub NoScene : ℕ → SceneText → SceneFault → Type 0
NoScene lines said fault = (said.way.scene ≡ Err fault) ⊎ NoRoom lines fault

-- ---- a line

-- what is said has this fault, or memory ran out
abbrev pub Stops : {T : Type 0} → Result T SceneFaultKind → SceneFaultKind → Type 0
Stops said kind = (said ≡ Err kind) ⊎ (kind ≡ NoMemory)

-- the event comes, and memory doesn't run out for it
pub record IsMade (old : State) (event : Event) (new : State) : Type 0 where
  pub answer : Answer
  pub seen : List Obs
  pub step : Step old event answer seen new
  pub had : is_no_memory answer ≡ false

-- what a line of the way says is done
abbrev pub LineLeads : State → Result (Option Event) ScriptFaultKind → State → Type 0
LineLeads old (Ok None) new = new ≡ old
LineLeads old (Ok (Some event)) new = IsMade old event new
LineLeads old (Err kind) new = ⊥

-- a line of the way says this fault, or memory ran out
abbrev pub LineStops : Result (Option Event) ScriptFaultKind → SceneFaultKind → Type 0
LineStops (Ok said) kind = kind ≡ NoMemory
LineStops (Err fault) kind = (kind ≡ kind_of_script fault) ⊎ (kind ≡ NoMemory)

-- ---- lines that are left

-- memory ran out at one of the lines behind so many, up to this one
pub record NoRoomFrom (before last : ℕ) (fault : SceneFault) : Type 0 where
  pub kind : fault.kind ≡ NoMemory
  pub behind : before < fault.line
  pub within : fault.line ≤ last

-- the scene of these lines has this fault, or memory ran out at one of them
abbrev pub StopsIn : ℕ → List (List ℕ) → Result SceneSoFar SceneFault → SceneFault → Type 0
StopsIn before lines said fault = (said ≡ Err fault) ⊎ NoRoomFrom before (before + length lines) fault

-- what all events of the way lead to, wherever those lead that are left
pub record WayIsLeft (start : State) (all : Way) (here : State) (left : Way) : Type 0 where
  pub scene : all.scene ≡ left.scene
  pub leads : (end : State) → IsLed here (events_in left.events) end → IsLed start (events_in all.events) end

-- the events lead to the first line of the scene
pub record Arrives (way : Way) (start end : State) (scene : Result SceneSoFar SceneFault) : Type 0 where
  pub leads : IsLed start (events_in way.events) end
  pub says : way.scene ≡ scene

-- of these lines, behind so many, the way is taken, and the scene's are left
pub record HasArrived (start : State) (before : ℕ) (lines : List (List ℕ)) (end : State) (arrival : Arrival) : Type
    0 where
  pub arrives :
      (broke : Option ScriptFaultKind) → Arrives (way_from broke before lines) start end
      (scene_from broke nothing_said arrival.line (lines_in (option_copied arrival.rest)))
  pub counted : arrival.line + length (lines_in (option_copied arrival.rest)) ≡ before + length lines
  pub behind : before ≤ arrival.line
