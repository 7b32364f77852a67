-- The way to a scene: events, up to the first line of the scene. Own choice (docs/FORMATS.md,
-- "Scenes").
use Rattle.std.specs.Prelude.{ℕ, ◌+◌, Bool, false, ◌||◌, List, [], ◌∷◌, codes, bytes_eq, Option, None, Some, Result, Ok}
use Rattle.std.specs.Prelude.{Err, if◌then◌else◌}
use Rattle.am_lines.specs.{words_of}
use Rattle.am_machine.specs.{Event}
use Rattle.am_script.specs.{ScriptFaultKind}
use Rattle.am_script.specs.Script.{Numbered, line_read}
use Rattle.am_scenes.specs.declared.fault.SceneFault.{SceneFault}
use Rattle.am_scenes.specs.Faults.{fault_at, kind_of_script}
use Rattle.am_scenes.specs.SceneLines.{scene_ends, scene_from}
use Rattle.am_scenes.specs.SoFar.{SceneSoFar, nothing_said}

-- the events of the way, and the scene behind them, or the first fault of both
pub record Way : Type 0 where
  pub events : List Numbered
  pub scene : Result SceneSoFar SceneFault

-- a line of a scene, outside of threads, begins with one of these words
abbrev pub is_scene_word : List ℕ → Bool
is_scene_word word =
    bytes_eq word (codes "thread") || bytes_eq word (codes "serve")
    || bytes_eq word (codes "sometimes") || bytes_eq word (codes "never") || bytes_eq word (codes "always")

-- these are the words of such a line
abbrev pub are_scene_words : List (List ℕ) → Bool
are_scene_words [] = false
are_scene_words (word ∷ words) = is_scene_word word

-- the scene begins with this line
abbrev pub begins_scene : List ℕ → Bool
begins_scene line = are_scene_words (words_of line)

-- no event, and this scene or fault
abbrev pub only_scene : Result SceneSoFar SceneFault → Way
only_scene scene = record { events = []; scene = scene }

-- a line before others; nothing counts behind a fault
abbrev pub way_by : Result (Option Event) ScriptFaultKind → ℕ → Way → Way
way_by (Ok None) number way = way
way_by (Ok (Some event)) number way =
    record way { events = (record { line = number; event = event }) ∷ way.events }
way_by (Err kind) number way = only_scene (Err (fault_at number (kind_of_script kind)))

-- the way of these lines, behind so many, and the scene to which it leads
abbrev pub way_from : Option ScriptFaultKind → ℕ → List (List ℕ) → Way
way_from broke before [] = only_scene (scene_ends broke nothing_said before)
way_from broke before (line ∷ lines) =
    if begins_scene line then only_scene (scene_from broke nothing_said before (line ∷ lines))
    else way_by (line_read line) (before + 1) (way_from broke (before + 1) lines)
