-- What is told below a fault of a scene: own choice (docs/FORMATS.md, "Below a fault").
use Rattle.std.specs.Prelude.{◌≡◌, ◌⊎◌, ℕ, false, List, [], ◌++◌, Option, None, Some}
use Rattle.am_recall.specs.Recall.{IsOf}
use Rattle.am_recall.specs.declared.recalled.Recalled.{Recalled}
use Rattle.am_script.specs.Lines.{lines_of}
use Rattle.am_script.specs.declared.fault.ScriptFaultKind.{ScriptFaultKind}
use Rattle.am_diagnosis.specs.Scripts.{lines_at}
use Rattle.am_scenes.specs.{SceneFault, SceneFaultKind}
use Rattle.am_scenes.specs.declared.fault.SceneFaultKind.TheVariants.{Script}
use Rattle.am_explain.specs.Excerpts.{place_text}
use Rattle.am_explain.specs.Help.{HelpsWith, first_line}
use Rattle.am_explain.specs.Notes.{note_of, note_text}
use Rattle.am_explain.specs.SceneExpectations.{scene_words}
use Rattle.am_explain.specs.SceneSlips.{IsSceneSlip}
use Rattle.am_explain.specs.declared.scene_expected.SceneSlip.{SceneSlip}

-- what is told of this slip below a fault that is told at the first of these lines, which has this
-- number
abbrev pub scene_slip_text : ℕ → List (List ℕ) → SceneSlip → List ℕ
scene_slip_text number lines slip =
    place_text (first_line lines) false slip.column (scene_words slip.expected)
    ++ note_text (note_of number lines false)

-- Told below a fault of a scene alone, the line of which is the first of these: nothing, or where that
-- line isn't as expected, and what was expected there.
abbrev pub IsSceneHelp : SceneFault → List (List ℕ) → List ℕ → Type 0
IsSceneHelp fault lines help =
    (help ≡ [])
    ⊎ ((slip : SceneSlip) × IsSceneSlip fault.kind lines (Some slip) × (help ≡ scene_slip_text fault.line lines slip))

-- the fault of a script that it is, if it is one
abbrev pub script_kind : SceneFaultKind → Option ScriptFaultKind
script_kind (Script kind) = Some kind
script_kind kind = None

-- told below a fault that a script has, too, as below a script's, and else as a scene's
abbrev pub HelpsBy : Option ScriptFaultKind → Recalled → SceneFault → List ℕ → Type 0
HelpsBy (Some kind) recalled fault help = HelpsWith recalled (record { line = fault.line; kind = kind }) help
HelpsBy None recalled fault help =
    (text : List ℕ) → IsOf recalled text → IsSceneHelp fault (lines_at fault.line (lines_of text)) help

-- told below a fault of the scene of which this is recalled
abbrev pub SceneHelpsWith : Recalled → SceneFault → List ℕ → Type 0
SceneHelpsWith recalled fault help = HelpsBy (script_kind fault.kind) recalled fault help
