-- The whole text of a scene: its head, its way and its lines.
use Rattle.std.proofs.Common.{◌≡◌, ℕ, List, drop, Option, Some, Result, Ok, Err, IfOk, refl, sym, ap, subst, ◌∙◌}
use Rattle.am_machine.specs.{Setup, setup_of}
use Rattle.am_machine.specs.State.{State}
use Rattle.am_script.specs.{IsOpened, OpenedAs, ScriptFaultKind, broken, lines_of, played, script_of}
use Rattle.am_script.specs.Script.{Script, events_in}
use Rattle.am_script.specs.declared.visit.Opened.{Opened}
use Rattle.am_world.specs.Capacity.{state_of}
use Rattle.am_scenes.specs.{IsLed, IsScene, SceneFault, SceneSoFar, Told, scene_of, so_far_of, way_from}
use Rattle.am_scenes.specs.Reading.{Arrives}
use Rattle.am_scenes.specs.SceneText.{SceneText, behind_head, scene_by}

-- ---- behind the head

-- the scene of a script that is opened
abbrev opened_scene : Opened → List (List ℕ) → SceneText
opened_scene opened lines = record {
  opening = Some (setup_of (state_of opened.world));
  way = way_from opened.broke opened.line (drop opened.line lines);
}

scene_opened : (broke : Option ScriptFaultKind) (script : Script) (opened : Opened) (lines : List (List ℕ))
    → IsOpened broke script opened → scene_by script broke lines ≡ opened_scene opened lines
scene_opened broke script opened lines so =
    ap (λ (o : Option Setup). behind_head o script.events_at script.told.fault broke lines) so.opening
    ∙ ap (λ (n : Option ℕ). behind_head (Some (setup_of (state_of opened.world))) n script.told.fault broke lines)
    so.line
    ∙ ap (λ (b : Option ScriptFaultKind). behind_head (Some (setup_of (state_of opened.world))) (Some opened.line)
    script.told.fault b lines) (sym so.cut)

pub is_scene : (broke : Option ScriptFaultKind) (script : Script) (opened : Opened) (lines : List (List ℕ))
    (told : Told) → IsOpened broke script opened →
    Arrives (way_from opened.broke opened.line (drop opened.line lines)) (state_of opened.world) (state_of told.world)
    (Ok (so_far_of told)) → IsScene (scene_by script broke lines) told
is_scene broke script opened lines told so arrives =
    let same = scene_opened broke script opened lines so in
    subst (λ (s : SceneText). IsScene s told) (sym same) (record {
      opening = setup_of (state_of opened.world);
      opens = refl;
      leads = subst
          (λ (s : State). IsLed s (events_in (way_from opened.broke opened.line (drop opened.line lines)).events)
          (state_of told.world)) so.world arrives.leads;
      scene = arrives.says;
    })

-- the scene behind the head of the whole lines is that of the text
pub ok_scene : (broke : Option ScriptFaultKind) (text whole : List ℕ) (opened : Opened) (found : Option Opened)
    (r : Result Told SceneFault) → found ≡ Some opened → whole ≡ played broke text
    → OpenedAs (broken broke text) (script_of broke text) found →
    IfOk r (λ told. Arrives (way_from opened.broke opened.line (drop opened.line (lines_of whole)))
    (state_of opened.world) (state_of told.world) (Ok (so_far_of told))) → IfOk r (IsScene (scene_of broke text))
ok_scene broke text whole opened found (Err fault) e w so arrives = tt
ok_scene broke text whole opened found (Ok told) e w so arrives =
    is_scene (broken broke text) (script_of broke text) opened (lines_of (played broke text)) told
    (subst (OpenedAs (broken broke text) (script_of broke text)) e so)
    (subst (λ (t : List ℕ). Arrives (way_from opened.broke opened.line (drop opened.line (lines_of t)))
    (state_of opened.world) (state_of told.world) (Ok (so_far_of told))) w arrives)

-- what is gathered is told
pub told_arrives : (broke : Option ScriptFaultKind) (before : ℕ) (rest lines : List (List ℕ)) (start here end : State)
    (said told : SceneSoFar) → rest ≡ lines → end ≡ here → told ≡ said →
    Arrives (way_from broke before rest) start here (Ok said)
    → Arrives (way_from broke before lines) start end (Ok told)
told_arrives broke before rest lines start here end said told e f g arrives =
    subst (λ (l : List (List ℕ)). Arrives (way_from broke before l) start end (Ok told)) e
    (subst (λ (s : State). Arrives (way_from broke before rest) start s (Ok told)) (sym f)
    (subst (λ (t : SceneSoFar). Arrives (way_from broke before rest) start here (Ok t)) (sym g) arrives))
