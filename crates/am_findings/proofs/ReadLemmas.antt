-- What was read, and what comes of it.
use Rattle.std.proofs.Common.{◌≡◌, ℕ, ◌+◌, Bool, true, false, List, [], ◌∷◌, drop, length, cond, Option, Some, None}
use Rattle.std.proofs.Common.{Result}
use Rattle.std.proofs.Common.{Ok, Err, IfOk, IfErr, IfNone, IfSome, refl}
use Rattle.std.specs.Io.KnownBytes.{Consumes, IsAtEnd}
use Rattle.am_machine.specs.{Event, Setup}
use Rattle.am_script.specs.{IsReadFault, ScriptFault, ScriptFaultKind, line_read, lines_of, played, script_of}
use Rattle.am_script.specs.Read.{cut_kind, cut_line}
use Rattle.am_scenes.specs.{IsScene, NoScene, SceneFault, SceneFaultKind, SceneSoFar, Told, after_line, begins_scene}
use Rattle.am_scenes.specs.{nothing_said, scene_from, scene_of, so_far_of, way_from}
use Rattle.am_scenes.specs.SceneLines.{goes_on}
use Rattle.am_scenes.specs.SceneText.{behind_head}
use Rattle.am_scenes.specs.Way.{Way, only_scene, way_by}
use Rattle.am_views.proofs.WholeInputs.{was_read}
use Rattle.am_findings.specs.{ExploreFault, ExploresInput, StopsExploring, Verdict}
use Rattle.am_findings.specs.Explored.{IsNoScene, IsNotWritten, IsWritten, Reads}
use Rattle.am_findings.specs.declared.explore.ExploreFault.TheVariants as faults

-- ---- where reading broke off there is no scene

goes_on_not : (next : Result SceneSoFar SceneFaultKind) (number : ℕ) (below : SceneSoFar → Result SceneSoFar SceneFault)
    (so : SceneSoFar) → ((said : SceneSoFar) → below said ≡ Ok so → ⊥) → goes_on next number below ≡ Ok so → ⊥
goes_on_not (Ok said) number below so never e = never said e
goes_on_not (Err kind) number below so never e = absurd cc

scene_broken : (kind : ScriptFaultKind) (said : SceneSoFar) (before : ℕ) (lines : List (List ℕ)) (so : SceneSoFar)
    → scene_from (Some kind) said before lines ≡ Ok so → ⊥
scene_broken kind said before [] so e = absurd cc
scene_broken kind said before (line ∷ lines) so e =
    goes_on_not (after_line said (before + 1) line) (before + 1)
    (λ next. scene_from (Some kind) next (before + 1) lines) so
    (λ next. scene_broken kind next (before + 1) lines so) e

line_not : (read : Result (Option Event) ScriptFaultKind) (number : ℕ) (way : Way) (so : SceneSoFar)
    → (way.scene ≡ Ok so → ⊥) → (way_by read number way).scene ≡ Ok so → ⊥
line_not (Ok None) number way so never e = never e
line_not (Ok (Some event)) number way so never e = never e
line_not (Err kind) number way so never e = absurd cc

either_not : (b : Bool) (one other : Way) (so : SceneSoFar) → (one.scene ≡ Ok so → ⊥) → (other.scene ≡ Ok so → ⊥)
    → (cond b one other).scene ≡ Ok so → ⊥
either_not true one other so never nor e = never e
either_not false one other so never nor e = nor e

way_broken : (kind : ScriptFaultKind) (before : ℕ) (lines : List (List ℕ)) (so : SceneSoFar)
    → (way_from (Some kind) before lines).scene ≡ Ok so → ⊥
way_broken kind before [] so e = absurd cc
way_broken kind before (line ∷ lines) so e =
    either_not (begins_scene line) (only_scene (scene_from (Some kind) nothing_said before (line ∷ lines)))
    (way_by (line_read line) (before + 1) (way_from (Some kind) (before + 1) lines)) so
    (scene_broken kind nothing_said before (line ∷ lines) so)
    (line_not (line_read line) (before + 1) (way_from (Some kind) (before + 1) lines) so
    (way_broken kind (before + 1) lines so))
    e

head_broken : (opening : Option Setup) (number : Option ℕ) (fault : Option ScriptFault) (kind : ScriptFaultKind)
    (lines : List (List ℕ)) (so : SceneSoFar) → (behind_head opening number fault (Some kind) lines).way.scene ≡ Ok so
    → ⊥
head_broken (Some opening) (Some number) fault kind lines so e = way_broken kind number (drop number lines) so e
head_broken (Some opening) None fault kind lines so e = absurd cc
head_broken None number fault kind lines so e = absurd cc

broken_scene : (kind : ScriptFaultKind) (text : List ℕ) (told : Told) → IsScene (scene_of (Some kind) text) told → ⊥
broken_scene kind text told is =
    let script = script_of (Some kind) text in
    head_broken script.opening script.events_at script.told.fault (cut_kind (cut_line text) kind)
    (lines_of (played (Some kind) text)) (so_far_of told) is.scene

-- ---- what was read

pub reads_scene : (input rest : Option (List ℕ)) (text : List ℕ) (broke : Option ScriptFaultKind) (told : Told)
    → Consumes input rest text → IfNone broke (IsAtEnd rest) → IsScene (scene_of broke text) told
    → Reads input rest told
reads_scene input rest text None told read end scene = record { text = text; read = read; ended = end; scene = scene }
reads_scene input rest text (Some kind) told read end scene = absurd (broken_scene kind text told scene)

pub explores : (most : ℕ) (prefix : List ℕ) (input rest old new : Option (List ℕ)) (told : Told) (r : Result Verdict ExploreFault)
    → Reads input rest told → IfOk r (IsWritten told prefix most old new) → IfOk r (ExploresInput most prefix input rest old new)
explores most prefix input rest old new told (Ok verdict) reads is = record { told = told; reads = reads; written = is }
explores most prefix input rest old new told (Err fault) reads is = tt

untold : (most : ℕ) (prefix : List ℕ) (input rest old new : Option (List ℕ)) (told : Told) (fault : ExploreFault) → Reads input rest told
    → IsNotWritten told prefix most old new fault → StopsExploring most prefix input rest old new fault
untold most prefix input rest old new told (faults.Scene fault) reads is = absurd is
untold most prefix input rest old new told (faults.NoSuchChoice place) reads is = record {
  told = told;
  reads = reads;
  unwritten = is;
}
untold most prefix input rest old new told faults.NoMemory reads is = record { told = told; reads = reads; unwritten = is }
untold most prefix input rest old new told faults.WriteFailed reads is = record { told = told; reads = reads; unwritten = is }

pub stops : (most : ℕ) (prefix : List ℕ) (input rest old new : Option (List ℕ)) (told : Told) (r : Result Verdict ExploreFault)
    → Reads input rest told → IfErr r (IsNotWritten told prefix most old new)
    → IfErr r (StopsExploring most prefix input rest old new)
stops most prefix input rest old new told (Ok verdict) reads is = tt
stops most prefix input rest old new told (Err fault) reads is = untold most prefix input rest old new told fault reads is

pub no_scene : (input rest old : Option (List ℕ)) (text : List ℕ) (broke : Option ScriptFaultKind) (fault : SceneFault)
    → Consumes input rest text → IfNone broke (IsAtEnd rest) → IfSome broke IsReadFault
    → NoScene (length (lines_of (played broke text))) (scene_of broke text) fault → IsNoScene input rest old old fault
no_scene input rest old text broke fault read end kind bad = record {
  text = text;
  broke = broke;
  read = was_read input rest text broke read end kind;
  bad = bad;
  unwritten = refl;
}
