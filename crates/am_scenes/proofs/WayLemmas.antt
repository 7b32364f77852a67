-- The events of the way are made one after another.
use Rattle.std.proofs.Common.{◌≡◌, ◌⊎◌, ◌≤◌, ◌+◌, ℕ, Bool, true, false, List, [], ◌∷◌, length, cond, Option, Some, None}
use Rattle.std.proofs.Common.{Result, Ok, Err, refl, sym, ap, subst, ◌∙◌, inl, inr}
use Rattle.am_machine.specs.{Event}
use Rattle.am_machine.specs.State.{State}
use Rattle.am_script.specs.{LineReadAs, ScriptFaultKind, line_read}
use Rattle.am_script.specs.declared.fault.ScriptFaultKind.TheVariants as scripts
use Rattle.am_script.specs.Script.{events_in}
use Rattle.am_scenes.specs.{IsLed, SceneFault, SceneFaultKind, SceneSoFar, begins_scene, fault_at, kind_of_script}
use Rattle.am_scenes.specs.{nothing_said, scene_from, way_from}
use Rattle.am_scenes.specs.declared.fault.SceneFaultKind.TheVariants as kinds
use Rattle.am_scenes.specs.Reading.{Arrives, IsMade, LineLeads, LineStops, StopsIn, WayIsLeft}
use Rattle.am_scenes.specs.Way.{Way, only_scene, way_by}
use Rattle.am_scenes.proofs.SceneLemmas.{no_room}

-- ---- what leads where

no_event : (here : State) → IsLed here [] here
no_event here = record { answers = []; runs = refl; had = tt }

one_more : (here next end : State) (event : Event) (events : List Event) → IsMade here event next
    → IsLed next events end → IsLed here (event ∷ events) end
one_more here next end event events made led = record {
  answers = made.answer ∷ led.answers;
  runs = (next, made.seen, made.step, led.runs);
  had = (made.had, led.had);
}

-- nothing is taken yet
pub way_begins : (start : State) (all : Way) → WayIsLeft start all start all
way_begins start all = record { scene = refl; leads = λ end led. led }

line_led : (read : Result (Option Event) ScriptFaultKind) (number : ℕ) (start here next : State) (all left : Way)
    → WayIsLeft start all here (way_by read number left) → LineLeads here read next → WayIsLeft start all next left
line_led (Ok None) number start here next all left so leads = subst (λ (s : State). WayIsLeft start all s left)
    (sym leads) so
line_led (Ok (Some event)) number start here next all left so leads = record {
  scene = so.scene;
  leads = λ end led. so.leads end (one_more here next end event (events_in left.events) leads led);
}
line_led (Err kind) number start here next all left so leads = absurd leads

line_faulty : (read : Result (Option Event) ScriptFaultKind) (number : ℕ) (start here : State) (all left : Way)
    (kind : SceneFaultKind) → WayIsLeft start all here (way_by read number left) → LineStops read kind
    → (all.scene ≡ Err (fault_at number kind)) ⊎ (kind ≡ kinds.NoMemory)
line_faulty (Ok said) number start here all left kind so is = inr is
line_faulty (Err fault) number start here all left kind so (inl is) = inl
    (so.scene ∙ ap (λ (k : SceneFaultKind). Err (fault_at number k)) (sym is))
line_faulty (Err fault) number start here all left kind so (inr is) = inr is

-- ---- a line

-- the way of these lines goes on with the line of an event
way_on : (broke : Option ScriptFaultKind) (before : ℕ) (rest : List (List ℕ)) (line : List ℕ) (lines : List (List ℕ))
    → rest ≡ line ∷ lines → begins_scene line ≡ false →
    way_from broke before rest ≡ way_by (line_read line) (before + 1) (way_from broke (before + 1) lines)
way_on broke before rest line lines e b =
    ap (λ (r : List (List ℕ)). way_from broke before r) e
    ∙ ap (λ (b : Bool). cond b (only_scene (scene_from broke nothing_said before (line ∷ lines)))
    (way_by (line_read line) (before + 1) (way_from broke (before + 1) lines))) b

pub way_taken : (broke : Option ScriptFaultKind) (start here next : State) (all : Way) (before : ℕ)
    (rest : List (List ℕ)) (line : List ℕ) (lines : List (List ℕ)) →
    rest ≡ line ∷ lines → begins_scene line ≡ false → LineLeads here (line_read line) next
    → WayIsLeft start all here (way_from broke before rest)
    → WayIsLeft start all next (way_from broke (before + 1) lines)
way_taken broke start here next all before rest line lines e b leads so =
    line_led (line_read line) (before + 1) start here next all (way_from broke (before + 1) lines)
    (subst (WayIsLeft start all here) (way_on broke before rest line lines e b) so) leads

stops_by : (scene : Result SceneSoFar SceneFault) (first before : ℕ) (all rest : List (List ℕ)) (line : List ℕ)
    (lines : List (List ℕ)) (kind : SceneFaultKind) →
    rest ≡ line ∷ lines → first ≤ before → before + length rest ≡ first + length all
    → (scene ≡ Err (fault_at (before + 1) kind)) ⊎ (kind ≡ kinds.NoMemory)
    → StopsIn first all scene (fault_at (before + 1) kind)
stops_by scene first before all rest line lines kind e fits counted (inl is) = inl is
stops_by scene first before all rest line lines kind e fits counted (inr is) = inr
    (no_room first before all rest line lines kind e fits counted is)

pub way_stops : (broke : Option ScriptFaultKind) (start here : State) (way : Way) (first before : ℕ)
    (all rest : List (List ℕ)) (line : List ℕ) (lines : List (List ℕ)) (kind : SceneFaultKind) →
    rest ≡ line ∷ lines → begins_scene line ≡ false → first ≤ before → before + length rest ≡ first + length all
    → LineStops (line_read line) kind → WayIsLeft start way here (way_from broke before rest) →
    StopsIn first all way.scene (fault_at (before + 1) kind)
way_stops broke start here way first before all rest line lines kind e b fits counted stops so =
    stops_by way.scene first before all rest line lines kind e fits counted
    (line_faulty (line_read line) (before + 1) start here way (way_from broke (before + 1) lines) kind
    (subst (WayIsLeft start way here) (way_on broke before rest line lines e b) so) stops)

-- ---- the scene begins, or the lines end

arrived : (start here : State) (all : Way) (scene : Result SceneSoFar SceneFault)
    → WayIsLeft start all here (only_scene scene) → Arrives all start here scene
arrived start here all scene so = record { leads = so.leads here (no_event here); says = so.scene }

pub way_arrives : (broke : Option ScriptFaultKind) (start here : State) (all : Way) (before : ℕ) (rest : List (List ℕ))
    (line : List ℕ) (lines : List (List ℕ)) →
    rest ≡ line ∷ lines → begins_scene line ≡ true → WayIsLeft start all here (way_from broke before rest)
    → Arrives all start here (scene_from broke nothing_said before rest)
way_arrives broke start here all before rest line lines e b so =
    let there =
    ap (λ (r : List (List ℕ)). way_from broke before r) e
    ∙ ap (λ (b : Bool). cond b (only_scene (scene_from broke nothing_said before (line ∷ lines)))
    (way_by (line_read line) (before + 1) (way_from broke (before + 1) lines))) b
    ∙ sym (ap (λ (r : List (List ℕ)). only_scene (scene_from broke nothing_said before r)) e) in
    arrived start here all (scene_from broke nothing_said before rest) (subst (WayIsLeft start all here) there so)

pub way_ends : (broke : Option ScriptFaultKind) (start here : State) (all : Way) (before : ℕ) (rest : List (List ℕ))
    → rest ≡ [] → WayIsLeft start all here (way_from broke before rest)
    → Arrives all start here (scene_from broke nothing_said before [])
way_ends broke start here all before rest e so =
    arrived start here all (scene_from broke nothing_said before [])
    (subst (λ (r : List (List ℕ)). WayIsLeft start all here (way_from broke before r)) e so)

-- ---- one line is read

no_memory_stops : (said : Result (Option Event) ScriptFaultKind) → LineReadAs said (Err scripts.NoMemory)
    → LineStops said kinds.NoMemory
no_memory_stops (Ok None) h = refl
no_memory_stops (Ok (Some event)) h = refl
no_memory_stops (Err kind) h = absurd h

-- a line that is read as a fault has that, or there is no memory for its event
pub read_stops : (said : Result (Option Event) ScriptFaultKind) (kind : ScriptFaultKind) → LineReadAs said (Err kind)
    → LineStops said (kind_of_script kind)
read_stops said scripts.NoMemory h = no_memory_stops said h
read_stops said kind h = subst (λ (r : Result (Option Event) ScriptFaultKind). LineStops r (kind_of_script kind))
    (sym h) (inl refl)
