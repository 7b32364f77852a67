-- The lines of a scene are taken one after another.
use Rattle.std.proofs.Common.{◌≡◌, ◌≤◌, ◌+◌, ℕ, false, List, [], ◌∷◌, length, Option, Result, Ok, Err, refl, ap, ◌∙◌}
use Rattle.std.proofs.Common.{inl, inr, arith}
use Rattle.am_script.specs.{ScriptFaultKind}
use Rattle.am_script.specs.LineWords.{is_one}
use Rattle.am_scenes.specs.{SceneFault, SceneFaultKind, SceneSoFar, after_line, fault_at, scene_from}
use Rattle.am_scenes.specs.declared.fault.SceneFaultKind.TheVariants as kinds
use Rattle.am_scenes.specs.Reading.{NoRoomFrom, Stops, StopsIn}
use Rattle.am_scenes.specs.SceneLines.{goes_on, thread_begun}

-- behind `thread` there isn't one word
pub no_thread : (said : SceneSoFar) (number : ℕ) (words : List (List ℕ)) → is_one words ≡ false
    → thread_begun said number words ≡ Err kinds.BadThread
no_thread said number [] e = refl
no_thread said number (a ∷ []) e = absurd cc
no_thread said number (a ∷ b ∷ words) e = refl

-- the scene of these lines is that of those below, or the first line's fault
first_taken : (broke : Option ScriptFaultKind) (said : SceneSoFar) (before : ℕ) (rest : List (List ℕ)) (line : List ℕ)
    (lines : List (List ℕ)) (taken : Result SceneSoFar SceneFaultKind) →
    rest ≡ line ∷ lines → after_line said (before + 1) line ≡ taken
    → scene_from broke said before rest
    ≡ goes_on taken (before + 1) (λ next. scene_from broke next (before + 1) lines)
first_taken broke said before rest line lines taken e t =
    ap (λ (r : List (List ℕ)). scene_from broke said before r) e
    ∙ ap (λ (t : Result SceneSoFar SceneFaultKind). goes_on t (before + 1)
    (λ next. scene_from broke next (before + 1) lines)) t

pub line_taken : (broke : Option ScriptFaultKind) (all : Result SceneSoFar SceneFault) (said next : SceneSoFar)
    (before : ℕ) (rest : List (List ℕ)) (line : List ℕ) (lines : List (List ℕ)) →
    rest ≡ line ∷ lines → after_line said (before + 1) line ≡ Ok next → all ≡ scene_from broke said before rest
    → all ≡ scene_from broke next (before + 1) lines
line_taken broke all said next before rest line lines e t h = h
    ∙ first_taken broke said before rest line lines (Ok next) e t

-- memory ran out for the line behind so many, of those behind the first
pub no_room : (first before : ℕ) (all rest : List (List ℕ)) (line : List ℕ) (lines : List (List ℕ))
    (kind : SceneFaultKind) →
    rest ≡ line ∷ lines → first ≤ before → before + length rest ≡ first + length all → kind ≡ kinds.NoMemory
    → NoRoomFrom first (first + length all) (fault_at (before + 1) kind)
no_room first before all rest line lines kind e fits counted is = record {
  kind = is;
  behind = omega (arith, fits);
  within = omega (arith, ap length e, counted);
}

-- a line has a fault, or there is no memory for it
pub line_stops : (broke : Option ScriptFaultKind) (scene : Result SceneSoFar SceneFault) (said : SceneSoFar)
    (first before : ℕ) (all rest : List (List ℕ)) (line : List ℕ) (lines : List (List ℕ)) (kind : SceneFaultKind) →
    rest ≡ line ∷ lines → first ≤ before → before + length rest ≡ first + length all
    → scene ≡ scene_from broke said before rest → Stops (after_line said (before + 1) line) kind →
    StopsIn first all scene (fault_at (before + 1) kind)
line_stops broke scene said first before all rest line lines kind e fits counted h (inl t) = inl
    (h ∙ first_taken broke said before rest line lines (Err kind) e t)
line_stops broke scene said first before all rest line lines kind e fits counted h (inr is) = inr
    (no_room first before all rest line lines kind e fits counted is)
