-- The world after a whole script that is read.
use Rattle.std.proofs.Common.{◌≡◌, ℕ, List, length, Option, Some, None, Result, Ok, Err, OnOk, IfOk, IfErr, IfNone, IfSome, refl, sym, ◌∙◌, subst, inl, inr}
use Rattle.std.proofs.KnownBytes.{Appends-nil}
use Rattle.std.specs.Io.KnownBytes.{Consumes, IsAtEnd}
use Rattle.am_machine.specs.State.{State}
use Rattle.am_machine.specs.{Setup, setup_of, initial_state_of}
use Rattle.am_machine.proofs.Consistent.{initial_consistent, run_consistent}
use Rattle.am_script.specs.{ScriptFault, ScriptFaultKind, Summary, lines_of, OpenedAs, NotOpened, IsReadFault, broken, played, Told, events_in, script_of}
use Rattle.am_script.specs.declared.visit.Opened.{Opened}
use Rattle.am_script.specs.Script.{Script}
use Rattle.am_views.proofs.WholeInputs.{was_read, head_stops, told_in}
use Rattle.am_mountinfo.specs.{WorldShown, AllShown, ShowStops, ShownFrom, ShowsInput, StopsShowing}
use Rattle.am_mountinfo.proofs.Placed.{are_placed}
use Rattle.am_world.specs.Capacity.{state_of}

-- ---- what was read

-- the script, played to its end, is one that was read to its end
whole_input : (only : Option ℕ) (ro rn wo wn : Option (List ℕ)) (text : List ℕ) (broke : Option ScriptFaultKind) (summary : Summary) → Consumes ro rn text → IfNone broke (IsAtEnd rn) → broken broke text ≡ None → ShownFrom only (script_of broke text).opening (script_of broke text).told wo wn summary → ShowsInput only ro rn wo wn summary
whole_input only ro rn wo wn text None summary read end whole shown = record { text = text; read = read; ended = end; whole = shown }
whole_input only ro rn wo wn text (Some kind) summary read end whole shown = absurd cc

-- ---- a head that has no events behind it

pub shows_none : (only : Option ℕ) (ro rn wo : Option (List ℕ)) (text : List ℕ) (broke : Option ScriptFaultKind) → Consumes ro rn text → IfNone broke (IsAtEnd rn) → OpenedAs (broken broke text) (script_of broke text) None → ShowsInput only ro rn wo wo (record { lines = 0; refused = 0 })
shows_none only ro rn wo text broke read end h =
    whole_input only ro rn wo wo text broke (record { lines = 0; refused = 0 }) read end h.1 (subst (λ (s : Script). ShownFrom only s.opening s.told wo wo (record { lines = 0; refused = 0 })) (sym h.0) (record { no_fault = refl; written = Appends-nil wo; lines = refl; refused = refl }))

pub shows_head : (only : Option ℕ) (ro rn wo : Option (List ℕ)) (text : List ℕ) (broke : Option ScriptFaultKind) (fault : ScriptFault) → Consumes ro rn text → IfNone broke (IsAtEnd rn) → IfSome broke IsReadFault → NotOpened (length (lines_of (played broke text))) (script_of broke text) fault → StopsShowing only ro rn wo wo fault
shows_head only ro rn wo text broke fault read end kind h = record {
  text = text;
  broke = broke;
  read = was_read ro rn text broke read end kind;
  stopped = inl (head_stops (length (lines_of (played broke text))) (script_of broke text) wo fault h);
}

-- ---- a head with its events

-- a run from an initial world leaves each path below that of its parent
all_shown : (only : Option ℕ) (opening : Setup) (told : Told) (wo wn : Option (List ℕ)) (summary : Summary) → WorldShown only (initial_state_of opening) told wo wn summary → AllShown only opening told wo wn summary
all_shown only opening told wo wn summary shown =
    let whole = (run_consistent (initial_state_of opening) (events_in told.events) shown.played.answers shown.last shown.played.run (initial_consistent opening)).agreed.places.whole in record {
      shown = shown;
      placed = are_placed shown.last.kernel.table.rows whole.rising whole.older;
    }

all_from : (only : Option ℕ) (opening : Option Setup) (told : Told) (opened : Opened) (wo wn : Option (List ℕ)) (summary : Summary) → opening ≡ Some (setup_of (state_of opened.world)) → state_of opened.world ≡ initial_state_of (setup_of (state_of opened.world)) → told ≡ told_in opened → WorldShown only (state_of opened.world) (told_in opened) wo wn summary → ShownFrom only opening told wo wn summary
all_from only opening told opened wo wn summary e world f shown =
    subst (λ (o : Option Setup). ShownFrom only o told wo wn summary) (sym e)
    (all_shown only (setup_of (state_of opened.world)) told wo wn summary
    (subst (λ (s : State). WorldShown only s told wo wn summary) world
    (subst (λ (t : Told). WorldShown only (state_of opened.world) t wo wn summary) (sym f) shown)))

pub shows_opened : (only : Option ℕ) (ro rn wo wn : Option (List ℕ)) (text : List ℕ) (broke : Option ScriptFaultKind) (opened : Opened) (r : Result Summary ScriptFault) → Consumes ro rn text → IfNone broke (IsAtEnd rn) → OpenedAs (broken broke text) (script_of broke text) (Some opened) → OnOk r (opened.broke ≡ None) → IfOk r (WorldShown only (state_of opened.world) (told_in opened) wo wn) → IfOk r (ShowsInput only ro rn wo wn)
shows_opened only ro rn wo wn text broke opened (Err fault) read end h whole all = tt
shows_opened only ro rn wo wn text broke opened (Ok summary) read end h whole all =
    whole_input only ro rn wo wn text broke summary read end (sym h.cut ∙ whole) (all_from only (script_of broke text).opening (script_of broke text).told opened wo wn summary h.opening h.world h.told all)

pub stops_opened : (only : Option ℕ) (ro rn wo wn : Option (List ℕ)) (text : List ℕ) (broke : Option ScriptFaultKind) (opened : Opened) (r : Result Summary ScriptFault) → Consumes ro rn text → IfNone broke (IsAtEnd rn) → IfSome broke IsReadFault → OpenedAs (broken broke text) (script_of broke text) (Some opened) → IfErr r (ShowStops only (state_of opened.world) opened.line (told_in opened) wo wn) → IfErr r (StopsShowing only ro rn wo wn)
stops_opened only ro rn wo wn text broke opened (Ok summary) read end kind h stops = tt
stops_opened only ro rn wo wn text broke opened (Err fault) read end kind h stops = record {
  text = text;
  broke = broke;
  read = was_read ro rn text broke read end kind;
  stopped = inr (record {
    opening = setup_of (state_of opened.world);
    begins = h.opening;
    line = opened.line;
    line_is = h.line;
    stops =
        subst (λ (s : State). ShowStops only s opened.line (script_of broke text).told wo wn fault) h.world
        (subst (λ (t : Told). ShowStops only (state_of opened.world) opened.line t wo wn fault) (sym h.told) stops);
  });
}
