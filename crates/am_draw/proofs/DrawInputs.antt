-- What is drawn of a whole script that is read.
use Rattle.std.proofs.Common.{◌≡◌, ℕ, List, length, Option, Some, None, Result, Ok, Err, OnOk, IfOk, IfErr, IfNone, IfSome, refl, sym, ap, ◌∙◌, subst, inl, inr}
use Rattle.std.proofs.KnownBytes.{Appends-nil}
use Rattle.std.specs.Io.KnownBytes.{Consumes, IsAtEnd}
use Rattle.am_machine.specs.State.{State}
use Rattle.am_machine.specs.{Setup, setup_of, initial_state_of}
use Rattle.am_script.specs.{ScriptFault, ScriptFaultKind, Summary, lines_of, OpenedAs, NotOpened, IsReadFault, broken, played, Told, script_of}
use Rattle.am_script.specs.declared.visit.Opened.{Opened}
use Rattle.am_script.specs.Script.{Script}
use Rattle.am_views.proofs.WholeInputs.{was_read, head_stops, told_in}
use Rattle.am_draw.specs.{AllDrawn, DrawStops, DrawnFrom, DrawsFrom, DrawsInput, IsSizeOf, IsSizeOfScript, NotCounted, NothingEnds, NothingStops, Size, StopsDrawing}
use Rattle.am_draw.specs.HeadNegative.{LastFor}
use Rattle.am_world.specs.Capacity.{state_of}

-- ---- what was read

-- the script, played to its end, is one that was read to its end
whole_input : (first last : ℕ) → (ro rn wo wn : Option (List ℕ)) (text : List ℕ) (broke : Option ScriptFaultKind) (summary : Summary) → Consumes ro rn text → IfNone broke (IsAtEnd rn) → broken broke text ≡ None → DrawnFrom first last (script_of broke text).opening (script_of broke text).told wo wn summary → DrawsInput first last ro rn wo wn summary
whole_input first last ro rn wo wn text None summary read end whole drawn = record { text = text; read = read; ended = end; whole = drawn }
whole_input first last ro rn wo wn text (Some kind) summary read end whole drawn = absurd cc

-- the script, played to its end, is drawn
pub input_ok : (first last : ℕ) (ro rn wo wn : Option (List ℕ)) (text : List ℕ) (broke : Option ScriptFaultKind) (r : Result Summary ScriptFault) → Consumes ro rn text → IfNone broke (IsAtEnd rn) → DrawsFrom first last broke text wo wn r → IfOk r (DrawsInput first last ro rn wo wn)
input_ok first last ro rn wo wn text broke (Ok summary) read end h = whole_input first last ro rn wo wn text broke summary read end h.0 h.1
input_ok first last ro rn wo wn text broke (Err fault) read end h = tt

-- or it isn't drawn to its end
pub input_err : (first last : ℕ) (ro rn wo wn : Option (List ℕ)) (text : List ℕ) (broke : Option ScriptFaultKind) (r : Result Summary ScriptFault) → Consumes ro rn text → IfNone broke (IsAtEnd rn) → IfSome broke IsReadFault → DrawsFrom first last broke text wo wn r → IfErr r (StopsDrawing first last ro rn wo wn)
input_err first last ro rn wo wn text broke (Ok summary) read end kind h = tt
input_err first last ro rn wo wn text broke (Err fault) read end kind h = record {
  text = text;
  broke = broke;
  read = was_read ro rn text broke read end kind;
  stopped = h;
}

-- ---- a head that has no events behind it

pub from_nothing : (first last : ℕ) (wo wn : Option (List ℕ)) (text : List ℕ) (broke : Option ScriptFaultKind) (r : Result Summary ScriptFault) → OpenedAs (broken broke text) (script_of broke text) None → NothingEnds wo wn r → DrawsFrom first last broke text wo wn r
from_nothing first last wo wn text broke (Ok summary) h ends =
    (h.1, subst (λ (s : Script). DrawnFrom first last s.opening s.told wo wn summary) (sym h.0) ends)
from_nothing first last wo wn text broke (Err fault) h ends =
    inr (inl (subst (λ (s : Script). NothingStops s wo wn fault) (sym h.0) ends))

pub from_head : (first last : ℕ) (wo : Option (List ℕ)) (text : List ℕ) (broke : Option ScriptFaultKind) (fault : ScriptFault) → NotOpened (length (lines_of (played broke text))) (script_of broke text) fault → DrawsFrom first last broke text wo wo (Err fault)
from_head first last wo text broke fault h = inl (head_stops (length (lines_of (played broke text))) (script_of broke text) wo fault h)

-- memory ran out while its events were counted
pub from_count : (first last : ℕ) (wo : Option (List ℕ)) (text : List ℕ) (broke : Option ScriptFaultKind) (opened : Opened) (fault : ScriptFault) → OpenedAs (broken broke text) (script_of broke text) (Some opened) → NotCounted (told_in opened) fault → DrawsFrom first last broke text wo wo (Err fault)
from_count first last wo text broke opened fault h none = inr (inr (record {
  opening = setup_of (state_of opened.world);
  begins = h.opening;
  stops = inr (inr (inr (record {
    not_counted = subst (λ (t : Told). NotCounted t fault) (sym h.told) none;
    written = Appends-nil wo;
  })));
}))

-- ---- a head with its events

some_same : (a b : Setup) → Some a ≡ Some b → a ≡ b
some_same a b e = subst (λ (o : Option Setup). IfSome o (λ x. a ≡ x)) e refl

-- the events that were counted are those of the script
pub script_size : (text : List ℕ) (broke : Option ScriptFaultKind) (opened : Opened) (size : Size) → OpenedAs (broken broke text) (script_of broke text) (Some opened) → IsSizeOf (state_of opened.world) (told_in opened) size → IsSizeOfScript (script_of broke text) size
script_size text broke opened size h counted = λ opening e.
    let same : opening ≡ setup_of (state_of opened.world) = some_same opening (setup_of (state_of opened.world)) (sym e ∙ h.opening) in
    subst (λ (o : Setup). IsSizeOf (initial_state_of o) (script_of broke text).told size) (sym same)
    (subst (λ (s : State). IsSizeOf s (script_of broke text).told size) h.world
    (subst (λ (t : Told). IsSizeOf (state_of opened.world) t size) (sym h.told) counted))

-- and of the script that was opened once more
pub opened_size : (text : List ℕ) (broke : Option ScriptFaultKind) (opened : Opened) (size : Size) → OpenedAs (broken broke text) (script_of broke text) (Some opened) → IsSizeOfScript (script_of broke text) size → IsSizeOf (state_of opened.world) (told_in opened) size
opened_size text broke opened size h counted =
    subst (λ (t : Told). IsSizeOf (state_of opened.world) t size) h.told
    (subst (λ (s : State). IsSizeOf s (script_of broke text).told size) (sym h.world)
    (counted (setup_of (state_of opened.world)) h.opening))

all_from : (first last : ℕ) (opening : Option Setup) (told : Told) (opened : Opened) (wo wn : Option (List ℕ)) (summary : Summary) → opening ≡ Some (setup_of (state_of opened.world)) → state_of opened.world ≡ initial_state_of (setup_of (state_of opened.world)) → told ≡ told_in opened → AllDrawn first last (state_of opened.world) (told_in opened) wo wn summary → DrawnFrom first last opening told wo wn summary
all_from first last opening told opened wo wn summary e world f all =
    subst (λ (o : Option Setup). DrawnFrom first last o told wo wn summary) (sym e)
    (subst (λ (s : State). AllDrawn first last s told wo wn summary) world
    (subst (λ (t : Told). AllDrawn first last (state_of opened.world) t wo wn summary) (sym f) all))

pub from_opened : (first last : ℕ) (wo wn : Option (List ℕ)) (text : List ℕ) (broke : Option ScriptFaultKind) (opened : Opened) (r : Result Summary ScriptFault) → OpenedAs (broken broke text) (script_of broke text) (Some opened) → OnOk r (opened.broke ≡ None) → IfOk r (AllDrawn first last (state_of opened.world) (told_in opened) wo wn) → IfErr r (DrawStops first last (state_of opened.world) (told_in opened) wo wn) → DrawsFrom first last broke text wo wn r
from_opened first last wo wn text broke opened (Ok summary) h whole all stops =
    (sym h.cut ∙ whole, all_from first last (script_of broke text).opening (script_of broke text).told opened wo wn summary h.opening h.world h.told all)
from_opened first last wo wn text broke opened (Err fault) h whole all stops = inr (inr (record {
  opening = setup_of (state_of opened.world);
  begins = h.opening;
  stops =
      subst (λ (s : State). DrawStops first last s (script_of broke text).told wo wn fault) h.world
      (subst (λ (t : Told). DrawStops first last (state_of opened.world) t wo wn fault) (sym h.told) stops);
}))

-- ---- how long failures last

-- as the head of the script tells
pub opened_negative : (text : List ℕ) (broke : Option ScriptFaultKind) (opened : Opened) (negative : ℕ) → OpenedAs (broken broke text) (script_of broke text) (Some opened) → LastFor negative (script_of broke text) → (state_of opened.world).kernel.negative ≡ negative
opened_negative text broke opened negative h last =
    ap (λ (s : State). s.kernel.negative) h.world ∙ sym (last (setup_of (state_of opened.world)) h.opening)
