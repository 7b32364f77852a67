-- What the first misfit of a line's words says of the lines that begin with them.
use Rattle.std.proofs.Common.{◌≡◌, ℕ, suc, ◌+◌, ◌<◌, ◌≤◌, Bool, true, false, cond, ◌||◌, List, [], ◌∷◌, ◌++◌, length, take, Some, None, refl, subst, arith}
use Rattle.std.specs.Prelude.{is_none}
use Rattle.std.specs.Prelude.{codes, bytes_eq}
use Rattle.std.specs.List.{list_all}
use Rattle.am_lines.specs.{begins_with}
use Rattle.am_master.specs.Timeout.{takes_next}
use Rattle.am_names.proofs.Basics.{left_of_and, right_of_and}
use Rattle.am_diagnosis.specs.declared.expected.Expected.{Expected}
use Rattle.am_diagnosis.specs.declared.expected.Expected.TheVariants.{Walker, Namespace, FileSystem, Token, Job, Attachment, Seconds, Moment, Path, Pipe, Expiry, Change, Outcome, Status, Name, Limit, Waits, Lasting, MapName, Map, MasterOption, Timeout, Entry, Location}
use Rattle.am_diagnosis.specs.declared.misfit.Misfit.{Misfit}
use Rattle.am_diagnosis.specs.Fits.{fits, may_end}
use Rattle.am_diagnosis.specs.Misfits.{Words, misfit_at, next_of, left_behind, misfit_of}

-- a word that may stand where this is expected, if one may
abbrev pub sample : Expected → List ℕ
sample Walker = codes "0"
sample Namespace = codes "0"
sample FileSystem = codes "0"
sample Token = codes "0"
sample Job = codes "0"
sample Attachment = codes "0"
sample Seconds = codes "0"
sample Moment = codes "0"
sample Path = codes "/"
sample Pipe = codes "room"
sample Expiry = codes "idle"
sample Change = codes "shared"
sample Outcome = codes "ok"
sample Status = codes "ready"
sample Name = codes "-"
sample Limit = codes "1"
sample Waits = codes "1"
sample Lasting = codes "0"
sample MapName = codes "a"
sample Map = codes "a"
sample Timeout = codes "0"
sample Entry = codes ":/"
sample Location = codes ":/"
sample expected = []

-- the line may end where this is expected, or some word may stand there
abbrev pub is_met : Expected → Bool
is_met expected = may_end expected || fits expected (sample expected)

-- some words are as the parameters say
pub record Completes (place : ℕ) (parameters : List Expected) : Type 0 where
  pub words : Words
  pub complete : misfit_of place parameters words ≡ None

completed_more : (place : ℕ) (e : Expected) (parameters : List Expected) → left_behind (sample e) (e ∷ parameters) ≡ parameters → is_met e ≡ true → Completes (place + 1) parameters → Completes place (e ∷ parameters)
completed_more place e parameters same met rest = go (may_end e) refl
  where
    go : (b : Bool) → may_end e ≡ b → Completes place (e ∷ parameters)
    go true m = record { words = []; complete = rw m refl }
    go false m =
        let fit : fits e (sample e) ≡ true = rw m at met in
        record { words = sample e ∷ rest.words; complete = rw (fit, same) rest.complete }

pub completed : (place : ℕ) (parameters : List Expected) → list_all is_met parameters ≡ true → Completes place parameters
completed place [] h = record { words = []; complete = refl }
completed place (Outcome ∷ others) h = record { words = codes "ok" ∷ []; complete = refl }
completed place (Entry ∷ others) h = record { words = codes ":/" ∷ []; complete = refl }
completed place (MasterOption ∷ others) h = record { words = []; complete = refl }
completed place (Timeout ∷ others) h = record { words = codes "0" ∷ []; complete = refl }
completed place (e ∷ others) h =
    completed_more place e others refl (left_of_and (is_met e) (list_all is_met others) h)
    (completed (place + 1) others (right_of_and (is_met e) (list_all is_met others) h))

left_met : (word : List ℕ) (parameters : List Expected) → list_all is_met parameters ≡ true → list_all is_met (left_behind word parameters) ≡ true
left_met word [] h = refl
left_met word (Outcome ∷ others) h = go (bytes_eq word (codes "ok"))
  where
    go : (b : Bool) → list_all is_met (cond b [] others) ≡ true
    go true = refl
    go false = right_of_and (is_met Outcome) (list_all is_met others) h
left_met word (Entry ∷ others) h = go (begins_with 45 word)
  where
    go : (b : Bool) → list_all is_met (cond b others []) ≡ true
    go true = right_of_and (is_met Entry) (list_all is_met others) h
    go false = refl
left_met word (MasterOption ∷ others) h = go (takes_next word)
  where
    go : (b : Bool) → list_all is_met (cond b (Timeout ∷ []) (MasterOption ∷ [])) ≡ true
    go true = refl
    go false = refl
left_met word (Timeout ∷ others) h = refl
left_met word (e ∷ others) h = right_of_and (is_met e) (list_all is_met others) h

-- ---- the first word alone

first_fits : (place : ℕ) (parameters : List Expected) (word : List ℕ) (words : Words) → misfit_of place parameters (word ∷ words) ≡ None → fits (next_of parameters) word ≡ true
first_fits place parameters word words e = go (fits (next_of parameters) word) refl
  where
    go : (b : Bool) → fits (next_of parameters) word ≡ b → fits (next_of parameters) word ≡ true
    go true f = f
    go false f = absurd (let e2 = rw f at e in cc)

line_ends : (place : ℕ) (parameters : List Expected) → misfit_of place parameters [] ≡ None → may_end (next_of parameters) ≡ true
line_ends place parameters e = go (may_end (next_of parameters)) refl
  where
    go : (b : Bool) → may_end (next_of parameters) ≡ b → may_end (next_of parameters) ≡ true
    go true m = m
    go false m = absurd (let e2 = rw m at e in cc)

-- where later words are not as the parameters say, neither are all
pub shut : (place : ℕ) (kinds : List Expected) (word : List ℕ) (words : Words) → is_none (misfit_of (place + 1) (left_behind word kinds) words) ≡ false → is_none (misfit_of place kinds (word ∷ words)) ≡ false
shut place kinds word words h = go (fits (next_of kinds) word)
  where
    go : (b : Bool) → is_none (cond b (misfit_of (place + 1) (left_behind word kinds) words) (Some (misfit_at place (next_of kinds)))) ≡ false
    go true = h
    go false = refl

-- ---- the misfit of all words

-- the misfit stands behind so many of these words
pub record Stops (place : ℕ) (parameters : List Expected) (words : Words) (m : Misfit) : Type 0 where
  pub behind : ℕ
  pub at : m.place ≡ place + behind
  pub within : behind ≤ length words
  pub rest : Words
  pub good : misfit_of place parameters (take behind words ++ rest) ≡ None
  pub bad : behind < length words → (rest : Words) → misfit_of place parameters (take (suc behind) words ++ rest) ≡ None → ⊥
  pub meets : (word : List ℕ) (rest : Words) → misfit_of place parameters (take behind words ++ word ∷ rest) ≡ None → fits m.expected word ≡ true
  pub makes : (word : List ℕ) → fits m.expected word ≡ true → (rest : Words) × (misfit_of place parameters (take behind words ++ word ∷ rest) ≡ None)
  pub ends : may_end m.expected ≡ true → misfit_of place parameters (take behind words) ≡ None
  pub ended : misfit_of place parameters (take behind words) ≡ None → may_end m.expected ≡ true

here : (place : ℕ) (parameters : List Expected) (words : Words) → list_all is_met parameters ≡ true → (0 < length words → (rest : Words) → misfit_of place parameters (take 1 words ++ rest) ≡ None → ⊥) → Stops place parameters words (misfit_at place (next_of parameters))
here place parameters words met bad =
    let c = completed place parameters met in
    record {
      behind = 0;
      at = omega arith;
      within = omega arith;
      rest = c.words;
      good = c.complete;
      bad = bad;
      meets = λ word rest e. first_fits place parameters word rest e;
      makes = λ word f. let d = completed (place + 1) (left_behind word parameters) (left_met word parameters met) in (d.words, rw f d.complete);
      ends = λ m. rw m refl;
      ended = λ e. line_ends place parameters e;
    }

later : (place : ℕ) (parameters : List Expected) (word : List ℕ) (words : Words) (m : Misfit) → fits (next_of parameters) word ≡ true → Stops (place + 1) (left_behind word parameters) words m → Stops place parameters (word ∷ words) m
later place parameters word words m fit s = record {
  behind = suc s.behind;
  at = omega arith;
  within = omega arith;
  rest = s.rest;
  good = rw fit s.good;
  bad = λ h rest e. s.bad (omega arith) rest (rw fit at e);
  meets = λ w rest e. s.meets w rest (rw fit at e);
  makes = λ w f. let d = s.makes w f in (d.0, rw fit d.1);
  ends = λ e. rw fit (s.ends e);
  ended = λ e. s.ended (rw fit at e);
}

pub stops : (place : ℕ) (parameters : List Expected) (words : Words) (m : Misfit) → list_all is_met parameters ≡ true → misfit_of place parameters words ≡ Some m → Stops place parameters words m
stops place parameters [] m met e = go (may_end (next_of parameters)) refl
  where
    go : (b : Bool) → may_end (next_of parameters) ≡ b → Stops place parameters [] m
    go true t = absurd (let e2 = rw t at e in cc)
    go false t =
        let e2 = rw t at e in
        let is : misfit_at place (next_of parameters) ≡ m = cc in
        subst (Stops place parameters []) is (here place parameters [] met (λ h rest g. omega arith))
stops place parameters (word ∷ words) m met e = go (fits (next_of parameters) word) refl (λ e2. stops (place + 1) (left_behind word parameters) words m (left_met word parameters met) e2)
  where
    go : (b : Bool) → fits (next_of parameters) word ≡ b → (misfit_of (place + 1) (left_behind word parameters) words ≡ Some m → Stops (place + 1) (left_behind word parameters) words m) → Stops place parameters (word ∷ words) m
    go true f rest = later place parameters word words m f (rest (rw f at e))
    go false f rest =
        let e2 = rw f at e in
        let is : misfit_at place (next_of parameters) ≡ m = cc in
        subst (Stops place parameters (word ∷ words)) is (here place parameters (word ∷ words) met (λ h others g. let t = first_fits place parameters word others g in cc))
