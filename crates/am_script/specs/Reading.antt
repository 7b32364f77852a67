-- A script that is read in pieces, each of which ends anywhere. For the code
-- alone: own choice.
use Rattle.std.specs.Prelude.{◌≡◌, ◌≤◌, ℕ, List, ◌++◌, length, Option, None}
use Rattle.am_script.specs.declared.fault.ScriptFault.{ScriptFault}
use Rattle.am_script.specs.declared.reading.Reading.{Reading}
use Rattle.am_script.specs.Lines.{lines_of, EndsNoLine}
use Rattle.am_script.specs.declared.play.Summary.{Summary}
use Rattle.am_script.specs.Played.{IsPlayed, HaltsIn, Halts, BreaksOff}
use Rattle.am_script.specs.Script.{script_of}
use Rattle.am_script.specs.Playing.{PlayerStands}
use Rattle.am_script.specs.Forms.{Form}

-- these bytes were read: whole lines, which were played, and the beginning of a line, which is held
pub record ReadingStands (form : Form) (reading : Reading) (text : List ℕ) (start now : Option (List ℕ)) : Type 0 where
  pub front : List (List ℕ)
  pub whole : List ℕ
  pub parts : text ≡ whole ++ reading.held.items
  pub splits : (rest : List ℕ) → lines_of (whole ++ rest) ≡ front ++ lines_of rest
  pub cut : EndsNoLine reading.held.items
  pub short : length reading.held.items ≤ 8192
  pub stands : PlayerStands form reading.player front start now

-- these bytes are played, whatever was read before
abbrev pub TakesBytes : Form → Reading → Reading → List ℕ → Option (List ℕ) → Option (List ℕ) → Type 0
TakesBytes form old new bytes held holds =
    (text : List ℕ) → (start : Option (List ℕ)) → ReadingStands form old text start held
    → ReadingStands form new (text ++ bytes) start holds

-- the script stops among these bytes, whatever was read before
abbrev pub StopsInBytes : Form → Reading → List ℕ → Option (List ℕ) → Option (List ℕ) → ScriptFault → Type 0
StopsInBytes form old bytes held holds fault =
    (text : List ℕ) → (start : Option (List ℕ)) → ReadingStands form old text start held
    → Halts form (text ++ bytes) start holds fault

-- ---- no byte follows

-- the script that was read is played to its end
abbrev pub EndsRead : Form → Reading → Option (List ℕ) → Option (List ℕ) → Summary → Type 0
EndsRead form reading held holds summary =
    (text : List ℕ) → (start : Option (List ℕ)) → ReadingStands form reading text start held
    → IsPlayed form (script_of None text) start holds summary

-- it isn't
abbrev pub StopsRead : Form → Reading → Option (List ℕ) → Option (List ℕ) → ScriptFault → Type 0
StopsRead form reading held holds fault =
    (text : List ℕ) → (start : Option (List ℕ)) → ReadingStands form reading text start held
    → HaltsIn form (script_of None text) (length (lines_of text)) start holds fault

-- reading broke off within a line
abbrev pub BreaksRead : Form → Reading → Option (List ℕ) → Option (List ℕ) → ScriptFault → Type 0
BreaksRead form reading held holds fault =
    (text : List ℕ) → (start : Option (List ℕ)) → ReadingStands form reading text start held
    → BreaksOff form text start holds fault
