-- A session of which lines are read in pieces, each of which ends anywhere. For the code alone: own
-- choice.
use Rattle.std.specs.Prelude.{◌≡◌, ◌+◌, ℕ, Bool, true, false, List, [], ◌++◌, length, Option}
use Rattle.std.specs.Io.KnownBytes.{Appends}
use Rattle.am_script.specs.{EndsNoLine, ScriptFault, is_long, lines_of}
use Rattle.am_serve.specs.declared.held.Held.{Held}
use Rattle.am_serve.specs.declared.reading.Reading.{Reading}
use Rattle.am_serve.specs.declared.service.Service.{Service}
use Rattle.am_serve.specs.Keeping.{unserved}
use Rattle.am_serve.specs.Replies.{AreReplies, Loses, Sends}
use Rattle.am_serve.specs.Served.{AllReplied, LosesReply, sent_lines}

-- these bytes of a line are kept, or are too many
abbrev pub KeepsBytes : Bool → List ℕ → List ℕ → Type 0
KeepsBytes true kept bytes = is_long bytes ≡ true
KeepsBytes false kept bytes = kept ≡ bytes

abbrev pub IsHeld : Held → List ℕ → Type 0
IsHeld held bytes = KeepsBytes held.is_long held.bytes.items bytes

-- these bytes were read: whole lines, the replies to which are written, and the beginning of a line
pub record ReadingStands (reading : Reading) (text : List ℕ) (start now : Option (List ℕ)) : Type 0 where
  pub front : List (List ℕ)
  pub whole : List ℕ
  pub begun : List ℕ
  pub parts : text ≡ whole ++ begun
  pub splits : (rest : List ℕ) → lines_of (whole ++ rest) ≡ front ++ lines_of rest
  pub cut : EndsNoLine begun
  pub keeps : IsHeld reading.held begun
  pub number : reading.number ≡ length front
  pub replies : List ℕ
  pub replied : AreReplies unserved front reading.service replies
  pub written : Appends start now replies

-- ---- one line more

-- the reply to the line that is held is written, and another line begins
pub record AnswersHeld (old new : Reading) (held holds : Option (List ℕ)) : Type 0 where
  pub sends : (line : List ℕ) → IsHeld old.held line → Sends old.service line new.service held holds
  pub clear : IsHeld new.held []
  pub number : new.number ≡ old.number + 1

-- only a beginning of it is written
abbrev pub LosesHeld : Reading → Option (List ℕ) → Option (List ℕ) → ScriptFault → Type 0
LosesHeld old held holds fault =
    (line : List ℕ) → IsHeld old.held line
    → (new : Service) × Loses old.service line new (old.number + 1) held holds fault

-- ---- bytes

-- these bytes are taken, whatever was read before
abbrev pub TakesBytes : Reading → Reading → List ℕ → Option (List ℕ) → Option (List ℕ) → Type 0
TakesBytes old new bytes held holds =
    (text : List ℕ) → (start : Option (List ℕ)) → ReadingStands old text start held
    → ReadingStands new (text ++ bytes) start holds

-- a reply to a line that ends among these bytes is lost, whatever was read before
abbrev pub LosesAmong : Reading → List ℕ → Option (List ℕ) → Option (List ℕ) → ScriptFault → Type 0
LosesAmong old bytes held holds fault =
    (text : List ℕ) → (start : Option (List ℕ)) → ReadingStands old text start held
    → LosesReply (text ++ bytes) start holds fault

-- ---- no byte follows

-- all lines that were read are answered
abbrev pub EndsServed : Reading → Option (List ℕ) → Option (List ℕ) → Type 0
EndsServed reading held holds =
    (text : List ℕ) → (start : Option (List ℕ)) → ReadingStands reading text start held
    → AllReplied (sent_lines text) start holds

-- the reply to the last one is lost
abbrev pub LosesLast : Reading → Option (List ℕ) → Option (List ℕ) → ScriptFault → Type 0
LosesLast reading held holds fault =
    (text : List ℕ) → (start : Option (List ℕ)) → ReadingStands reading text start held
    → LosesReply text start holds fault
