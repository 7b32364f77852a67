-- The lines that a reader gives, and the replies that a writer takes: own choice (docs/FORMATS.md,
-- "Sessions").
use Rattle.std.specs.Prelude.{◌≡◌, ◌⊎◌, ℕ, ◌+◌, List, [], ◌∷◌, ◌++◌, length, Option}
use Rattle.std.specs.Io.KnownBytes.{Appends, Consumes, IsAtEnd}
use Rattle.am_mountinfo.specs.{IsCut}
use Rattle.am_script.specs.{ScriptFault, fault_at, lines_of}
use Rattle.am_script.specs.declared.fault.ScriptFaultKind.TheVariants.{ReadFailed}
use Rattle.am_serve.specs.declared.service.Service.{Service}
use Rattle.am_serve.specs.Keeping.{unserved}
use Rattle.am_serve.specs.Replies.{AreReplies, IsReply}

-- all of these but the last
abbrev pub before_last : List (List ℕ) → List (List ℕ)
before_last [] = []
before_last (line ∷ []) = []
before_last (line ∷ next ∷ lines) = line ∷ before_last (next ∷ lines)

-- a line, unless it has no byte
abbrev pub unless_empty : List ℕ → List (List ℕ)
unless_empty [] = []
unless_empty (b ∷ line) = (b ∷ line) ∷ []

-- all of these, but the last only if it has a byte
abbrev pub with_last : List (List ℕ) → List (List ℕ)
with_last [] = []
with_last (line ∷ []) = unless_empty line
with_last (line ∷ next ∷ lines) = line ∷ with_last (next ∷ lines)

-- the lines of a text that a line feed ends
abbrev pub ended_lines : List ℕ → List (List ℕ)
ended_lines text = before_last (lines_of text)

-- and what stands behind the last line feed, if that is something
abbrev pub sent_lines : List ℕ → List (List ℕ)
sent_lines text = with_last (lines_of text)

-- the replies to these lines, of a session of which no line was taken before, are written
pub record AllReplied (lines : List (List ℕ)) (old new : Option (List ℕ)) : Type 0 where
  pub last : Service
  pub text : List ℕ
  pub replies : AreReplies unserved lines last text
  pub written : Appends old new text

-- the input was read to its end, and the replies to its lines are written
pub record ServesInput (input rest old new : Option (List ℕ)) : Type 0 where
  pub text : List ℕ
  pub read : Consumes input rest text
  pub ended : IsAtEnd rest
  pub replied : AllReplied (sent_lines text) old new

-- ---- it isn't served to its end

-- the reader failed, or was asked too often: that is told at the line behind those that were read
-- whole, the replies to which are written
pub record BreaksOff (text : List ℕ) (old new : Option (List ℕ)) (fault : ScriptFault) : Type 0 where
  pub told : fault ≡ fault_at (length (ended_lines text) + 1) ReadFailed
  pub replied : AllReplied (ended_lines text) old new

-- of the reply to a line only a beginning is written, which is told at that line; all replies before
-- it are
pub record LosesReply (text : List ℕ) (old new : Option (List ℕ)) (fault : ScriptFault) : Type 0 where
  pub lines : List (List ℕ)
  pub line : List ℕ
  pub others : List (List ℕ)
  pub parts : sent_lines text ≡ lines ++ line ∷ others
  pub mid : Option (List ℕ)
  pub replied : AllReplied lines old mid
  pub last : Service
  pub reply : List ℕ
  pub is : IsReply replied.last line last reply
  pub cut : IsCut (length lines + 1) reply mid new fault

-- what was read isn't served to its end
pub record StopsServing (input rest old new : Option (List ℕ)) (fault : ScriptFault) : Type 0 where
  pub text : List ℕ
  pub read : Consumes input rest text
  pub stops : BreaksOff text old new fault ⊎ LosesReply text old new fault
