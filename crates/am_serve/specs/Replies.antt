-- The replies to lines, one behind the other: own choice (docs/FORMATS.md, "Sessions").
use Rattle.std.specs.Prelude.{◌≡◌, ℕ, List, [], ◌∷◌, ◌++◌, codes, Option}
use Rattle.std.specs.Io.KnownBytes.{Appends}
use Rattle.am_mountinfo.specs.{IsCut}
use Rattle.am_script.specs.{ScriptFault}
use Rattle.am_serve.specs.declared.service.Service.{Service}
use Rattle.am_serve.specs.declared.telling.Telling.{Telling}
use Rattle.am_serve.specs.Keeping.{Attends}
use Rattle.am_serve.specs.Tellings.{IsTold}

-- a reply ends with a line that is just a dot
abbrev pub closed : List ℕ → List ℕ
closed text = text ++ codes ".\n"

-- lines that are so are written, and the line that ends a reply
abbrev pub IsSaid : (List ℕ → Type 0) → Option (List ℕ) → Option (List ℕ) → Type 0
IsSaid Says old new = (lines : List ℕ) × Says lines × Appends old new (closed lines)

-- or a beginning of that, which is told at this number
abbrev pub IsUnsaid : (List ℕ → Type 0) → ℕ → Option (List ℕ) → Option (List ℕ) → ScriptFault → Type 0
IsUnsaid Says number old new fault = (lines : List ℕ) × Says lines × IsCut number (closed lines) old new fault

-- this is the reply to a line, which leaves the session so
pub record IsReply (old : Service) (line : List ℕ) (new : Service) (text : List ℕ) : Type 0 where
  pub told : Telling
  pub heard : Attends old line new told
  pub lines : List ℕ
  pub says : IsTold told new.serving lines
  pub whole : text ≡ closed lines

-- these are the replies to lines, each of which begins with the session as the one before left it
abbrev pub AreReplies : Service → List (List ℕ) → Service → List ℕ → Type 0
AreReplies old [] new text = (new ≡ old) × (text ≡ [])
AreReplies old (line ∷ lines) new text =
    (mid : Service) × (first rest : List ℕ) × IsReply old line mid first × AreReplies mid lines new rest
    × (text ≡ first ++ rest)

-- the reply to a line is written
pub record Sends (old : Service) (line : List ℕ) (new : Service) (holds held : Option (List ℕ)) : Type 0 where
  pub text : List ℕ
  pub reply : IsReply old line new text
  pub written : Appends holds held text

-- a beginning of it is, which is told at this number
pub record Loses (old : Service) (line : List ℕ) (new : Service) (number : ℕ) (holds held : Option (List ℕ)) (fault : ScriptFault) : Type 0 where
  pub text : List ℕ
  pub reply : IsReply old line new text
  pub cut : IsCut number text holds held fault
