-- The bytes of a line at which its words stand: own choice (docs/FORMATS.md, "Faults").
use Rattle.std.specs.Prelude.{◌≡◌, ◌⊎◌, ⊤, ℕ, ◌+◌, Bool, false, true, not, List, [], ◌∷◌, ◌++◌, length, take, drop, Option, None, Some}
use Rattle.std.specs.List.{list_all}
use Rattle.am_lines.specs.{words_of, is_blank}
use Rattle.am_diagnosis.specs.declared.expected.Slip.{Slip}
use Rattle.am_diagnosis.specs.declared.misfit.Misfit.{Misfit}

-- the byte is of a word
abbrev pub is_letter : ℕ → Bool
is_letter b = not (is_blank b)

-- the first byte, if there is one, fails the test
abbrev pub BeginsElse : (ℕ → Bool) → List ℕ → Type 0
BeginsElse p [] = ⊤
BeginsElse p (b ∷ bytes) = p b ≡ false

-- the rest stands behind the first bytes that pass the test
pub record IsSkipped (p : ℕ → Bool) (bytes rest : List ℕ) : Type 0 where
  pub front : List ℕ
  pub parts : bytes ≡ front ++ rest
  pub passed : list_all p front ≡ true
  pub ends : BeginsElse p rest

-- these bytes are none, or end in a blank
abbrev pub EndsBlank : List ℕ → Type 0
EndsBlank bytes =
    (bytes ≡ []) ⊎ ((front : List ℕ) × (b : ℕ) × (bytes ≡ front ++ b ∷ []) × (is_blank b ≡ true))

-- behind these bytes a word begins with those, or nothing is left
abbrev pub BeginsWord : List ℕ → List ℕ → Type 0
BeginsWord front [] = ⊤
BeginsWord front (b ∷ back) = EndsBlank front × (is_blank b ≡ false)

-- The word at this place, from 0, begins at this byte of the line, from 1. Where there is no word at
-- that place, it is the byte behind the line's last.
pub record IsColumn (line : List ℕ) (place byte : ℕ) : Type 0 where
  pub front : List ℕ
  pub back : List ℕ
  pub parts : line ≡ front ++ back
  pub before : words_of front ≡ take place (words_of line)
  pub behind : words_of back ≡ drop place (words_of line)
  pub begins : BeginsWord front back
  pub counted : byte ≡ length front + 1

-- where the line has this misfit, or none, its slip is this one, or none
abbrev pub IsSlipOf : List ℕ → Option Misfit → Option Slip → Type 0
IsSlipOf line None None = ⊤
IsSlipOf line None (Some slip) = ⊥
IsSlipOf line (Some misfit) None = ⊥
IsSlipOf line (Some misfit) (Some slip) = IsColumn line misfit.place slip.column × (slip.expected ≡ misfit.expected)
