-- Where the words of a line leave what is expected of them: own choice (docs/FORMATS.md, "Faults").
use Rattle.std.specs.Prelude.{◌≡◌, ◌↔◌, ◌≤◌, ◌<◌, ℕ, true, ◌+◌, List, [], ◌∷◌, ◌++◌, codes, bytes_eq, length, take, Option, None, Some, if◌then◌else◌}
use Rattle.am_lines.specs.{begins_with}
use Rattle.am_master.specs.Timeout.{takes_next}
use Rattle.am_diagnosis.specs.declared.expected.Expected.{Expected}
use Rattle.am_diagnosis.specs.declared.expected.Expected.TheVariants.{Outcome, End, Entry, MasterOption, Timeout}
use Rattle.am_diagnosis.specs.declared.misfit.Misfit.{Misfit}
use Rattle.am_diagnosis.specs.Fits.{fits, may_end}

-- ---- what a misfit is

-- the words are those of a line, or of what stands in it
abbrev pub Words : Type 0
Words = List (List ℕ)

-- some good line begins with these words
abbrev pub IsBeginning : (Words → Type 0) → Words → Type 0
IsBeginning Good words = (rest : Words) × Good (words ++ rest)

-- Of these words the one at this place, from 0, is the first with which no good line begins any
-- more. Where there is none at that place, some good line has more words than these.
pub record IsFirstMisfit (Good : Words → Type 0) (words : Words) (place : ℕ) : Type 0 where
  pub within : place ≤ length words
  pub good_before : IsBeginning Good (take place words)
  pub bad_behind : place < length words → IsBeginning Good (take (place + 1) words) → ⊥
  pub is_bad : Good words → ⊥

-- What is expected at this place is what good lines have there that begin with the words before it:
-- just the words that fit, or the end where it may stand there.
pub record TellsWhatFits (Good : Words → Type 0) (words : Words) (place : ℕ) (expected : Expected) : Type 0 where
  pub fitting : (word : List ℕ) →
      (fits expected word ≡ true) ↔ IsBeginning Good (take place words ++ word ∷ [])
  pub ending : (may_end expected ≡ true) ↔ Good (take place words)

-- Of words the first of which stands at this place of its line, the misfit is the first, and tells
-- what fits.
pub record IsTold (Good : Words → Type 0) (words : Words) (from : ℕ) (misfit : Misfit) : Type 0 where
  pub behind : ℕ
  pub at : misfit.place ≡ from + behind
  pub first : IsFirstMisfit Good words behind
  pub told : TellsWhatFits Good words behind misfit.expected

-- words have no misfit just where they are good
abbrev pub ReadsJust : (Words → Type 0) → (Words → Option Misfit) → Type 0
ReadsJust Good found = (words : Words) → (found words ≡ None) ↔ Good words

-- each misfit is the first, and tells what fits, of words the first of which stands at this place
abbrev pub TellsMisfits : (Words → Type 0) → (Words → Option Misfit) → ℕ → Type 0
TellsMisfits Good found from =
    (words : Words) (misfit : Misfit) → found words ≡ Some misfit → IsTold Good words from misfit

-- ---- the misfit of words by their parameters

-- at this place this was expected
abbrev pub misfit_at : ℕ → Expected → Misfit
misfit_at place expected = record { place = place; expected = expected }

-- what is expected next: behind the last parameter the line ends
abbrev pub next_of : List Expected → Expected
next_of [] = End
next_of (expected ∷ others) = expected

-- the parameters behind the outcome of an act: `ok` has no number of an error
abbrev pub behind_outcome : List ℕ → List Expected → List Expected
behind_outcome word others = if bytes_eq word (codes "ok") then [] else others

-- the parameters behind the first word of an entry: none behind a location, the others behind options
abbrev pub behind_entry : List ℕ → List Expected → List Expected
behind_entry word others = if begins_with 45 word then others else []

-- the parameters behind an option of a master map: seconds where it takes the next word, else options
abbrev pub behind_option : List ℕ → List Expected
behind_option word = if takes_next word then Timeout ∷ [] else MasterOption ∷ []

-- the parameters behind a word that is as expected
abbrev pub left_behind : List ℕ → List Expected → List Expected
left_behind word [] = []
left_behind word (Outcome ∷ others) = behind_outcome word others
left_behind word (Entry ∷ others) = behind_entry word others
left_behind word (MasterOption ∷ others) = behind_option word
left_behind word (Timeout ∷ others) = MasterOption ∷ []
left_behind word (expected ∷ others) = others

-- the first of these words, the first of which stands at this place, that isn't as these parameters
-- say, or the place behind them where the line may not end
abbrev pub misfit_of : ℕ → List Expected → Words → Option Misfit
misfit_of place parameters [] =
    if may_end (next_of parameters) then None else Some (misfit_at place (next_of parameters))
misfit_of place parameters (word ∷ words) =
    if fits (next_of parameters) word then misfit_of (place + 1) (left_behind word parameters) words
    else Some (misfit_at place (next_of parameters))

-- the same of the words behind a first one, where this is expected, that has these parameters or is
-- no such word
abbrev pub misfit_by : Expected → Option (List Expected) → Words → Option Misfit
misfit_by expected None words = Some (misfit_at 0 expected)
misfit_by expected (Some parameters) words = misfit_of 1 parameters words

-- the same of a line in which this is expected first, by a table of what stands behind that
abbrev pub misfit_in : Expected → (List ℕ → Option (List Expected)) → Words → Option Misfit
misfit_in expected table [] = Some (misfit_at 0 expected)
misfit_in expected table (word ∷ words) = misfit_by expected (table word) words
