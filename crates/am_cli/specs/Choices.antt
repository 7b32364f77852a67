-- Choices, as a word of a command line names them: own choice (docs/FORMATS.md, "The program").
use Rattle.std.specs.Prelude.{ℕ, zero, suc, List, [], ◌∷◌, ◌++◌, Option, None, Some}
use Rattle.std.specs.List.{slice_split}
use Rattle.clap.specs.Words.{Text}
use Rattle.am_mount_lines.specs.Traps.{is_comma}
use Rattle.am_script.specs.Numbers.{u32_read}

-- a number from 1
abbrev pub from_one : Option ℕ → Option ℕ
from_one None = None
from_one (Some zero) = None
from_one (Some (suc number)) = Some (suc number)

-- the number of a choice: from 1 to 4294967295, as scripts write numbers
abbrev pub choice_read : Text → Option ℕ
choice_read word = from_one (u32_read word)

-- one more behind these, if it is there
abbrev pub behind : List ℕ → Option ℕ → Option (List ℕ)
behind numbers None = None
behind numbers (Some number) = Some (numbers ++ number ∷ [])

-- one before those, if all are there
abbrev pub before : Option ℕ → Option (List ℕ) → Option (List ℕ)
before (Some number) (Some numbers) = Some (number ∷ numbers)
before _ _ = None

-- the numbers of these words, if each is that of a choice
abbrev pub choices_read : List Text → Option (List ℕ)
choices_read [] = Some []
choices_read (word ∷ words) = before (choice_read word) (choices_read words)

-- the numbers that a word has, which commas part; an empty word has none
abbrev pub prefix_read : Text → Option (List ℕ)
prefix_read [] = Some []
prefix_read (byte ∷ bytes) = choices_read (slice_split is_comma (byte ∷ bytes))

-- the same, and none where there is no word
abbrev pub prefix_of : Option Text → Option (List ℕ)
prefix_of None = Some []
prefix_of (Some word) = prefix_read word
