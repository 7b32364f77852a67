-- Lines of the world's text, as a scene seeks them: own choice (docs/DECISIONS.md, "All orders of a scene").
use Rattle.std.specs.Prelude.{◌≡◌, ℕ, Bool, true, false, ◌&&◌, ◌||◌, List, [], ◌∷◌, None, bytes_eq, codes}
use Rattle.std.specs.List.{list_any}
use Rattle.am_lines.specs.{words_of}
use Rattle.am_machine.specs.State.{State}
use Rattle.am_script.specs.{lines_of}
use Rattle.am_mountinfo.specs.WorldText.{IsText}

-- the word is the one that is sought, or `*` is, for any word
abbrev pub word_fits : List ℕ → List ℕ → Bool
word_fits sought word = bytes_eq sought (codes "*") || bytes_eq sought word

-- these words are those that are sought, one by one
abbrev pub words_fit : List (List ℕ) → List (List ℕ) → Bool
words_fit [] [] = true
words_fit [] (word ∷ words) = false
words_fit (sought ∷ others) [] = false
words_fit (sought ∷ others) (word ∷ words) = word_fits sought word && words_fit others words

-- one of these lines has the words of the line that is sought
abbrev pub is_among_lines : List ℕ → List (List ℕ) → Bool
is_among_lines sought lines = list_any (λ line. words_fit (words_of sought) (words_of line)) lines

-- a line of this text has them
abbrev pub has_line : List ℕ → List ℕ → Bool
has_line sought text = is_among_lines sought (lines_of text)

-- whether the text of the world, of all its namespaces, has such a line
abbrev pub TextHas : List ℕ → State → Bool → Type 0
TextHas sought s has = (text : List ℕ) × IsText None s text × (has ≡ has_line sought text)
