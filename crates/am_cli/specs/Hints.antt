-- What may be meant by words that are no command line: own choice (docs/FORMATS.md, "The program").
use Rattle.std.specs.Prelude.{◌≡◌, ◌==◌, ◌≤◌, ⊤, ◌∷◌, ℕ, Bool, false, not, List, [], codes, bytes_eq, length, nat_eq, Option, None, Some, if◌then◌else◌}
use Rattle.std.specs.List.{flat_map}
use Rattle.std.specs.Str.{chars}
use Rattle.strsim.specs.Edits.{levenshtein_row}
use Rattle.am_lines.specs.{begins_with}
use Rattle.am_cli.specs.Help.{usage_text}
use Rattle.am_cli.specs.Topics.{input_of, name_of, reads_input, topic_of, word_at}
use Rattle.am_cli.specs.declared.hints.Hint.{Hint}
use Rattle.am_cli.specs.declared.hints.Hint.TheVariants.{Near, Input}
use Rattle.am_cli.specs.declared.topics.Topic.{Topic}

-- how many letters are put in, dropped or replaced at least to make one word of the other
-- (Levenshtein's distance)
abbrev pub edits : List ℕ → List ℕ → ℕ
edits word name = levenshtein_row nat_eq (chars word) (chars name) (length (chars name))

-- the word that should name a command: the one behind the program's name or, where that is `help`, the next
abbrev pub mistaken : List (List ℕ) → List ℕ
mistaken words = if bytes_eq (word_at words 1) (codes "help") then word_at words 2 else word_at words 1

-- a word that is no option
abbrev pub is_file : List ℕ → Bool
is_file word = if length word == 0 then false else not (begins_with 45 word)

-- the command, where it reads standard input and the word behind it is no option
abbrev pub fed_by : Topic → List ℕ → Option Topic
fed_by topic word = if not (reads_input topic) then None else if is_file word then Some topic else None

-- the same, if there is one
abbrev pub feeds : Option Topic → List ℕ → Option Topic
feeds None word = None
feeds (Some topic) word = fed_by topic word

-- the command that reads standard input, where a file is named behind it
abbrev pub fed : List (List ℕ) → Option Topic
fed words = feeds (topic_of words) (word_at words 2)

-- the word may mean a command to whose name two edits at most lead; where memory runs out nothing is meant
abbrev pub MayMean : List ℕ → Option Hint → Type 0
MayMean word None = ⊤
MayMean word (Some (Near topic)) = edits word (name_of topic) ≤ 2
MayMean word (Some (Input topic)) = ⊥

-- where a file is named, the command that reads standard input is meant, and else what the word may mean
abbrev pub HintsAt : Option Topic → List ℕ → Option Hint → Type 0
HintsAt (Some topic) word hint = hint ≡ Some (Input topic)
HintsAt None word hint = MayMean word hint

-- what may be meant by words that are no command line
abbrev pub IsHint : List (List ℕ) → Option Hint → Type 0
IsHint words hint = HintsAt (fed words) (mistaken words) hint

-- what is told of a command line that is none where something may be meant: that, and the command lines that there are
abbrev pub hint_told : Hint → List ℕ
hint_told (Near topic) =
    flat_map (λ part. part)
    (codes "fault: Usage\ndid you mean '" ∷ name_of topic ∷ codes "'?\n" ∷ usage_text ∷ [])
hint_told (Input topic) =
    flat_map (λ part. part)
    (codes "fault: Usage\nthe " ∷ input_of topic ∷ codes " is read from standard input: automount_cli "
    ∷ name_of topic ∷ codes " < FILE\n" ∷ usage_text ∷ [])

-- and where nothing may be
abbrev pub usage_told : Option Hint → List ℕ
usage_told None = flat_map (λ part. part) (codes "fault: Usage\n" ∷ usage_text ∷ [])
usage_told (Some hint) = hint_told hint
