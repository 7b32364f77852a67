-- What a line is to a session: own choice (docs/FORMATS.md, "Sessions").
use Rattle.std.specs.Prelude.{ℕ, Bool, ◌||◌, List, [], ◌∷◌, codes, bytes_eq, Option, None, Some, Result, Ok, Err, option_map, if◌then◌else◌}
use Rattle.std.specs.Result.{result_ok}
use Rattle.am_lines.specs.{begins_with, words_of}
use Rattle.am_script.specs.{is_long}
use Rattle.am_names.specs.Path.{path_read}
use Rattle.am_script.specs.Numbers.{u32_read}
use Rattle.am_serve.specs.declared.request.Question.{Question}
use Rattle.am_serve.specs.declared.request.Question.TheVariants.{Trace, World, Next, Waiting, Lawful}
use Rattle.am_serve.specs.declared.request.Request.{Request}
use Rattle.am_serve.specs.declared.request.Request.TheVariants.{Long, Reset, Asks, AsksKind, Unknown, Plain}

-- a question that has no words but its first
abbrev pub alone : Question → List (List ℕ) → Option Question
alone question [] = Some question
alone question words = None

-- the number that is the only word
abbrev pub number_alone : List (List ℕ) → Option ℕ
number_alone (digits ∷ []) = u32_read digits
number_alone words = None

-- `?world`, `?world NS`
abbrev pub world_asked : List (List ℕ) → Option Question
world_asked [] = Some (World None)
world_asked (word ∷ words) = option_map (λ ns. World (Some ns)) (number_alone (word ∷ words))

-- the question that a line asks, by its first word and the others: a line of this table for each
abbrev pub question_by : List ℕ → List (List ℕ) → Option Question
question_by word words =
    if bytes_eq word (codes "?trace") then alone Trace words
    else if bytes_eq word (codes "?world") then world_asked words
    else if bytes_eq word (codes "?next") then option_map Next (number_alone words)
    else if bytes_eq word (codes "?waiting") then option_map Waiting (number_alone words)
    else if bytes_eq word (codes "?lawful") then alone Lawful words
    else None

-- it begins with `?` or `!`, with which no word of a script's lines begins
abbrev pub is_marked : List ℕ → Bool
is_marked word = begins_with 63 word || begins_with 33 word

-- `!reset`, or words that are neither that nor a question
abbrev pub reset_by : List (List ℕ) → Request
reset_by [] = Reset
reset_by words = Unknown

-- the question, or none that there is
abbrev pub asks_by : Option Question → Request
asks_by (Some question) = Asks question
asks_by None = Unknown

-- the mount of which `?kind` asks, by its namespace and its path
abbrev pub kind_of_mount : Option ℕ → Option (List (List ℕ)) → Request
kind_of_mount (Some ns) (Some path) = AsksKind ns path
kind_of_mount ns path = Unknown

-- `?kind NS PATH`
abbrev pub kind_by : List (List ℕ) → Request
kind_by (ns ∷ path ∷ []) = kind_of_mount (u32_read ns) (result_ok (path_read path))
kind_by words = Unknown

-- what a line is, by its first word and the others
abbrev pub request_by : List ℕ → List (List ℕ) → Request
request_by word words =
    if bytes_eq word (codes "!reset") then reset_by words
    else if bytes_eq word (codes "?kind") then kind_by words
    else if is_marked word then asks_by (question_by word words)
    else Plain

-- what a line with these words is
abbrev pub request_in : List (List ℕ) → Request
request_in [] = Plain
request_in (word ∷ words) = request_by word words

-- What a line is. Within a section of a head all lines are its text.
abbrev pub request_of : Bool → List ℕ → Request
request_of within line =
    if is_long line then Long
    else if within then Plain
    else request_in (words_of line)
