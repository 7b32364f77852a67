-- The words of a question: own choice (docs/FORMATS.md, "Questions of a scene").
use Rattle.std.specs.Prelude.{ℕ, ◌-◌, ◌==◌, Bool, false, ◌||◌, nat_lt, List, [], ◌∷◌, length, position, slice_get, codes}
use Rattle.std.specs.Prelude.{bytes_eq, Option, None, Some, Result, Ok, Err, if◌then◌else◌}
use Rattle.std.specs.Option.{option_and_then, option_map_or}
use Rattle.am_lines.specs.{begins_with, is_digit}
use Rattle.am_machine.specs.{Event}
use Rattle.am_script.specs.Numbers.{u64_read}
use Rattle.am_script.specs.Sections.{are_only}
use Rattle.am_explore.specs.{Sought}
use Rattle.am_scenes.specs.declared.fault.SceneFaultKind.{SceneFaultKind}
use Rattle.am_scenes.specs.declared.fault.SceneFaultKind.TheVariants.{BadQuestion, NoSuchThread, NoSuchEvent, BadAnswer}
use Rattle.am_scenes.specs.AnswerWords.{sought_read}
use Rattle.am_scenes.specs.Asking.{Asks, AsksAnswer, AsksLine, AsksNoLine, AsksWait}

-- ---- of a thread

-- the index of the thread of this name
abbrev pub thread_named : List (List ℕ) → List ℕ → Option ℕ
thread_named names name = position (λ other. bytes_eq other name) names

-- how many events the thread at this index has
abbrev pub event_count : List (List Event) → ℕ → ℕ
event_count threads thread = option_map_or length (slice_get threads thread) 0

-- the index of the event of this number, from 1, of so many
abbrev pub event_numbered : ℕ → ℕ → Option ℕ
event_numbered count number =
    if number == 0 then None
    else if nat_lt count number then None
    else Some (number - 1)

-- the index of the event that these digits number
abbrev pub event_index : ℕ → List ℕ → Option ℕ
event_index count digits = option_and_then (event_numbered count) (u64_read digits)

-- what is asked of an event, where that and the answer are read
abbrev pub answered : ℕ → Option ℕ → Option Sought → Result Asks SceneFaultKind
answered thread None sought = Err NoSuchEvent
answered thread (Some event) None = Err BadAnswer
answered thread (Some event) (Some sought) = Ok (AsksAnswer thread event sought)

-- `waiting`, or `N ANSWER`, of this thread, which has so many events
abbrev pub asked_of : ℕ → ℕ → List (List ℕ) → Result Asks SceneFaultKind
asked_of thread count [] = Err BadQuestion
asked_of thread count (word ∷ words) =
    if are_only (codes "waiting") (word ∷ words) then Ok (AsksWait thread)
    else answered thread (event_index count word) (sought_read words)

-- ---- of the world's text

-- the first byte of the word is a digit
abbrev pub begins_with_digit : List ℕ → Bool
begins_with_digit [] = false
begins_with_digit (b ∷ bytes) = is_digit b

-- the words are such as a line of a world's text has: the first begins with a digit or with `#`, or
-- is `*`, which stands for any word
abbrev pub are_world_words : List (List ℕ) → Bool
are_world_words [] = false
are_world_words (word ∷ words) = begins_with_digit word || begins_with 35 word || bytes_eq word (codes "*")

-- `LINE` behind `sometimes` or `never`: whether the text has such a line
abbrev pub line_read : List (List ℕ) → Result Asks SceneFaultKind
line_read words = if are_world_words words then Ok (AsksLine words) else Err NoSuchThread

-- `LINE` behind `always`, which asks for what isn't so: whether the text has no such line
abbrev pub no_line_read : List (List ℕ) → Result Asks SceneFaultKind
no_line_read words = if are_world_words words then Ok (AsksNoLine words) else Err BadQuestion

-- ---- of either

-- what is asked by this word and those behind it: of the thread at this index, if the word is the name
-- of one, else of the world's text
abbrev pub asked_by : List (List Event) → Option ℕ → List ℕ → List (List ℕ) → Result Asks SceneFaultKind
asked_by threads (Some thread) word words = asked_of thread (event_count threads thread) words
asked_by threads None word words = line_read (word ∷ words)

-- what is asked behind `sometimes` or `never`, where these threads stand above
abbrev pub question_read : List (List ℕ) → List (List Event) → List (List ℕ) → Result Asks SceneFaultKind
question_read names threads [] = Err BadQuestion
question_read names threads (word ∷ words) = asked_by threads (thread_named names word) word words
