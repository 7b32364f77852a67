-- What the lines of a scene say, and its first fault: own choice (docs/FORMATS.md, "Lines of a
-- scene").
use Rattle.std.specs.Prelude.{ℕ, ◌+◌, ◌==◌, Bool, not, is_some, List, [], ◌∷◌, ◌++◌, length, codes, bytes_eq, Option}
use Rattle.std.specs.Prelude.{None, Some, Result, Ok, Err, if◌then◌else◌}
use Rattle.am_names.specs.declared.fail_no.FailNo.{FailNo}
use Rattle.am_lines.specs.{words_of}
use Rattle.am_machine.specs.{Event}
use Rattle.am_script.specs.{ScriptFaultKind}
use Rattle.am_script.specs.declared.fault.ScriptFaultKind.TheVariants.{LongLine}
use Rattle.am_script.specs.Lines.{is_long, are_skipped}
use Rattle.am_script.specs.Events.{event_read}
use Rattle.am_script.specs.Sections.{are_only}
use Rattle.am_scenes.specs.declared.asked.Claim.{Claim}
use Rattle.am_scenes.specs.declared.asked.Claim.TheVariants as claims
use Rattle.am_scenes.specs.declared.fault.SceneFault.{SceneFault}
use Rattle.am_scenes.specs.declared.fault.SceneFaultKind.{SceneFaultKind}
use Rattle.am_scenes.specs.declared.fault.SceneFaultKind.TheVariants as kinds
use Rattle.am_scenes.specs.Asking.{Asks}
use Rattle.am_scenes.specs.Faults.{fault_at, kind_of_script}
use Rattle.am_scenes.specs.QuestionWords.{no_line_read, question_read, thread_named}
use Rattle.am_scenes.specs.ServiceWords.{service_read}
use Rattle.am_scenes.specs.SoFar.{SceneSoFar, Unended}

-- ---- a line of a thread

-- the thread has its `end`
abbrev pub thread_ended : SceneSoFar → Unended → SceneSoFar
thread_ended said thread = record said { threads = said.threads ++ thread.events ∷ []; within = None }

-- one more event of the thread, if the line is one
abbrev pub event_behind : SceneSoFar → Unended → Option Event → Result SceneSoFar SceneFaultKind
event_behind said thread (Some event) =
    Ok (record said { within = Some (record thread { events = thread.events ++ event ∷ [] }) })
event_behind said thread None = Err kinds.BadThreadEvent

-- behind a line of the thread, `end` or an event
abbrev pub in_thread : SceneSoFar → Unended → List (List ℕ) → Result SceneSoFar SceneFaultKind
in_thread said thread words =
    if are_only (codes "end") words then Ok (thread_ended said thread)
    else event_behind said thread (event_read words)

-- ---- a line outside of threads

-- something is asked
abbrev pub has_asked : SceneSoFar → Bool
has_asked said = not (length said.asked == 0)

-- behind `thread NAME`
abbrev pub thread_begun : SceneSoFar → ℕ → List (List ℕ) → Result SceneSoFar SceneFaultKind
thread_begun said number (name ∷ []) =
    if is_some (thread_named said.names name) then Err kinds.ThreadTwice
    else Ok (record said { names = said.names ++ name ∷ []; within = Some (record { line = number; events = [] }) })
thread_begun said number words = Err kinds.BadThread

-- the daemon serves so, if that is read
abbrev pub with_service : SceneSoFar → Option (List (Option FailNo)) → Result SceneSoFar SceneFaultKind
with_service said (Some results) = Ok (record said { service = Some results })
with_service said None = Err kinds.BadService

-- behind `serve daemon`, with the failures behind it
abbrev pub served : SceneSoFar → List (List ℕ) → Result SceneSoFar SceneFaultKind
served said words =
    if is_some said.service then Err kinds.ServiceTwice else with_service said (service_read words)

-- one question more, if it is read
abbrev pub with_question : SceneSoFar → ℕ → Claim → Result Asks SceneFaultKind → Result SceneSoFar SceneFaultKind
with_question said number claim (Ok asks) =
    Ok (record said { asked = said.asked ++ record { line = number; claim = claim; asks = asks } ∷ [] })
with_question said number claim (Err kind) = Err kind

-- behind `sometimes` or `never`
abbrev pub question_asked : SceneSoFar → ℕ → Claim → List (List ℕ) → Result SceneSoFar SceneFaultKind
question_asked said number claim words =
    with_question said number claim (question_read said.names said.threads words)

-- behind `always`: never does an order end without such a line
abbrev pub always_asked : SceneSoFar → ℕ → List (List ℕ) → Result SceneSoFar SceneFaultKind
always_asked said number words = with_question said number claims.Never (no_line_read words)

-- behind `thread` or `serve`, which stand above all questions
abbrev pub if_early : SceneSoFar → Result SceneSoFar SceneFaultKind → Result SceneSoFar SceneFaultKind
if_early said next = if has_asked said then Err kinds.LateLine else next

-- behind a line outside of threads, by its first word
abbrev pub by_word : SceneSoFar → ℕ → List ℕ → List (List ℕ) → Result SceneSoFar SceneFaultKind
by_word said number word words =
    if bytes_eq word (codes "thread") then if_early said (thread_begun said number words)
    else if bytes_eq word (codes "serve") then if_early said (served said words)
    else if bytes_eq word (codes "sometimes") then question_asked said number claims.Sometimes words
    else if bytes_eq word (codes "never") then question_asked said number claims.Never words
    else if bytes_eq word (codes "always") then always_asked said number words
    else Err kinds.BadLine

-- behind a line outside of threads
abbrev pub outside : SceneSoFar → ℕ → List (List ℕ) → Result SceneSoFar SceneFaultKind
outside said number [] = Ok said
outside said number (word ∷ words) = by_word said number word words

-- ---- a line

-- behind a line of these words, in a thread or outside
abbrev pub after_words : SceneSoFar → Option Unended → ℕ → List (List ℕ) → Result SceneSoFar SceneFaultKind
after_words said (Some thread) number words = in_thread said thread words
after_words said None number words = outside said number words

-- behind the line of this number: what is said then, or its fault
abbrev pub after_line : SceneSoFar → ℕ → List ℕ → Result SceneSoFar SceneFaultKind
after_line said number line =
    if is_long line then Err (kinds.Script LongLine)
    else if are_skipped (words_of line) then Ok said
    else after_words said said.within number (words_of line)

-- ---- all lines

-- a thread that has no `end` is told at its first line
abbrev pub ended_in : SceneSoFar → Option Unended → Result SceneSoFar SceneFault
ended_in said None = Ok said
ended_in said (Some thread) = Err (fault_at thread.line kinds.NoEnd)

-- the lines end, behind so many, or reading broke off there
abbrev pub scene_ends : Option ScriptFaultKind → SceneSoFar → ℕ → Result SceneSoFar SceneFault
scene_ends (Some kind) said before = Err (fault_at before (kind_of_script kind))
scene_ends None said before = ended_in said said.within

-- the lines below go on from what is said then, or none counts below a fault
abbrev pub goes_on : Result SceneSoFar SceneFaultKind → ℕ → (SceneSoFar → Result SceneSoFar SceneFault)
    → Result SceneSoFar SceneFault
goes_on (Ok said) number below = below said
goes_on (Err kind) number below = Err (fault_at number kind)

-- the scene of what is said and of these lines, behind so many
abbrev pub scene_from : Option ScriptFaultKind → SceneSoFar → ℕ → List (List ℕ) → Result SceneSoFar SceneFault
scene_from broke said before [] = scene_ends broke said before
scene_from broke said before (line ∷ lines) =
    goes_on (after_line said (before + 1) line) (before + 1) (λ next. scene_from broke next (before + 1) lines)
