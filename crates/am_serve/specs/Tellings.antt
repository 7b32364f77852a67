-- What is told of a line, as text: own choice (docs/FORMATS.md, "Sessions").
use Rattle.std.specs.Prelude.{⊤, ◌≡◌, ◌⊎◌, ℕ, ◌+◌, true, List, [], ◌++◌, codes, decimal, Option, None, Some}
use Rattle.am_daemon.specs.{next_act_of, rows_of}
use Rattle.am_diagnosis.specs.Expectations.{expected_words}
use Rattle.am_diagnosis.specs.declared.expected.Slip.{Slip}
use Rattle.am_job.specs.{Act}
use Rattle.am_job.specs.declared.act.Act.TheVariants as acts
use Rattle.am_laws.specs.{Lawful}
use Rattle.am_machine.specs.{Answer}
use Rattle.am_mountinfo.specs.{is_nowhere}
use Rattle.am_mountinfo.specs.WorldText.{IsText}
use Rattle.am_script.specs.{answer_line}
use Rattle.am_session.specs.{Session, awaited, kind_answer, seen_last}
use Rattle.am_views.specs.{obs_lines}
use Rattle.am_wait.specs.{wait_of}
use Rattle.am_world.specs.Capacity.{state_of}
use Rattle.am_serve.specs.declared.request.Question.{Question}
use Rattle.am_serve.specs.declared.request.Question.TheVariants as asks
use Rattle.am_serve.specs.declared.stands.Serving.{Serving}
use Rattle.am_serve.specs.declared.stands.Stand.{Stand}
use Rattle.am_serve.specs.declared.stands.Stand.TheVariants.{Gathering, Playing}
use Rattle.am_serve.specs.declared.telling.Telling.{Telling}
use Rattle.am_serve.specs.declared.telling.Telling.TheVariants as tells
use Rattle.am_serve.specs.Words.{complaint_word}

-- ---- a fault

-- the fault at a line, and where that isn't as expected if it is told
abbrev pub fault_text : ℕ → List ℕ → Option Slip → List ℕ
fault_text line word None = codes "fault " ++ decimal line ++ (codes " " ++ (word ++ codes "\n"))
fault_text line word (Some slip) =
    codes "fault " ++ decimal line ++
    (codes ":" ++ decimal slip.column ++
    (codes " " ++ (word ++ (codes " expected " ++ (expected_words slip.expected ++ codes "\n")))))

-- ---- an answer

-- the line of the last answer, if there is one
abbrev pub answer_text : Option Answer → List ℕ
answer_text None = []
answer_text (Some answer) = answer_line answer

-- that of the world, if there is one
abbrev pub answer_in : Stand → List ℕ
answer_in (Gathering head) = []
answer_in (Playing session) = answer_text session.answer

-- ---- what is asked

-- what a job does next
abbrev pub next_text : Option Act → List ℕ
next_text None = codes "none\n"
next_text (Some (acts.Mkdir trigger)) = codes "next mkdir\n"
next_text (Some (acts.Mount trigger entry)) = codes "next mount\n"
next_text (Some (acts.Umount trigger)) = codes "next umount\n"
next_text (Some (acts.Rmdir trigger)) = codes "next rmdir\n"
next_text (Some (acts.Record trigger entry)) = codes "next record\n"
next_text (Some (acts.Reply status)) = codes "next reply\n"

-- the token on which a walker waits
abbrev pub waiting_text : Option ℕ → List ℕ
waiting_text None = codes "no\n"
waiting_text (Some token) = codes "waiting " ++ decimal token ++ codes "\n"

-- what is answered to a question; the text of a world is told apart
abbrev pub question_text : Question → Session → List ℕ
question_text asks.Trace session = obs_lines (seen_last session)
question_text (asks.World only) session = []
question_text (asks.Next job) session = next_text (next_act_of job (rows_of session.world.daemon))
question_text (asks.Waiting walker) session = waiting_text (awaited (wait_of session.world.kernel.waits.waits walker))
question_text asks.Lawful session = codes "yes\n"

-- nothing is asked where there is no world
abbrev pub asked_text : Question → Stand → List ℕ
asked_text question (Gathering head) = []
asked_text question (Playing session) = question_text question session

-- the world as it is, or the namespace that is asked for; or that isn't there, or there is no memory
-- for the text
abbrev pub IsWorldText : Option ℕ → ℕ → Session → List ℕ → Type 0
IsWorldText only lines session text =
    IsText only (state_of session.world) text
    ⊎ ((is_nowhere only session.world.kernel.table.rows ≡ true) × (text ≡ fault_text (lines + 1) (codes "NoSuchNamespace") None))
    ⊎ (text ≡ fault_text (lines + 1) (codes "NoMemory") None)

-- so where there is a world
abbrev pub TellsWorld : Option ℕ → ℕ → Stand → List ℕ → Type 0
TellsWorld only lines (Gathering head) text = text ≡ []
TellsWorld only lines (Playing session) text = IsWorldText only lines session text

-- what was observed since the world began, handed on or not, is lawful
abbrev pub IsLawful : Stand → Type 0
IsLawful (Gathering head) = ⊤
IsLawful (Playing session) = Lawful session.world.trace

-- ---- what is told

-- all but a world
abbrev pub plain_text : Telling → Serving → List ℕ
plain_text tells.Nothing serving = []
plain_text tells.Answer serving = answer_in serving.stand
plain_text (tells.Asked question) serving = asked_text question serving.stand
plain_text (tells.Kind came) serving = answer_line (kind_answer came)
plain_text (tells.Fault line complaint slip) serving = fault_text line (complaint_word complaint) slip

-- the text is what is told
abbrev pub IsTold : Telling → Serving → List ℕ → Type 0
IsTold (tells.Asked (asks.World only)) serving text = TellsWorld only serving.lines serving.stand text
IsTold (tells.Asked asks.Lawful) serving text =
    (text ≡ asked_text asks.Lawful serving.stand) × IsLawful serving.stand
IsTold told serving text = text ≡ plain_text told serving
