-- The commands by their names: own choice (docs/FORMATS.md, "The program").
use Rattle.std.specs.Prelude.{ℕ, Bool, true, false, List, [], codes, bytes_eq, slice_get, Option, None, Some, if◌then◌else◌}
use Rattle.am_cli.specs.declared.topics.Topic.{Topic}
use Rattle.am_cli.specs.declared.topics.Topic.TheVariants as topics

-- the name of a command
abbrev pub name_of : Topic → List ℕ
name_of topics.Script = codes "script"
name_of topics.Trace = codes "trace"
name_of topics.Draw = codes "draw"
name_of topics.World = codes "world"
name_of topics.Serve = codes "serve"
name_of topics.Explore = codes "explore"
name_of topics.Judge = codes "judge"
name_of topics.Import = codes "import"
name_of topics.Threads = codes "threads"
name_of topics.Help = codes "help"

-- the command of this name
abbrev pub topic_named : List ℕ → Option Topic
topic_named word =
    if bytes_eq word (codes "script") then Some topics.Script
    else if bytes_eq word (codes "trace") then Some topics.Trace
    else if bytes_eq word (codes "draw") then Some topics.Draw
    else if bytes_eq word (codes "world") then Some topics.World
    else if bytes_eq word (codes "serve") then Some topics.Serve
    else if bytes_eq word (codes "explore") then Some topics.Explore
    else if bytes_eq word (codes "judge") then Some topics.Judge
    else if bytes_eq word (codes "import") then Some topics.Import
    else if bytes_eq word (codes "threads") then Some topics.Threads
    else if bytes_eq word (codes "help") then Some topics.Help
    else None

-- a word, or nothing
abbrev pub or_nothing : Option (List ℕ) → List ℕ
or_nothing None = []
or_nothing (Some word) = word

-- the word at a place, or nothing
abbrev pub word_at : List (List ℕ) → ℕ → List ℕ
word_at words place = or_nothing (slice_get words place)

-- the command that a command line names, of which the first word is the program's name
abbrev pub topic_of : List (List ℕ) → Option Topic
topic_of words = topic_named (word_at words 1)

-- whether the command reads standard input
abbrev pub reads_input : Topic → Bool
reads_input topics.Script = true
reads_input topics.Trace = true
reads_input topics.Draw = true
reads_input topics.World = true
reads_input topics.Serve = true
reads_input topics.Explore = true
reads_input topics.Judge = true
reads_input topics.Import = true
reads_input topics.Threads = false
reads_input topics.Help = false

-- what it reads there
abbrev pub input_of : Topic → List ℕ
input_of topics.Script = codes "script"
input_of topics.Trace = codes "script"
input_of topics.Draw = codes "script"
input_of topics.World = codes "script"
input_of topics.Serve = codes "session"
input_of topics.Explore = codes "scene"
input_of topics.Judge = codes "trace"
input_of topics.Import = codes "mountinfo"
input_of topics.Threads = codes "nothing"
input_of topics.Help = codes "nothing"
