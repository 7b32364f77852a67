-- The commands that there are, as `clap` has them, and what they ask for: own choice
-- (docs/FORMATS.md, "The program").
use Rattle.std.specs.Prelude.{◌≡◌, ◌≢◌, ◌⊎◌, ⊤, ℕ, pos, Bool, false, true, List, [], ◌∷◌, codes, bytes_eq, Option, None, Some, option_map, if◌then◌else◌}
use Rattle.std.specs.Str.Parse.{IsNumeral, digits_value, without_leading_plus}
use Rattle.clap.specs.declared.builder.command.Command.{Command}
use Rattle.clap.specs.declared.builder.command.Command.TheViews.{out-Command}
use Rattle.clap.specs.Words.{app_of, App, IsAmong, Row, Rule, Text, fault_of, first_of, new_app, new_rule, one_of, subcommand_of, with_rule, with_subcommand}
use Rattle.clap.specs.declared.error.kind.ErrorKind.{ErrorKind}
use Rattle.clap.specs.declared.error.kind.ErrorKind.TheVariants as answers
use Rattle.clap.specs.Simple.{on_top}
use Rattle.clap.specs.declared.builder.action.ArgAction.TheVariants.{Set, SetTrue}
use Rattle.clap.specs.declared.builder.value_parser.ValueParser.TheVariants.{Signed}
use Rattle.am_cli.specs.declared.args.Args.{Args}
use Rattle.am_cli.specs.declared.args.Args.TheVariants.{Script, Trace, Draw, World, Serve, Explore, Judge, Import}
use Rattle.am_cli.specs.declared.args.Args.TheVariants.{Threads, Help, Version}
use Rattle.am_cli.specs.declared.args.ArgsFault.{ArgsFault}
use Rattle.am_cli.specs.declared.args.ArgsFault.TheVariants.{NoMemory, Usage}
use Rattle.am_cli.specs.declared.topics.Topic.{Topic}
use Rattle.am_cli.specs.declared.topics.Topic.TheVariants as topics
use Rattle.am_cli.specs.Args.{IsInRange}
use Rattle.am_cli.specs.Choices.{prefix_of}
use Rattle.am_cli.specs.Topics.{topic_named, topic_of}

-- ---- the commands

-- an option that is a number
abbrev pub number_rule : Text → Rule
number_rule name = record (new_rule name) {
  long = Some name;
  action = Some Set;
  parser = Some (Signed (pos 0) (pos 4294967295));
}

-- it is this number where it is left out
abbrev pub default_rule : Text → Text → Rule
default_rule name default = record (number_rule name) { defaults = default ∷ [] }

-- an option that is a word
abbrev pub word_rule : Text → Rule
word_rule name = record (new_rule name) { long = Some name; action = Some Set }

-- an option that has no value
abbrev pub flag_rule : Text → Rule
flag_rule name = record (new_rule name) { long = Some name; action = Some SetTrue }

-- the command `script`, which has no options
abbrev pub script_app : App
script_app = new_app (codes "script")

-- the command `trace`, with an option for a plain trace
abbrev pub trace_app : App
trace_app = with_rule (new_app (codes "trace")) (flag_rule (codes "plain"))

-- the command `draw`, with the numbers of the first and the last event
abbrev pub draw_app : App
draw_app =
    with_rule (with_rule (new_app (codes "draw")) (default_rule (codes "from") (codes "1")))
    (default_rule (codes "to") (codes "4294967295"))

-- the command `world`, with the number of a namespace if it is to be one alone
abbrev pub world_app : App
world_app = with_rule (new_app (codes "world")) (number_rule (codes "namespace"))

-- the command `serve`, which has no options
abbrev pub serve_app : App
serve_app = new_app (codes "serve")

-- the command `explore`, with how many states one search looks at, and the choices with which orders begin
abbrev pub explore_app : App
explore_app =
    with_rule (with_rule (new_app (codes "explore")) (default_rule (codes "most") (codes "1000000")))
    (word_rule (codes "prefix"))

-- the command `judge`, which has no options
abbrev pub judge_app : App
judge_app = new_app (codes "judge")

-- the command `import`, which has no options
abbrev pub import_app : App
import_app = new_app (codes "import")

-- the command `threads`, with how many walkers and workers there are, and rounds
abbrev pub threads_app : App
threads_app =
    with_rule
    (with_rule
    (with_rule (new_app (codes "threads")) (default_rule (codes "walkers") (codes "4")))
    (default_rule (codes "workers") (codes "2")))
    (default_rule (codes "rounds") (codes "10"))

-- the command `help`, with the name of a command if it is of one
abbrev pub help_app : App
help_app = with_rule (new_app (codes "help")) (new_rule (codes "command"))

-- the program, of which a command has to be named; it has a version, and a command `help` of its own
abbrev pub bare_program : App
bare_program =
    on_top (λ s. record s { has_version = true })
    (on_top (λ s. record s { disable_help_subcommand = true })
    (on_top (λ s. record s { subcommand_required = true }) (new_app (codes "automount_cli"))))

-- the program, with its ten commands
abbrev pub cli : App
cli =
    with_subcommand
    (with_subcommand
    (with_subcommand
    (with_subcommand
    (with_subcommand
    (with_subcommand
    (with_subcommand
    (with_subcommand
    (with_subcommand (with_subcommand bare_program script_app.top) trace_app.top)
    draw_app.top)
    world_app.top)
    serve_app.top)
    explore_app.top)
    judge_app.top)
    import_app.top)
    threads_app.top)
    help_app.top

-- a command that is made so
pub record IsCommand (app : App) (command : Command) : Type 0 where
  pub shape : app_of command ≡ app
  pub local : (out-Command command).has_globals ≡ false

-- ---- what they ask for

-- the option has this number, in decimal digits
pub record IsNumber (rows : List Row) (option : Text) (number : ℕ) : Type 0 where
  pub text : Text
  pub given : one_of option rows ≡ Some text
  pub digits : IsNumeral 10 (without_leading_plus text)
  pub value : number ≡ digits_value 10 (without_leading_plus text)

-- or is left out
abbrev pub IsNumberIn : List Row → Text → Option ℕ → Type 0
IsNumberIn rows option None = first_of option rows ≡ None
IsNumberIn rows option (Some number) = IsNumber rows option number

-- whether an option that has no value stands there, by the word that `clap` has for that
abbrev pub flag_of : Text → Option Bool
flag_of word =
    if bytes_eq word (codes "true") then Some true
    else if bytes_eq word (codes "false") then Some false
    else None

-- the same, if there is such a word
abbrev pub flagged : Option Text → Option Bool
flagged None = None
flagged (Some word) = flag_of word

-- the command that `help` is asked of, if there is one of this name, or of the program where none is named
abbrev pub helped : Option Text → Option (Option Topic)
helped None = Some None
helped (Some name) = option_map (λ topic. Some topic) (topic_named name)

-- a command, with its options, asks for this
abbrev pub AsksFor : Topic → List Row → Args → Type 0
AsksFor topics.Script rows Script = ⊤
AsksFor topics.Trace rows (Trace plain) = flagged (first_of (codes "plain") rows) ≡ Some plain
AsksFor topics.Draw rows (Draw first last) =
    IsNumber rows (codes "from") first × IsNumber rows (codes "to") last
AsksFor topics.World rows (World namespace) = IsNumberIn rows (codes "namespace") namespace
AsksFor topics.Serve rows Serve = ⊤
AsksFor topics.Explore rows (Explore most prefix) =
    IsNumber rows (codes "most") most × (prefix_of (first_of (codes "prefix") rows) ≡ Some prefix.items)
AsksFor topics.Judge rows Judge = ⊤
AsksFor topics.Import rows Import = ⊤
AsksFor topics.Threads rows (Threads walkers workers rounds) =
    IsNumber rows (codes "walkers") walkers
    × IsNumber rows (codes "workers") workers × IsNumber rows (codes "rounds") rounds
AsksFor topics.Help rows (Help topic) = helped (first_of (codes "command") rows) ≡ Some topic
AsksFor _ rows _ = ⊥

-- it asks for nothing of which the numbers are in their ranges
abbrev pub AsksForNone : Topic → List Row → Type 0
AsksForNone topic rows = (args : Args) → AsksFor topic rows args → IsInRange args → ⊥

-- the command of this name, if there is one
abbrev pub AsksBy : Option Topic → List Row → Args → Type 0
AsksBy None rows args = ⊥
AsksBy (Some topic) rows args = AsksFor topic rows args

-- it asks for nothing in range
abbrev pub AsksByNone : Option Topic → List Row → Type 0
AsksByNone found rows = (args : Args) → AsksBy found rows args → IsInRange args → ⊥

-- the command that was named, with its options, asks for this
abbrev pub Asks : Option (Text × List Row) → Args → Type 0
Asks None args = ⊥
Asks (Some (name, rows)) args = AsksBy (topic_named name) rows args

-- it asks for nothing in range
abbrev pub AsksNothing : Option (Text × List Row) → Type 0
AsksNothing named = (args : Args) → Asks named args → IsInRange args → ⊥

-- ---- what the words ask for

-- words that `clap` answers so, and not with a command, ask for this: help of what they name, or the version
abbrev pub AnswersBy : ErrorKind → List Text → Args → Type 0
AnswersBy answer words (Help topic) = (answer ≡ answers.DisplayHelp) × (topic ≡ topic_of words)
AnswersBy answer words Version = answer ≡ answers.DisplayVersion
AnswersBy answer words _ = ⊥

-- the answer is a mistake in the words
abbrev pub IsMistake : ErrorKind → Type 0
IsMistake answer =
    (answer ≢ answers.DisplayHelp) × (answer ≢ answers.DisplayVersion) × (answer ≢ answers.OutOfMemory)

-- words that `clap` answers so are refused by this fault
abbrev pub IsRefusedBy : ErrorKind → ArgsFault → Type 0
IsRefusedBy answer fault = fault ≡ Usage → IsMistake answer

-- the words ask for this: `clap` takes them, and the command that they name asks for it; or it answers them by help or
-- the version
abbrev pub IsAsked : List Text → Args → Type 0
IsAsked words args =
    ((fault_of cli words ≡ []) × Asks (subcommand_of cli words) args)
    ⊎ ((answer : ErrorKind) × IsAmong answer (fault_of cli words) × AnswersBy answer words args)

-- the words are no command line: `clap` finds a mistake in them, or takes them, and what they name isn't in its range
abbrev pub IsNoCommandLine : List Text → Type 0
IsNoCommandLine words =
    ((answer : ErrorKind) × IsAmong answer (fault_of cli words) × IsMistake answer)
    ⊎ ((fault_of cli words ≡ []) × AsksNothing (subcommand_of cli words))

-- the words are refused: they are no command line, or memory ran out
abbrev pub IsRefused : List Text → ArgsFault → Type 0
IsRefused words NoMemory = ⊤
IsRefused words Usage = IsNoCommandLine words
