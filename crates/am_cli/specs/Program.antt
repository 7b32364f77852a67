-- How a run of the program ends: own choice (docs/FORMATS.md, "The program").
use Rattle.std.specs.Prelude.{◌≡◌, ◌⊎◌, ◌∷◌, ℕ, Bool, List, [], Option, Vec, codes, decimal, if◌then◌else◌}
use Rattle.std.specs.List.{flat_map}
use Rattle.std.specs.Io.KnownBytes.{Appends}
use Rattle.std.specs.declared.alloc.Global.{Global}
use Rattle.am_findings.specs.{ExploresInput, StopsExploring, ExploreFault}
use Rattle.am_findings.specs.declared.verdict.Verdict.{Verdict as Findings}
use Rattle.am_findings.specs.declared.verdict.Verdict.TheVariants.{AsAsked, NotAsAsked, NotAllSeen}
use Rattle.am_import.specs.{ImportsInput, StopsImporting, ImportFault}
use Rattle.am_mountinfo.specs.{ShowsInput, StopsShowing}
use Rattle.am_recall.specs.declared.recalled.Recalled.{Recalled}
use Rattle.am_runner.specs.{IsTally, Tally}
use Rattle.am_script.specs.{PlaysInput, StopsInput, ScriptFault, Summary, answers_alone}
use Rattle.am_serve.specs.{ServesInput, StopsServing}
use Rattle.am_draw.specs.{DrawsInput, StopsDrawing}
use Rattle.am_traces.specs.Judged.{JudgesInput, StopsJudging}
use Rattle.am_traces.specs.declared.verdict.JudgeFault.{JudgeFault}
use Rattle.am_traces.specs.declared.verdict.Verdict.{Verdict}
use Rattle.am_traces.specs.declared.verdict.Verdict.TheVariants.{Lawful, Broken}
use Rattle.am_views.specs.{TraceStyle, traced}
use Rattle.am_views.specs.declared.trace.TraceStyle.TheVariants.{Plain, WithNumbers}
use Rattle.clap.specs.Words.{Text}
use Rattle.am_cli.specs.Args.{fault_number}
use Rattle.am_cli.specs.CommandLine.{IsAsked, IsRefused}
use Rattle.am_cli.specs.Help.{help_text, version_line}
use Rattle.am_cli.specs.Hints.{IsHint, usage_told}
use Rattle.am_cli.specs.Telling.{import_told, IsCut, judge_told, script_told, Tells, TellsExplore, TellsFault}
use Rattle.am_cli.specs.Telling.{word_told}
use Rattle.am_cli.specs.declared.hints.Hint.{Hint}
use Rattle.am_cli.specs.declared.topics.Topic.{Topic}
use Rattle.am_cli.specs.declared.args.Args.{Args}
use Rattle.am_cli.specs.declared.args.Args.TheVariants.{Script, Trace, Draw, World, Serve, Explore, Judge, Import}
use Rattle.am_cli.specs.declared.args.Args.TheVariants.{Threads, Help, Version}
use Rattle.am_cli.specs.declared.args.ArgsFault.{ArgsFault}
use Rattle.am_cli.specs.declared.args.ArgsFault.TheVariants.{NoMemory, Usage}

-- the line that tells the rounds of threads
abbrev pub rounds_line : ℕ → List ℕ
rounds_line rounds = flat_map (λ part. part) (codes "rounds " ∷ decimal rounds ∷ codes "\n" ∷ [])

-- how a trace is printed that is to be plain, or not
abbrev pub style_of : Bool → TraceStyle
style_of plain = if plain then Plain else WithNumbers

-- how a run of the program ends
pub data End : Type 0 where
  -- the script is played to its end
  Played : Summary → End
  -- the script stops at its fault
  Stopped : ScriptFault → End
  -- the script's trace, plain or not, is printed to its end
  Traced : Bool → Summary → End
  -- the trace stops at the script's fault
  TraceStopped : Bool → ScriptFault → End
  -- the picture of the script's events, from one number to another, is written to its end
  Drawn : ℕ → ℕ → Summary → End
  -- the picture stops at the script's fault
  DrawStopped : ℕ → ℕ → ScriptFault → End
  -- the world that the script leaves is printed, or one namespace of it
  Shown : Option ℕ → Summary → End
  -- it isn't printed to its end
  ShowStopped : Option ℕ → ScriptFault → End
  -- the session is served to the end of its lines
  Served : End
  -- it isn't
  ServeStopped : ScriptFault → End
  -- the orders of the scene that begin with these choices are explored, each search over so many states at most, and
  -- what was found is written
  Explored : ℕ → Vec ℕ Global → Findings → End
  -- they aren't, or it isn't written whole
  ExploreStopped : ℕ → Vec ℕ Global → ExploreFault → End
  -- the trace is judged, and its verdict is written
  Judged : Verdict → End
  -- its verdict isn't written whole
  JudgeStopped : JudgeFault → End
  -- the mountinfo is imported, and its script is written
  Imported : End
  -- its script isn't written whole
  ImportStopped : ImportFault → End
  -- so many walkers and workers, of so many rounds each, have made them, and the line that tells
  -- them is written
  Ran : ℕ → ℕ → ℕ → Tally → End
  -- they have, but the writer didn't take the whole line
  Untold : ℕ → ℕ → ℕ → Tally → End
  -- they haven't: memory ran out, or a thread can't be started
  NotRun : ℕ → ℕ → ℕ → End
  -- the help of a command, or of the program, is written
  Helped : Option Topic → End
  -- it isn't written whole
  NotHelped : Option Topic → End
  -- the version is written
  Versioned : End
  -- it isn't written whole
  NotVersioned : End

-- the exit status of a verdict
abbrev pub status_of_verdict : Verdict → ℕ
status_of_verdict Lawful = 0
status_of_verdict (Broken line law) = 1

-- the exit status of how the questions of a scene come out
abbrev pub status_of_findings : Findings → ℕ
status_of_findings AsAsked = 0
status_of_findings NotAsAsked = 1
status_of_findings NotAllSeen = 3

-- the exit status
abbrev pub status_of : End → ℕ
status_of (Played summary) = 0
status_of (Stopped fault) = 1
status_of (Traced plain summary) = 0
status_of (TraceStopped plain fault) = 1
status_of (Drawn first last summary) = 0
status_of (DrawStopped first last fault) = 1
status_of (Shown only summary) = 0
status_of (ShowStopped only fault) = 1
status_of Served = 0
status_of (ServeStopped fault) = 1
status_of (Explored most prefix findings) = status_of_findings findings
status_of (ExploreStopped most prefix fault) = 1
status_of (Judged verdict) = status_of_verdict verdict
status_of (JudgeStopped fault) = 1
status_of Imported = 0
status_of (ImportStopped fault) = 1
status_of (Ran walkers workers rounds tally) = 0
status_of (Untold walkers workers rounds tally) = 1
status_of (NotRun walkers workers rounds) = 1
status_of (Helped topic) = 0
status_of (NotHelped topic) = 1
status_of Versioned = 0
status_of NotVersioned = 1

-- what was asked for
abbrev pub asked_of : End → Args
asked_of (Played summary) = Script
asked_of (Stopped fault) = Script
asked_of (Traced plain summary) = Trace plain
asked_of (TraceStopped plain fault) = Trace plain
asked_of (Drawn first last summary) = Draw first last
asked_of (DrawStopped first last fault) = Draw first last
asked_of (Shown only summary) = World only
asked_of (ShowStopped only fault) = World only
asked_of Served = Serve
asked_of (ServeStopped fault) = Serve
asked_of (Explored most prefix findings) = Explore most prefix
asked_of (ExploreStopped most prefix fault) = Explore most prefix
asked_of (Judged verdict) = Judge
asked_of (JudgeStopped fault) = Judge
asked_of Imported = Import
asked_of (ImportStopped fault) = Import
asked_of (Ran walkers workers rounds tally) = Threads walkers workers rounds
asked_of (Untold walkers workers rounds tally) = Threads walkers workers rounds
asked_of (NotRun walkers workers rounds) = Threads walkers workers rounds
asked_of (Helped topic) = Help topic
asked_of (NotHelped topic) = Help topic
asked_of Versioned = Version
asked_of NotVersioned = Version

-- What is read and written, and what is told of it: nothing is told of a script that is played,
-- traced or drawn to its end, or whose world is printed, nor of a session that is served, a scene that is explored,
-- a trace that is judged, a mountinfo that is imported, threads whose rounds stand written, or help and a version that
-- do. Else the fault is told; that of a script or a scene with what the reader recalls of it.
-- Threads, help and the version read nothing. Nothing is written where threads don't run.
abbrev pub Leaves : End → Recalled → Option (List ℕ) → Option (List ℕ) → Option (List ℕ) → Option (List ℕ) → Option (List ℕ) → Option (List ℕ) → Type 0
Leaves (Played summary) recalled input rest old new quiet told =
    PlaysInput answers_alone input rest old new summary × (told ≡ quiet)
Leaves (Stopped fault) recalled input rest old new quiet told =
    StopsInput answers_alone input rest old new fault × TellsFault recalled fault quiet told
Leaves (Traced plain summary) recalled input rest old new quiet told =
    PlaysInput (traced (style_of plain)) input rest old new summary × (told ≡ quiet)
Leaves (TraceStopped plain fault) recalled input rest old new quiet told =
    StopsInput (traced (style_of plain)) input rest old new fault × TellsFault recalled fault quiet told
Leaves (Drawn first last summary) recalled input rest old new quiet told =
    DrawsInput first last input rest old new summary × (told ≡ quiet)
Leaves (DrawStopped first last fault) recalled input rest old new quiet told =
    StopsDrawing first last input rest old new fault × TellsFault recalled fault quiet told
Leaves (Shown only summary) recalled input rest old new quiet told = ShowsInput only input rest old new summary × (told ≡ quiet)
Leaves (ShowStopped only fault) recalled input rest old new quiet told =
    StopsShowing only input rest old new fault × TellsFault recalled fault quiet told
Leaves Served recalled input rest old new quiet told = ServesInput input rest old new × (told ≡ quiet)
Leaves (ServeStopped fault) recalled input rest old new quiet told =
    StopsServing input rest old new fault × Tells quiet told (script_told fault [])
Leaves (Explored most prefix findings) recalled input rest old new quiet told =
    ExploresInput most prefix.items input rest old new findings × (told ≡ quiet)
Leaves (ExploreStopped most prefix fault) recalled input rest old new quiet told =
    StopsExploring most prefix.items input rest old new fault × TellsExplore recalled fault quiet told
Leaves (Judged verdict) recalled input rest old new quiet told = JudgesInput input rest old new verdict × (told ≡ quiet)
Leaves (JudgeStopped fault) recalled input rest old new quiet told =
    StopsJudging input rest old new fault × Tells quiet told (judge_told fault)
Leaves Imported recalled input rest old new quiet told = ImportsInput input rest old new × (told ≡ quiet)
Leaves (ImportStopped fault) recalled input rest old new quiet told =
    StopsImporting input rest old new fault × Tells quiet told (import_told fault)
Leaves (Ran walkers workers rounds tally) recalled input rest old new quiet told =
    IsTally walkers workers rounds tally × (rest ≡ input) × Appends old new (rounds_line tally.rounds) × (told ≡ quiet)
Leaves (Untold walkers workers rounds tally) recalled input rest old new quiet told =
    IsTally walkers workers rounds tally × (rest ≡ input) × IsCut old new (rounds_line tally.rounds)
    × Tells quiet told (word_told (codes "WriteFailed"))
Leaves (NotRun walkers workers rounds) recalled input rest old new quiet told =
    (rest ≡ input) × (new ≡ old) × Tells quiet told (word_told (codes "NoMemory"))
Leaves (Helped topic) recalled input rest old new quiet told =
    (rest ≡ input) × Appends old new (help_text topic) × (told ≡ quiet)
Leaves (NotHelped topic) recalled input rest old new quiet told =
    (rest ≡ input) × IsCut old new (help_text topic) × Tells quiet told (word_told (codes "WriteFailed"))
Leaves Versioned recalled input rest old new quiet told = (rest ≡ input) × Appends old new version_line × (told ≡ quiet)
Leaves NotVersioned recalled input rest old new quiet told =
    (rest ≡ input) × IsCut old new version_line × Tells quiet told (word_told (codes "WriteFailed"))

-- what was asked for ends so, with this status
pub record Exits (asked : Args) (recalled : Recalled) (input rest old new quiet told : Option (List ℕ)) (status : ℕ) : Type 0 where
  pub end : End
  pub asked_is : asked_of end ≡ asked
  pub status_is : status ≡ status_of end
  pub streams : Leaves end recalled input rest old new quiet told

-- a text is written whole, with this status, or that it isn't is told
abbrev pub SaysWhole : List ℕ → Option (List ℕ) → Option (List ℕ) → Option (List ℕ) → Option (List ℕ) → ℕ → Type 0
SaysWhole text old new quiet told status =
    (Appends old new text × (told ≡ quiet) × (status ≡ 0))
    ⊎ (IsCut old new text × Tells quiet told (word_told (codes "WriteFailed")) × (status ≡ 1))

-- what is told where words are refused: that there is no memory, or that they are no command line, with what they may
-- mean and the command lines that there are
abbrev pub TellsRefusal : List Text → ArgsFault → Option (List ℕ) → Option (List ℕ) → Type 0
TellsRefusal words NoMemory quiet told = Tells quiet told (word_told (codes "NoMemory"))
TellsRefusal words Usage quiet told =
    (hint : Option Hint) × IsHint words hint × Tells quiet told (usage_told hint)

-- the words are refused with this status: nothing is read or written
pub record Refuses (words : List Text) (input rest old new quiet told : Option (List ℕ)) (status : ℕ) : Type 0 where
  pub fault : ArgsFault
  pub refused : IsRefused words fault
  pub status_is : status ≡ fault_number fault
  pub unread : rest ≡ input
  pub unwritten : new ≡ old
  pub tells : TellsRefusal words fault quiet told

-- what the words ask for is done, and ends with this status
pub record Does (words : List Text) (recalled : Recalled) (input rest old new quiet told : Option (List ℕ)) (status : ℕ) : Type 0 where
  pub asked : Args
  pub asks : IsAsked words asked
  pub exits : Exits asked recalled input rest old new quiet told status

-- the program exits with this status: it does what these words ask for, or refuses them
abbrev pub ExitsWith : List Text → Recalled → Option (List ℕ) → Option (List ℕ) → Option (List ℕ) → Option (List ℕ) → Option (List ℕ) → Option (List ℕ) → ℕ → Type 0
ExitsWith words recalled input rest old new quiet told status =
    Does words recalled input rest old new quiet told status ⊎ Refuses words input rest old new quiet told status
