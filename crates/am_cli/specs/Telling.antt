-- What is told of a fault on standard error: own choice (docs/FORMATS.md, "The program").
use Rattle.std.specs.Prelude.{◌<◌, ◌∷◌, ℕ, List, [], codes, decimal, length, take, Option}
use Rattle.std.specs.List.{flat_map}
use Rattle.std.specs.Io.KnownBytes.{Appends}
use Rattle.am_explain.specs.{HelpsWith, SceneHelpsWith}
use Rattle.am_explore.specs.{Tally}
use Rattle.am_findings.specs.{ExploreFault}
use Rattle.am_findings.specs.declared.explore.ExploreFault.TheVariants as unexplored
use Rattle.am_import.specs.{ImportFault}
use Rattle.am_import.specs.declared.imports.ImportFault.TheVariants as unmade
use Rattle.am_mount_lines.specs.declared.misfit.Expected.{Expected as MountExpected}
use Rattle.am_mount_lines.specs.declared.misfit.Expected.TheVariants as in_mounts
use Rattle.am_recall.specs.declared.recalled.Recalled.{Recalled}
use Rattle.am_scenes.specs.{SceneFault, SceneFaultKind}
use Rattle.am_scenes.specs.declared.fault.SceneFaultKind.TheVariants as of_scene
use Rattle.am_script.specs.{ScriptFault}
use Rattle.am_serve.specs.{kind_word}
use Rattle.am_traces.specs.declared.fault.Expected.{Expected as TraceExpected}
use Rattle.am_traces.specs.declared.fault.Expected.TheVariants as in_trace
use Rattle.am_traces.specs.declared.verdict.JudgeFault.{JudgeFault}
use Rattle.am_traces.specs.declared.verdict.JudgeFault.TheVariants as unjudged

-- ---- as far as a stream takes it

-- the text isn't written to its end: a beginning of it is
abbrev pub IsCut : Option (List ℕ) → Option (List ℕ) → List ℕ → Type 0
IsCut old new text = (taken : ℕ) × (taken < length text) × Appends old new (take taken text)

-- the text is told, or as much of it as the stream takes
abbrev pub Tells : Option (List ℕ) → Option (List ℕ) → List ℕ → Type 0
Tells quiet told text = (taken : ℕ) × Appends quiet told (take taken text)

-- ---- lines

-- a fault that has no place
abbrev pub word_told : List ℕ → List ℕ
word_told word = flat_map (λ part. part) (codes "fault: " ∷ word ∷ codes "\n" ∷ [])

-- a fault at a line, and this below it
abbrev pub line_told : ℕ → List ℕ → List ℕ → List ℕ
line_told line word below =
    flat_map (λ part. part)
    (codes "fault: line " ∷ decimal line ∷ codes ": " ∷ word ∷ codes "\n" ∷ below ∷ [])

-- what was expected at a place
abbrev pub place_told : ℕ → ℕ → List ℕ → List ℕ
place_told line column expected =
    flat_map (λ part. part)
    (codes "fault: line " ∷ decimal line ∷ codes ", column " ∷ decimal column ∷ codes ": " ∷ expected
    ∷ codes " expected\n" ∷ [])

-- ---- the faults of a script

-- what is told of it, with this below it
abbrev pub script_told : ScriptFault → List ℕ → List ℕ
script_told fault below = line_told fault.line (kind_word fault.kind) below

-- it is told, and below it where its line isn't as expected in the script of which this is recalled
abbrev pub TellsFault : Recalled → ScriptFault → Option (List ℕ) → Option (List ℕ) → Type 0
TellsFault recalled fault quiet told =
    (help : List ℕ) × HelpsWith recalled fault help × Tells quiet told (script_told fault help)

-- ---- the faults of a scene that is to be explored

-- the word for a fault of a scene: that of a script's fault, or one of its own
abbrev pub scene_word : SceneFaultKind → List ℕ
scene_word (of_scene.Script kind) = kind_word kind
scene_word of_scene.NoEvents = codes "NoEvents"
scene_word of_scene.BadLine = codes "BadLine"
scene_word of_scene.LateLine = codes "LateLine"
scene_word of_scene.BadThread = codes "BadThread"
scene_word of_scene.ThreadTwice = codes "ThreadTwice"
scene_word of_scene.NoEnd = codes "NoEnd"
scene_word of_scene.BadThreadEvent = codes "BadThreadEvent"
scene_word of_scene.BadService = codes "BadService"
scene_word of_scene.ServiceTwice = codes "ServiceTwice"
scene_word of_scene.BadQuestion = codes "BadQuestion"
scene_word of_scene.NoSuchThread = codes "NoSuchThread"
scene_word of_scene.NoSuchEvent = codes "NoSuchEvent"
scene_word of_scene.BadAnswer = codes "BadAnswer"
scene_word of_scene.NoMemory = codes "NoMemory"

-- what is told of it, at its line, with this below it
abbrev pub scene_told : SceneFault → List ℕ → List ℕ
scene_told fault below = line_told fault.line (scene_word fault.kind) below

-- it is told, and below it where its line isn't as expected in the scene of which this is recalled
abbrev pub TellsScene : Recalled → SceneFault → Option (List ℕ) → Option (List ℕ) → Type 0
TellsScene recalled fault quiet told =
    (help : List ℕ) × SceneHelpsWith recalled fault help × Tells quiet told (scene_told fault help)

-- what is told where there is no choice of the number at this place of a prefix
abbrev pub choice_told : ℕ → List ℕ
choice_told place = flat_map (λ part. part) (codes "fault: prefix " ∷ decimal place ∷ codes ": NoSuchChoice\n" ∷ [])

-- it is told why a scene isn't explored, of whose text this is recalled, or what was found isn't written
abbrev pub TellsExplore : Recalled → ExploreFault → Option (List ℕ) → Option (List ℕ) → Type 0
TellsExplore recalled (unexplored.Scene fault) quiet told = TellsScene recalled fault quiet told
TellsExplore recalled (unexplored.NoSuchChoice place) quiet told = Tells quiet told (choice_told place)
TellsExplore recalled unexplored.NoMemory quiet told = Tells quiet told (word_told (codes "NoMemory"))
TellsExplore recalled unexplored.WriteFailed quiet told = Tells quiet told (word_told (codes "WriteFailed"))

-- how far a search is, as it is told on a terminal
abbrev pub tally_told : Tally → List ℕ
tally_told tally =
    flat_map (λ part. part)
    (codes "explore: states " ∷ decimal tally.states ∷ codes ", orders " ∷ decimal tally.orders
    ∷ codes ", ends " ∷ decimal tally.ends ∷ codes "\n" ∷ [])

-- ---- the faults of a trace that is to be judged

-- what a line of a trace was expected to go on with
abbrev pub trace_words : TraceExpected → List ℕ
trace_words in_trace.Observation = codes "an observation behind two blanks"
trace_words in_trace.Number = codes "a number"
trace_words in_trace.Token = codes "a token"
trace_words in_trace.Attach = codes "an attachment"
trace_words in_trace.Fs = codes "a file system"
trace_words in_trace.Mount = codes "a mount"
trace_words in_trace.Status = codes "ready or a failure"
trace_words in_trace.PacketType = codes "the type of a packet"
trace_words in_trace.PacketNumber = codes "a number of the packet"
trace_words in_trace.PacketName = codes "the name in the packet"
trace_words in_trace.Key = codes "direct or a name"
trace_words in_trace.Entry = codes "an entry of the book"
trace_words in_trace.End = codes "the end of the line"

-- what is told of such a fault
abbrev pub judge_told : JudgeFault → List ℕ
judge_told (unjudged.BadLine line column expected) = place_told line column (trace_words expected)
judge_told unjudged.NoMemory = word_told (codes "NoMemory")
judge_told unjudged.ReadFailed = word_told (codes "ReadFailed")
judge_told unjudged.WriteFailed = word_told (codes "WriteFailed")

-- ---- the faults of a mountinfo that is to be imported

-- what a line of a mountinfo was expected to go on with
abbrev pub mount_words : MountExpected → List ℕ
mount_words in_mounts.Number = codes "the number of a mount"
mount_words in_mounts.Parent = codes "the number of the mount that it is mounted on"
mount_words in_mounts.Device = codes "a device"
mount_words in_mounts.Root = codes "the folder of the device that is shown"
mount_words in_mounts.Path = codes "the path of the mount"
mount_words in_mounts.Options = codes "the options of the mount"
mount_words in_mounts.Group = codes "the number of a peer group"
mount_words in_mounts.Dash = codes "- behind the optional fields"
mount_words in_mounts.Kind = codes "the type of the file system"

-- what is told of such a fault
abbrev pub import_told : ImportFault → List ℕ
import_told (unmade.BadLine line column expected) = place_told line column (mount_words expected)
import_told unmade.NoMemory = word_told (codes "NoMemory")
import_told unmade.ReadFailed = word_told (codes "ReadFailed")
import_told unmade.NotPlayed = word_told (codes "NotPlayed")
import_told unmade.WriteFailed = word_told (codes "WriteFailed")
