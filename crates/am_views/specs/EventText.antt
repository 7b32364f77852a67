-- How events are written: as a line of a script says them. Own choice (docs/FORMATS.md, "Events").
use Rattle.std.specs.Prelude.{ℕ, Bool, true, false, List, [], ◌++◌, codes, decimal, Option, None, Some}
use Rattle.hex.specs.Hex.{encode_lower}
use Rattle.am_names.specs.{fail_number, PipeState, Status}
use Rattle.am_names.specs.declared.fail_no.FailNo.{FailNo}
use Rattle.am_names.specs.declared.fail_no.FailNo.TheVariants.{ENOENT}
use Rattle.am_names.specs.declared.trigger.PipeState.TheVariants.{Room, Full, Gone}
use Rattle.am_names.specs.declared.trigger.Status.TheVariants.{Ready, Fail}
use Rattle.am_group.specs.{Change}
use Rattle.am_group.specs.declared.mount_state.Change.TheVariants.{MakeShared, MakeSlave, MakePrivate, MakeUnbindable}
use Rattle.am_propagate.specs.{CopyForm}
use Rattle.am_propagate.specs.declared.subtree.namespace.CopyForm.TheVariants as forms
use Rattle.am_machine.specs.{Event}
use Rattle.am_machine.specs.declared.event.Event.TheVariants as events
use Rattle.am_script.specs.{place_text}

-- ---- the words of a line, each behind a blank

-- what the kernel meets at the pipe
abbrev pub pipe_part : PipeState → List ℕ
pipe_part Room = codes " room"
pipe_part Full = codes " full"
pipe_part Gone = codes " gone"

-- the state that a mount is to have
abbrev pub change_part : Change → List ℕ
change_part MakeShared = codes " shared"
change_part MakeSlave = codes " slave"
change_part MakePrivate = codes " private"
change_part MakeUnbindable = codes " unbindable"

-- the form of a namespace's copy, if it isn't full
abbrev pub form_part : CopyForm → List ℕ
form_part forms.Full = []
form_part forms.Reduced = codes " reduced"

-- a failure, with the number of its error unless that is the first one
abbrev pub failure_part : FailNo → List ℕ
failure_part ENOENT = codes " fail"
failure_part error = codes " fail " ++ decimal (fail_number error)

-- how a notification is acknowledged
abbrev pub status_part : Status → List ℕ
status_part Ready = codes " ready"
status_part (Fail error) = failure_part error

-- whether an expiry is of anything that isn't busy
abbrev pub how_part : Bool → List ℕ
how_part false = codes " idle"
how_part true = codes " immediate"

-- how an act goes: with which error it fails, or none
abbrev pub outcome_part : Option FailNo → List ℕ
outcome_part None = codes " ok"
outcome_part (Some error) = failure_part error

-- a path
abbrev pub path_part : List (List ℕ) → List ℕ
path_part path = codes " " ++ place_text path

-- a path in a namespace
abbrev pub site_part : ℕ → List (List ℕ) → List ℕ
site_part ns path = codes " " ++ decimal ns ++ path_part path

-- a moment, and what the kernel meets at the pipe
abbrev pub moment_part : ℕ → PipeState → List ℕ
moment_part now pipe = codes " " ++ decimal now ++ pipe_part pipe

-- a moment, what may expire, and what the kernel meets at the pipe
abbrev pub expiry_part : ℕ → Bool → PipeState → List ℕ
expiry_part now immediate pipe = codes " " ++ decimal now ++ (how_part immediate ++ pipe_part pipe)

-- the bytes of a packet, if they are said, by two small hex digits each
abbrev pub bytes_part : Option (List ℕ) → List ℕ
bytes_part None = []
bytes_part (Some bytes) = codes " " ++ encode_lower bytes

-- the name of a trigger, `-` for a direct one
abbrev pub name_part : Option (List ℕ) → List ℕ
name_part None = codes " -"
name_part (Some name) = codes " " ++ name

-- ---- the line

-- an event, as its line of a script
abbrev pub event_text : Event → List ℕ
event_text (events.Attach path) = codes "attach" ++ path_part path
event_text (events.Mount ns path) = codes "mount" ++ site_part ns path
event_text (events.Bind ns from to) = codes "bind" ++ (site_part ns from ++ path_part to)
event_text (events.Umount ns path) = codes "umount" ++ site_part ns path
event_text (events.Change ns path change) = codes "change" ++ (site_part ns path ++ change_part change)
event_text (events.Kind ns path) = codes "kind" ++ site_part ns path
event_text (events.CopyNamespace ns form) = codes "nscopy " ++ decimal ns ++ form_part form
event_text (events.DropNamespace ns) = codes "nsdrop " ++ decimal ns
event_text (events.Walk walker ns path now pipe) =
    codes "walk " ++ decimal walker ++ (site_part ns path ++ moment_part now pipe)
event_text (events.Resume walker now pipe) = codes "resume " ++ decimal walker ++ moment_part now pipe
event_text (events.Leave walker) = codes "leave " ++ decimal walker
event_text (events.Expire walker fs now immediate pipe) =
    codes "expire " ++ decimal walker ++ (codes " " ++ decimal fs ++ expiry_part now immediate pipe)
event_text (events.Deliver token bytes) = codes "deliver " ++ decimal token ++ bytes_part bytes
event_text (events.Act job failure) = codes "act " ++ decimal job ++ outcome_part failure
event_text (events.Repeat attach token status) =
    codes "repeat " ++ decimal attach ++ (codes " " ++ decimal token ++ status_part status)
event_text (events.Catatonic attach fs) =
    codes "catatonic " ++ decimal attach ++ (codes " " ++ decimal fs)
event_text (events.AdminCatatonic fs) = codes "admincat " ++ decimal fs
event_text (events.Timeout attach fs timeout) =
    codes "timeout " ++ decimal attach ++ (codes " " ++ decimal fs ++ (codes " " ++ decimal timeout))
event_text events.Die = codes "die"
event_text (events.Reattach fs) = codes "reattach " ++ decimal fs
event_text (events.Record trigger) = codes "record " ++ decimal trigger.fs ++ name_part trigger.name
