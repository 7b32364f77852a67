-- The words of event lines that are neither plain numbers nor paths: own choice (docs/FORMATS.md,
-- "Events").
use Rattle.std.specs.Prelude.{ℕ, Bool, true, false, List, [], ◌∷◌, codes, bytes_eq, Option, None, Some, option_map, if◌then◌else◌}
use Rattle.std.specs.Option.{option_and_then}
use Rattle.std.specs.Result.{result_ok}
use Rattle.hex.specs.Hex.{decode_sized}
use Rattle.am_names.specs.{name_read, fail_no_numbered, PipeState, Status}
use Rattle.am_names.specs.declared.fail_no.FailNo.{FailNo}
use Rattle.am_names.specs.declared.fail_no.FailNo.TheVariants.{ENOENT}
use Rattle.am_names.specs.declared.trigger.PipeState.TheVariants.{Room, Full, Gone}
use Rattle.am_names.specs.declared.trigger.Status.TheVariants.{Ready, Fail}
use Rattle.am_group.specs.{Change}
use Rattle.am_group.specs.declared.mount_state.Change.TheVariants.{MakeShared, MakeSlave, MakePrivate, MakeUnbindable}
use Rattle.am_propagate.specs.{CopyForm}
use Rattle.am_propagate.specs.declared.subtree.namespace.CopyForm.TheVariants as forms
use Rattle.am_script.specs.Numbers.{u8_read}

-- what the kernel meets at the pipe: `room`, `full` or `gone`
abbrev pub pipe_read : List ℕ → Option PipeState
pipe_read word =
    if bytes_eq word (codes "room") then Some Room
    else if bytes_eq word (codes "full") then Some Full
    else if bytes_eq word (codes "gone") then Some Gone
    else None

-- the state that a mount is to have: `shared`, `slave`, `private` or `unbindable`
abbrev pub change_read : List ℕ → Option Change
change_read word =
    if bytes_eq word (codes "shared") then Some MakeShared
    else if bytes_eq word (codes "slave") then Some MakeSlave
    else if bytes_eq word (codes "private") then Some MakePrivate
    else if bytes_eq word (codes "unbindable") then Some MakeUnbindable
    else None

-- the form of a namespace's copy that isn't full: `reduced`
abbrev pub form_read : List ℕ → Option CopyForm
form_read word = if bytes_eq word (codes "reduced") then Some forms.Reduced else None

-- whether an expiry is of anything that isn't busy: `idle` or `immediate`
abbrev pub immediate_read : List ℕ → Option Bool
immediate_read word =
    if bytes_eq word (codes "idle") then Some false
    else if bytes_eq word (codes "immediate") then Some true
    else None

-- the error of a failure, by its number from 1 to 9
abbrev pub failure_read : List ℕ → Option FailNo
failure_read digits = option_and_then fail_no_numbered (u8_read digits)

-- how an act goes, in one word: `ok`, or `fail`, which is with the first error
abbrev pub outcome_word_read : List ℕ → Option (Option FailNo)
outcome_word_read word =
    if bytes_eq word (codes "ok") then Some None
    else if bytes_eq word (codes "fail") then Some (Some ENOENT)
    else None

-- how an act goes: `ok`, `fail`, or `fail N` with the error of this number
abbrev pub outcome_read : List (List ℕ) → Option (Option FailNo)
outcome_read (word ∷ []) = outcome_word_read word
outcome_read (word ∷ digits ∷ []) =
    if bytes_eq word (codes "fail") then option_map Some (failure_read digits) else None
outcome_read words = None

-- how a notification is acknowledged: `ready`, or `fail`, which is with the first error
abbrev pub status_read : List ℕ → Option Status
status_read word =
    if bytes_eq word (codes "ready") then Some Ready
    else if bytes_eq word (codes "fail") then Some (Fail ENOENT)
    else None

-- the name of a trigger, `-` for a direct one
abbrev pub trigger_name_read : List ℕ → Option (Option (List ℕ))
trigger_name_read word =
    if bytes_eq word (codes "-") then Some None else option_map Some (result_ok (name_read word))

-- the 304 bytes that 608 hex digits of either case spell
abbrev pub packet_read : List ℕ → Option (List ℕ)
packet_read digits = result_ok (decode_sized digits 304)
