-- The lines of what the daemon does: own choice (docs/FORMATS.md, "Events").
use Rattle.std.specs.Prelude.{ℕ, List, [], ◌∷◌, Option, None, Some, option_map}
use Rattle.std.specs.Result.{result_ok}
use Rattle.am_names.specs.{path_read, Status}
use Rattle.am_names.specs.declared.fail_no.FailNo.{FailNo}
use Rattle.am_names.specs.declared.trigger.Trigger.{Trigger}
use Rattle.am_machine.specs.{Event}
use Rattle.am_machine.specs.declared.event.Event.TheVariants as events
use Rattle.am_script.specs.Numbers.{u32_read}
use Rattle.am_script.specs.EventWords.{outcome_read, status_read, trigger_name_read, packet_read}

-- `attach PATH`
abbrev pub attach_read : List (List ℕ) → Option Event
attach_read (path ∷ []) = option_map events.Attach (result_ok (path_read path))
attach_read words = None

-- the event of a line whose path is this
abbrev pub attach_event : List (List ℕ) → Event
attach_event path = events.Attach path

-- the event, where the token and the packet's bytes are read
abbrev pub deliver_of : Option ℕ → Option (List ℕ) → Option Event
deliver_of (Some token) (Some bytes) = Some (events.Deliver token (Some bytes))
deliver_of token bytes = None

-- the event of a line that says this token, and these bytes or none
abbrev pub deliver_event : ℕ × Option (List ℕ) → Event
deliver_event said = events.Deliver said.0 said.1

-- `deliver T`, `deliver T HEX`
abbrev pub deliver_read : List (List ℕ) → Option Event
deliver_read (token ∷ []) = option_map (λ t. events.Deliver t None) (u32_read token)
deliver_read (token ∷ digits ∷ []) = deliver_of (u32_read token) (packet_read digits)
deliver_read words = None

-- the event, where the job is read and how its act goes
abbrev pub act_of : Option ℕ → Option (Option FailNo) → Option Event
act_of (Some job) (Some failure) = Some (events.Act job failure)
act_of job failure = None

-- `act JOB ok`, `act JOB fail`, `act JOB fail N`
abbrev pub act_read : List (List ℕ) → Option Event
act_read (job ∷ outcome) = act_of (u32_read job) (outcome_read outcome)
act_read [] = None

-- the event, where all three words are read
abbrev pub repeat_of : Option ℕ → Option ℕ → Option Status → Option Event
repeat_of (Some attach) (Some token) (Some status) = Some (events.Repeat attach token status)
repeat_of attach token status = None

-- `repeat A T ready`, `repeat A T fail`
abbrev pub repeat_read : List (List ℕ) → Option Event
repeat_read (attach ∷ token ∷ status ∷ []) =
    repeat_of (u32_read attach) (u32_read token) (status_read status)
repeat_read words = None

-- the event, where both words are read
abbrev pub catatonic_of : Option ℕ → Option ℕ → Option Event
catatonic_of (Some attach) (Some fs) = Some (events.Catatonic attach fs)
catatonic_of attach fs = None

-- `catatonic A FS`
abbrev pub catatonic_read : List (List ℕ) → Option Event
catatonic_read (attach ∷ fs ∷ []) = catatonic_of (u32_read attach) (u32_read fs)
catatonic_read words = None

-- the event, where all three words are read
abbrev pub timeout_of : Option ℕ → Option ℕ → Option ℕ → Option Event
timeout_of (Some attach) (Some fs) (Some seconds) = Some (events.Timeout attach fs seconds)
timeout_of attach fs seconds = None

-- `timeout A FS N`
abbrev pub timeout_read : List (List ℕ) → Option Event
timeout_read (attach ∷ fs ∷ seconds ∷ []) =
    timeout_of (u32_read attach) (u32_read fs) (u32_read seconds)
timeout_read words = None

-- `die`
abbrev pub die_read : List (List ℕ) → Option Event
die_read [] = Some events.Die
die_read words = None

-- `reattach FS`
abbrev pub reattach_read : List (List ℕ) → Option Event
reattach_read (fs ∷ []) = option_map events.Reattach (u32_read fs)
reattach_read words = None

-- the event, where both words are read
abbrev pub record_of : Option ℕ → Option (Option (List ℕ)) → Option Event
record_of (Some fs) (Some name) = Some (events.Record (record { fs = fs; name = name }))
record_of fs name = None

-- the event of a line whose trigger is this
abbrev pub record_event : Trigger → Event
record_event trigger = events.Record trigger

-- `record FS NAME`
abbrev pub record_read : List (List ℕ) → Option Event
record_read (fs ∷ name ∷ []) = record_of (u32_read fs) (trigger_name_read name)
record_read words = None
