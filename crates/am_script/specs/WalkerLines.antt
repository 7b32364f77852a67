-- The lines of what walkers do: own choice (docs/FORMATS.md, "Events").
use Rattle.std.specs.Prelude.{ℕ, Bool, List, [], ◌∷◌, Option, None, Some, option_map}
use Rattle.std.specs.Result.{result_ok}
use Rattle.am_names.specs.{path_read, PipeState}
use Rattle.am_machine.specs.{Event}
use Rattle.am_machine.specs.declared.event.Event.TheVariants as events
use Rattle.am_script.specs.Numbers.{u32_read, u64_read}
use Rattle.am_script.specs.EventWords.{pipe_read, immediate_read}

-- the event, where all five words are read
abbrev pub walk_of : Option ℕ → Option ℕ → Option (List (List ℕ)) → Option ℕ → Option PipeState → Option Event
walk_of (Some walker) (Some ns) (Some path) (Some now) (Some pipe) =
    Some (events.Walk walker ns path now pipe)
walk_of walker ns path now pipe = None

-- `walk W NS PATH NOW PIPE`
abbrev pub walk_read : List (List ℕ) → Option Event
walk_read (walker ∷ ns ∷ path ∷ now ∷ pipe ∷ []) =
    walk_of (u32_read walker) (u32_read ns) (result_ok (path_read path)) (u64_read now) (pipe_read pipe)
walk_read words = None

-- the event of a line whose words are these
abbrev pub walk_event : ℕ × ℕ × List (List ℕ) × ℕ × PipeState → Event
walk_event words = events.Walk words.0 words.1 words.2 words.3 words.4

-- the event, where all three words are read
abbrev pub resume_of : Option ℕ → Option ℕ → Option PipeState → Option Event
resume_of (Some walker) (Some now) (Some pipe) = Some (events.Resume walker now pipe)
resume_of walker now pipe = None

-- `resume W NOW PIPE`
abbrev pub resume_read : List (List ℕ) → Option Event
resume_read (walker ∷ now ∷ pipe ∷ []) =
    resume_of (u32_read walker) (u64_read now) (pipe_read pipe)
resume_read words = None

-- `leave W`
abbrev pub leave_read : List (List ℕ) → Option Event
leave_read (walker ∷ []) = option_map events.Leave (u32_read walker)
leave_read words = None

-- the event, where all five words are read
abbrev pub expire_of : Option ℕ → Option ℕ → Option ℕ → Option Bool → Option PipeState → Option Event
expire_of (Some walker) (Some fs) (Some now) (Some immediate) (Some pipe) =
    Some (events.Expire walker fs now immediate pipe)
expire_of walker fs now immediate pipe = None

-- `expire W FS NOW HOW PIPE`
abbrev pub expire_read : List (List ℕ) → Option Event
expire_read (walker ∷ fs ∷ now ∷ how ∷ pipe ∷ []) =
    expire_of (u32_read walker) (u32_read fs) (u64_read now) (immediate_read how) (pipe_read pipe)
expire_read words = None
