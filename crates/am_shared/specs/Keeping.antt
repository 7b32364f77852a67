-- What a shared world keeps of what was: own choice (docs/DECISIONS.md, "A shared world keeps what it is
-- asked to keep").
use Rattle.std.specs.Prelude.{ℕ, Bool, true, false, if◌then◌else◌, length}
use Rattle.am_world.specs.{WorldTable}
use Rattle.am_shared.specs.declared.keep.Keep.{Keep}
use Rattle.am_shared.specs.declared.keep.Keep.TheVariants as keep

-- all that was observed is kept
abbrev pub keeps_seen : Keep → Bool
keeps_seen keep.All = true
keeps_seen keep.Events = false
keeps_seen keep.Nothing = false

-- so are all events with their answers
abbrev pub keeps_events : Keep → Bool
keeps_events keep.All = true
keeps_events keep.Events = true
keeps_events keep.Nothing = false

-- so many observations are handed on before the next event: those that were so already, where all are kept, and
-- else all there are
abbrev pub handed_before : Keep → WorldTable → ℕ
handed_before keep world = if keeps_seen keep then world.handed else length world.trace
