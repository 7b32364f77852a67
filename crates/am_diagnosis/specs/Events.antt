-- What is expected of the line of an event: own choice (docs/FORMATS.md, "Events").
use Rattle.std.specs.Prelude.{◌≡◌, true, is_some, Option}
use Rattle.am_script.specs.Events.{event_read}
use Rattle.am_diagnosis.specs.declared.expected.Expected.TheVariants.{Event}
use Rattle.am_diagnosis.specs.declared.misfit.Misfit.{Misfit}
use Rattle.am_diagnosis.specs.Parameters.{parameters}
use Rattle.am_diagnosis.specs.Misfits.{Words, misfit_in}

-- where a line with these words isn't the line of an event
abbrev pub event_misfit : Words → Option Misfit
event_misfit words = misfit_in Event parameters words

-- a line with these words is an event's
abbrev pub IsEvent : Words → Type 0
IsEvent words = is_some (event_read words) ≡ true
