-- How the trace of a script is printed: each event with its answer and what is seen of it.
-- Own choice (docs/FORMATS.md, "Traces").
use Rattle.std.specs.Prelude.{ℕ, true, List, [], ◌∷◌, ◌++◌, length, codes, decimal}
use Rattle.std.specs.List.{flat_map}
use Rattle.am_state.specs.{Obs}
use Rattle.am_machine.specs.{Answer}
use Rattle.am_script.specs.{Form, Numbered, Shown, answer_text}
use Rattle.am_views.specs.declared.trace.TraceStyle.{TraceStyle}
use Rattle.am_views.specs.declared.trace.TraceStyle.TheVariants.{WithNumbers, Plain}
use Rattle.am_views.specs.EventText.{event_text}
use Rattle.am_views.specs.ObsText.{obs_lines}

-- the number of the event's line, which a plain trace leaves out
abbrev pub number_part : TraceStyle → ℕ → List ℕ
number_part WithNumbers line = decimal line
number_part Plain line = []

-- that number, and the event
abbrev pub asked_line : TraceStyle → Numbered → List ℕ
asked_line style asked =
    number_part style asked.line ++ (codes ": " ++ (event_text asked.event ++ 10 ∷ []))

-- how many observations there are
abbrev pub count_part : List Obs → List ℕ
count_part seen = codes " : " ++ decimal (length seen)

-- below it the answer, as `script` says it, and how many observations stand below that
abbrev pub told_line : Answer → List Obs → List ℕ
told_line answer seen = codes "= " ++ (answer_text answer ++ (count_part seen ++ 10 ∷ []))

-- and below that a line for each observation, in order
abbrev pub shown_text : TraceStyle → Shown → List ℕ
shown_text style row =
    asked_line style row.asked ++ (told_line row.answer row.seen ++ obs_lines row.seen)

-- the trace of these rows
abbrev pub printed_trace : TraceStyle → List Shown → List ℕ
printed_trace style rows = flat_map (shown_text style) rows

-- how a script is played whose trace is printed: of each event that is written, and the script ends at
-- an event for which there is no memory, as its line can't be printed
abbrev pub traced : TraceStyle → Form
traced style = record { text = shown_text style; ends = true }
