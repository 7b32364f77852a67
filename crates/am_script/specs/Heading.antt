-- A head that is read line by line: own choice (docs/FORMATS.md, "The head").
use Rattle.std.specs.Prelude.{◌≡◌, ◌⊎◌, ℕ, Bool, true, false, ◌&&◌, List, codes, drop, Option, None, Some, Result, Ok, Err, if◌then◌else◌}
use Rattle.am_names.specs.declared.limits.Limits.{Limits}
use Rattle.am_master.specs.MasterRow.{MasterRow}
use Rattle.am_script.specs.declared.fault.ScriptFault.{ScriptFault}
use Rattle.am_script.specs.declared.fault.ScriptFaultKind.TheVariants.{BadSection, BadLimits, LongLine, NoMemory}
use Rattle.am_script.specs.declared.heading.Stage.{Stage}
use Rattle.am_script.specs.declared.heading.Stage.TheVariants as stages
use Rattle.am_script.specs.Fault.{fault_at}
use Rattle.am_lines.specs.{words_of}
use Rattle.am_script.specs.Lines.{is_long, are_skipped}
use Rattle.am_script.specs.Limits.{limits_read, negative_read}
use Rattle.am_script.specs.Sections.{Section, section_opened, with_line, is_end, are_only}
use Rattle.am_script.specs.Head.{Head, no_head, is_map, is_limits, is_negative, with_map, with_negative, with_master, section_read}

-- what the lines so far have said, and the section that they are in
pub record HeadSoFar : Type 0 where
  pub stage : Stage
  pub within : Option Section
  pub said : Head

-- nothing is read yet
abbrev pub no_lines : HeadSoFar
no_lines = record { stage = stages.Start; within = None; said = no_head }

-- what a line makes of the head: it goes on, the events begin, or it stops
pub data Taken : Type 0 where
  GoesOn : HeadSoFar → Taken
  EventsBegin : HeadSoFar → Taken
  HeadFault : ScriptFault → Taken

-- what stands on this line may not stand there
abbrev pub stops_at_section : ℕ → Taken
stops_at_section number = HeadFault (fault_at number BadSection)

-- ---- a line of a section

-- the master section has ended: its rows are said, or it has a fault
abbrev pub mastered : Result (List MasterRow) ScriptFault → HeadSoFar → ℕ → Taken
mastered (Ok rows) head first =
    GoesOn (record head { stage = stages.Mastered; within = None; said = with_master head.said first rows })
mastered (Err fault) head first = HeadFault fault

-- the section ends
abbrev pub closed : HeadSoFar → Section → Taken
closed head section =
    if is_map section then GoesOn (record head { stage = stages.Mastered; within = None; said = with_map head.said section })
    else mastered (section_read section) head section.first

-- behind a line of the section
abbrev pub in_section : HeadSoFar → Section → List ℕ → Taken
in_section head section line =
    if is_end line then closed head section else GoesOn (record head { within = Some (with_line section line) })

-- ---- a line outside of sections

-- a second master section, or one behind a map, may not stand there
abbrev pub may_open : Stage → Section → Bool
may_open stages.Mastered section = is_map section
may_open stage section = true

-- behind a line that opens this section, if it may stand there
abbrev pub opened : HeadSoFar → Section → Taken
opened head section =
    if may_open head.stage section then GoesOn (record head { within = Some section })
    else stops_at_section section.first

-- behind a line that is to be `events`
abbrev pub after_events : HeadSoFar → ℕ → List (List ℕ) → Taken
after_events head number words = if are_only (codes "events") words then EventsBegin head else stops_at_section number

-- behind `negative`, which says these seconds or none
abbrev pub after_negative : HeadSoFar → ℕ → Option ℕ → Taken
after_negative head number (Some seconds) =
    GoesOn (record head { stage = stages.Lasting; said = with_negative head.said seconds })
after_negative head number None = HeadFault (fault_at number BadLimits)

-- how long failures last isn't said yet, and may still be
abbrev pub is_early : Stage → Bool
is_early stages.Start = true
is_early stages.Limited = true
is_early stage = false

-- how long failures last, or `events`
abbrev pub after_later_line : HeadSoFar → ℕ → List (List ℕ) → Taken
after_later_line head number words =
    if is_early head.stage && is_negative words then after_negative head number (negative_read (drop 1 words))
    else after_events head number words

-- behind `limits`, which says these or none
abbrev pub after_limits : HeadSoFar → ℕ → Option Limits → Taken
after_limits head number (Some limits) =
    GoesOn (record head { stage = stages.Limited; said = record head.said { limits = limits } })
after_limits head number None = HeadFault (fault_at number BadLimits)

-- nothing was said yet
abbrev pub is_start : Stage → Bool
is_start stages.Start = true
is_start stage = false

-- behind a line that opens no section: `limits`, `negative` or `events`
abbrev pub after_lone_line : HeadSoFar → ℕ → List (List ℕ) → Taken
after_lone_line head number words =
    if is_start head.stage && is_limits words then after_limits head number (limits_read (drop 1 words))
    else after_later_line head number words

-- behind a line with words, which opens this section or none
abbrev pub after_words : Option Section → HeadSoFar → ℕ → List (List ℕ) → Taken
after_words (Some section) head number words = opened head section
after_words None head number words = after_lone_line head number words

-- behind a line outside of sections, which has these words
abbrev pub between_sections : HeadSoFar → ℕ → List (List ℕ) → Taken
between_sections head number words =
    if are_skipped words then GoesOn head else after_words (section_opened number words) head number words

-- ---- any line

-- behind a line that isn't too long, in this section or outside of any
abbrev pub after_short_line : Option Section → HeadSoFar → ℕ → List ℕ → Taken
after_short_line (Some section) head number line = in_section head section line
after_short_line None head number line = between_sections head number (words_of line)

-- the line with this number is taken
abbrev pub after_line : HeadSoFar → ℕ → List ℕ → Taken
after_line head number line =
    if is_long line then HeadFault (fault_at number LongLine) else after_short_line head.within head number line

-- what taking a line answers: whether the events begin
abbrev pub taken_as : Bool → HeadSoFar → Taken
taken_as begins head = if begins then EventsBegin head else GoesOn head

-- the line with this number has this fault, or memory ran out
abbrev pub StopsAt : ℕ → Taken → ScriptFault → Type 0
StopsAt number taken fault = (taken ≡ HeadFault fault) ⊎ (fault ≡ fault_at number NoMemory)

-- the first line of the section that the lines are in, if they are in one
abbrev pub first_open : Option Section → Option ℕ
first_open None = None
first_open (Some section) = Some section.first
