-- What the head of a script says: limits if wanted, how long failures last if wanted, a master
-- section if wanted, any number of map sections, and the line `events`. Own choice
-- (docs/FORMATS.md, "The head").
use Rattle.std.specs.Prelude.{ℕ, Bool, false, is_some, List, [], ◌∷◌, ◌++◌, codes, bytes_eq, drop, Option, None, Some, Result, Ok, Err, if◌then◌else◌}
use Rattle.am_names.specs.declared.limits.Limits.{Limits}
use Rattle.am_master.specs.{MasterFault, master_read}
use Rattle.am_master.specs.MasterRow.{MasterRow}
use Rattle.am_script.specs.declared.fault.ScriptFault.{ScriptFault}
use Rattle.am_script.specs.declared.fault.ScriptFaultKind.TheVariants.{BadSection, BadLimits, BadMaster, LongLine}
use Rattle.am_script.specs.Fault.{fault_at, fault_in}
use Rattle.am_script.specs.Limits.{default_limits, limits_read, negative_read}
use Rattle.am_script.specs.Sections.{Section, Part, Alone, Whole, Unended, Long, are_only}

-- the master section: the number of its first line, and the rows of its text
pub record Mastered : Type 0 where
  pub first : ℕ
  pub rows : List MasterRow

-- what a head says
pub record Head : Type 0 where
  pub limits : Limits
  pub master : Mastered
  pub maps : List Section

-- own choice (docs/DECISIONS.md, "A script without a master section has an empty master map")
abbrev pub no_head : Head
no_head = record { limits = default_limits; master = record { first = 0; rows = [] }; maps = [] }

-- how the head of a script goes
pub data Headed : Type 0 where
  -- it is whole, and the events begin behind the line with this number
  Begins : Head → ℕ → Headed
  -- its lines end first, in the section that begins at this line or in none
  Ends : Option ℕ → Headed
  -- its first fault
  Faulty : ScriptFault → Headed

-- what stands on this line may not stand there
abbrev pub bad_section : ℕ → Headed
bad_section number = Faulty (fault_at number BadSection)

-- this line is too long
abbrev pub too_long : ℕ → Headed
too_long number = Faulty (fault_at number LongLine)

-- a section that may stand there, but doesn't end
abbrev pub unended : Section → Option ℕ → Headed
unended section None = Ends (Some section.first)
unended section (Some number) = too_long number

-- it is the section of a map, which has a name
abbrev pub is_map : Section → Bool
is_map section = is_some section.name

-- the head says one map more
abbrev pub with_map : Head → Section → Head
with_map head section = record head { maps = head.maps ++ section ∷ [] }

-- map sections, and then `events`
abbrev pub maps_then : Head → List Part → Headed
maps_then head [] = Ends None
maps_then head (Long number ∷ parts) = too_long number
maps_then head (Alone number words ∷ parts) = if are_only (codes "events") words then Begins head number else bad_section number
maps_then head (Unended section long ∷ parts) = if is_map section then unended section long else bad_section section.first
maps_then head (Whole section ∷ parts) = if is_map section then maps_then (with_map head section) parts else bad_section section.first

-- the rows of a master map; its fault is told at the line of the script
abbrev pub master_in : ℕ → Result (List MasterRow) MasterFault → Result (List MasterRow) ScriptFault
master_in first (Ok rows) = Ok rows
master_in first (Err fault) = Err (fault_in first fault.line (BadMaster fault.kind))

-- what a section is read as, as the master's
abbrev pub section_read : Section → Result (List MasterRow) ScriptFault
section_read section = master_in section.first (master_read section.text)

-- the head says this master map, which begins at this line
abbrev pub with_master : Head → ℕ → List MasterRow → Head
with_master head first rows = record head { master = record { first = first; rows = rows } }

-- map sections may follow a master map without a fault
abbrev pub master_by : Result (List MasterRow) ScriptFault → ℕ → Head → List Part → Headed
master_by (Ok rows) first head parts = maps_then (with_master head first rows) parts
master_by (Err fault) first head parts = Faulty fault

-- a master section if there is one, and what may follow it
abbrev pub master_then : Head → List Part → Headed
master_then head [] = Ends None
master_then head (Long number ∷ parts) = too_long number
master_then head (Alone number words ∷ parts) = maps_then head (Alone number words ∷ parts)
master_then head (Unended section long ∷ parts) = unended section long
master_then head (Whole section ∷ parts) =
    if is_map section then maps_then head (Whole section ∷ parts)
    else master_by (section_read section) section.first head parts

-- the line begins with `negative`
abbrev pub is_negative : List (List ℕ) → Bool
is_negative [] = false
is_negative (word ∷ words) = bytes_eq word (codes "negative")

-- a failure lasts for so many seconds
abbrev pub with_negative : Head → ℕ → Head
with_negative head seconds = record head { limits = record head.limits { negative = seconds } }

-- `negative` says how long failures last, or has a fault
abbrev pub negative_by : Option ℕ → ℕ → Head → List Part → Headed
negative_by (Some seconds) number head parts = master_then (with_negative head seconds) parts
negative_by None number head parts = Faulty (fault_at number BadLimits)

-- how long failures last if that comes next, and what may follow it: own choice (docs/DECISIONS.md,
-- "A failure has a number, and may last")
abbrev pub negative_then : Head → List Part → Headed
negative_then head (Alone number words ∷ parts) =
    if is_negative words then negative_by (negative_read (drop 1 words)) number head parts
    else master_then head (Alone number words ∷ parts)
negative_then head parts = master_then head parts

-- the line begins with `limits`
abbrev pub is_limits : List (List ℕ) → Bool
is_limits [] = false
is_limits (word ∷ words) = bytes_eq word (codes "limits")

-- `limits` says the limits, or has a fault
abbrev pub limits_by : Option Limits → ℕ → Head → List Part → Headed
limits_by (Some limits) number head parts = negative_then (record head { limits = limits }) parts
limits_by None number head parts = Faulty (fault_at number BadLimits)

-- limits if they come first, and what may follow them
abbrev pub limits_then : Head → List Part → Headed
limits_then head (Alone number words ∷ parts) =
    if is_limits words then limits_by (limits_read (drop 1 words)) number head parts
    else negative_then head (Alone number words ∷ parts)
limits_then head parts = negative_then head parts

-- how the head of a script goes that has these parts
abbrev pub head_of : List Part → Headed
head_of parts = limits_then no_head parts
