-- The slip of a fault of a script: own choice (docs/FORMATS.md, "Faults").
use Rattle.std.specs.Prelude.{◌≡◌, ⊤, ℕ, zero, suc, List, [], ◌∷◌, drop, Option, None, Some}
use Rattle.am_lines.specs.{words_of}
use Rattle.am_script.specs.declared.fault.ScriptFaultKind.{ScriptFaultKind}
use Rattle.am_script.specs.declared.fault.ScriptFaultKind.TheVariants.{BadSection, BadLimits, BadMaster, BadMap, NoSuchMap, BadEvent, LongLine}
use Rattle.am_diagnosis.specs.declared.expected.Expected.TheVariants.{KnownMap, End}
use Rattle.am_diagnosis.specs.declared.expected.Slip.{Slip}
use Rattle.am_diagnosis.specs.Columns.{IsSlipOf}
use Rattle.am_diagnosis.specs.Events.{event_misfit}
use Rattle.am_diagnosis.specs.Heads.{part_misfit, section_misfit}
use Rattle.am_diagnosis.specs.Maps.{joined_in, map_misfit, master_misfit}
use Rattle.am_diagnosis.specs.Misfits.{misfit_at}

-- the lines from that of this number on, which are counted from 1
abbrev pub lines_at : ℕ → List (List ℕ) → List (List ℕ)
lines_at zero lines = []
lines_at (suc above) lines = drop above lines

-- the slip of a line longer than 8,192 bytes
abbrev pub long_slip : Slip
long_slip = record { column = 8193; expected = End }

-- The slip of a fault of this kind, which is told at the first of these lines, or none. Lines of
-- maps are joined first.
abbrev pub IsSlipIn : ScriptFaultKind → List (List ℕ) → Option Slip → Type 0
IsSlipIn kind [] slip = slip ≡ None
IsSlipIn BadSection (line ∷ below) slip = IsSlipOf line (Some (section_misfit (words_of line) below)) slip
IsSlipIn BadLimits (line ∷ below) slip = IsSlipOf line (part_misfit (words_of line)) slip
IsSlipIn (BadMaster kind) lines slip = IsSlipOf (joined_in lines) (master_misfit kind (words_of (joined_in lines))) slip
IsSlipIn (BadMap kind) lines slip = IsSlipOf (joined_in lines) (map_misfit kind (words_of (joined_in lines))) slip
IsSlipIn NoSuchMap lines slip = IsSlipOf (joined_in lines) (Some (misfit_at 1 KnownMap)) slip
IsSlipIn BadEvent (line ∷ below) slip = IsSlipOf line (event_misfit (words_of line)) slip
IsSlipIn LongLine (line ∷ below) slip = slip ≡ Some long_slip
IsSlipIn kind lines slip = slip ≡ None

-- the fault isn't one of a line of a map or of the master map
abbrev pub IsPlain : ScriptFaultKind → Type 0
IsPlain (BadMaster kind) = ⊥
IsPlain (BadMap kind) = ⊥
IsPlain NoSuchMap = ⊥
IsPlain kind = ⊤

-- the fault is one of a line of a map or of the master map, which may be joined of several
abbrev pub IsJoined : ScriptFaultKind → Type 0
IsJoined (BadMaster kind) = ⊤
IsJoined (BadMap kind) = ⊤
IsJoined NoSuchMap = ⊤
IsJoined kind = ⊥
