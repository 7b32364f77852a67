-- Where a fault stands in its text (docs/FORMATS.md, "Places of faults").
use Rattle.std.specs.Prelude.{◌≡◌, ◌⊎◌, List, ℕ, Option, None}
use Rattle.am_diagnosis.specs.Scripts.{IsJoined, IsSlipIn, lines_at}
use Rattle.am_diagnosis.specs.declared.expected.Slip.{Slip}
use Rattle.am_script.specs.{ScriptFault, lines_of}

-- it is the slip of the fault in this text, if it has one; or there is no memory for that of a line of
-- a map, which is joined for it
abbrev pub HasSlip : List ℕ → ScriptFault → Option Slip → Type 0
HasSlip text fault slip =
    IsSlipIn fault.kind (lines_at fault.line (lines_of text)) slip ⊎ (IsJoined fault.kind × (slip ≡ None))
