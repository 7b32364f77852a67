-- Where a fault stands in its text, as C is told (docs/FORMATS.md, "Places of faults").
use Rattle.std.specs.Prelude.{◌≡◌, ℕ, List, Option, None, Some}
use Rattle.am_diagnosis.specs.Expectations.{expected_number}
use Rattle.am_diagnosis.specs.declared.expected.Slip.{Slip}
use Rattle.am_script.specs.{ScriptFault}
use Rattle.am_session.specs.{HasSlip}
use Rattle.am_c.specs.declared.place.AmPlace.{AmPlace}

-- the byte of the line at which it isn't as expected, if it is told
abbrev pub column_of : Option Slip → ℕ
column_of None = 0
column_of (Some slip) = slip.column

-- the number of what was expected there
abbrev pub expected_of : Option Slip → ℕ
expected_of None = 0
expected_of (Some slip) = expected_number slip.expected

-- a slip of this line
abbrev pub place_at : ℕ → Option Slip → AmPlace
place_at line slip = record { line = line; column = column_of slip; expected = expected_of slip; pad = 0 }

-- the fault stands there in this text
pub record IsPlaceOf (text : List ℕ) (fault : ScriptFault) (place : AmPlace) : Type 0 where
  pub slip : Option Slip
  pub has : HasSlip text fault slip
  pub is : place ≡ place_at fault.line slip
