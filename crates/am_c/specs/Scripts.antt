-- How a script went, as C is told (docs/FORMATS.md, "Scripts").
use Rattle.std.specs.Prelude.{◌≡◌, ◌≢◌, ◌⊎◌, ℕ, Bool, true, false, List, [], length, Option, None, Some, Result, Ok, Err}
use Rattle.am_map.specs.Fault as map_faults
use Rattle.am_master.specs.Fault as master_faults
use Rattle.am_script.specs.{ScriptFault, ScriptFaultKind, Summary}
use Rattle.am_script.specs.Fault.{kind_number}
use Rattle.am_script.specs.declared.fault.ScriptFaultKind.TheVariants.{BadMaster, BadMap}
use Rattle.am_diagnosis.specs.Expectations.{expected_number, expected_words}
use Rattle.am_diagnosis.specs.declared.expected.Expected.{Expected}
use Rattle.am_diagnosis.specs.declared.expected.Slip.{Slip}
use Rattle.am_session.specs.{HasSlip}
use Rattle.am_c.specs.declared.script.AmPlayed.{AmPlayed}
use Rattle.am_c.specs.Buffer.{with_front}
use Rattle.am_c.specs.Places.{column_of, expected_of}

-- ---- what C is told

-- the number of the fault, if there is one
abbrev pub fault_number : Result Summary ScriptFault → ℕ
fault_number (Ok summary) = 0
fault_number (Err fault) = kind_number fault.kind

-- what is wrong with the line of a map or of a master map, where that is the fault
abbrev pub detail_number : ScriptFaultKind → ℕ
detail_number (BadMaster kind) = master_faults.fault_number kind
detail_number (BadMap kind) = map_faults.fault_number kind
detail_number other = 0

-- what C is told where so many bytes were written, and the line of the fault has this slip
abbrev pub played_of : ℕ → Result Summary ScriptFault → Option Slip → AmPlayed
played_of bytes (Ok summary) slip = record {
  bytes = bytes;
  lines = summary.lines;
  refused = summary.refused;
  line = 0;
  column = 0;
  fault = 0;
  detail = 0;
  expected = 0;
}
played_of bytes (Err fault) slip = record {
  bytes = bytes;
  lines = 0;
  refused = 0;
  line = fault.line;
  column = column_of slip;
  fault = kind_number fault.kind;
  detail = detail_number fault.kind;
  expected = expected_of slip;
}

-- it is the slip of the fault in this text, if there is a fault
abbrev pub IsPlaced : List ℕ → Result Summary ScriptFault → Option Slip → Type 0
IsPlaced text (Ok summary) slip = slip ≡ None
IsPlaced text (Err fault) slip = HasSlip text fault slip

-- C is told how this text went, of which so many bytes were written
pub record IsTold (text : List ℕ) (bytes : ℕ) (went : Result Summary ScriptFault) (told : AmPlayed) : Type 0 where
  pub slip : Option Slip
  pub placed : IsPlaced text went slip
  pub same : told ≡ played_of bytes went slip

-- they are the words of the expectation with this number; there are none where no expectation has it
abbrev pub AreWordsOf : ℕ → List ℕ → Type 0
AreWordsOf number words =
    ((expected : Expected) × (expected_number expected ≡ number) × (words ≡ expected_words expected))
    ⊎ (((expected : Expected) → expected_number expected ≢ number) × (words ≡ []))

-- ---- a call

-- it ends so, or it stops so
abbrev pub Goes : (Summary → Type 0) → (ScriptFault → Type 0) → Result Summary ScriptFault → Type 0
Goes ends stops (Ok summary) = ends summary
Goes ends stops (Err fault) = stops fault

-- The text is read, as one whose reader and writer, which has nothing yet, leave so; what was
-- written stands at the front of the buffer, and C is told how it went.
pub record Fills (ends : Option (List ℕ) → Option (List ℕ) → Option (List ℕ) → Option (List ℕ) → Summary → Type 0) (stops : Option (List ℕ) → Option (List ℕ) → Option (List ℕ) → Option (List ℕ) → ScriptFault → Type 0) (text old new : List ℕ) (told : AmPlayed) (number : ℕ) : Type 0 where
  pub rest : List ℕ
  pub written : List ℕ
  pub went : Result Summary ScriptFault
  pub goes : Goes (ends (Some text) (Some rest) (Some []) (Some written)) (stops (Some text) (Some rest) (Some []) (Some written)) went
  pub buffer : new ≡ with_front written old
  pub is_told : IsTold text (length written) went told
  pub numbered : number ≡ fault_number went

-- the namespace that is asked for alone, if there is one
abbrev pub namespace_where : Bool → ℕ → Option ℕ
namespace_where true namespace = None
namespace_where false namespace = Some namespace
