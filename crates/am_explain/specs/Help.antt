-- What is told below a fault: own choice (docs/FORMATS.md, "Below a fault").
use Rattle.std.specs.Prelude.{◌≡◌, ◌⊎◌, ℕ, Bool, true, false, ◌&&◌, List, [], ◌∷◌, ◌++◌, Some, if◌then◌else◌}
use Rattle.am_lines.specs.{is_joined}
use Rattle.am_recall.specs.Recall.{IsOf, is_ended}
use Rattle.am_recall.specs.declared.recalled.Recalled.{Recalled}
use Rattle.am_script.specs.Lines.{lines_of}
use Rattle.am_script.specs.declared.fault.ScriptFault.{ScriptFault}
use Rattle.am_script.specs.declared.fault.ScriptFaultKind.{ScriptFaultKind}
use Rattle.am_script.specs.declared.fault.ScriptFaultKind.TheVariants.{BadMaster, BadMap, NoSuchMap}
use Rattle.am_diagnosis.specs.Expectations.{expected_words}
use Rattle.am_diagnosis.specs.Scripts.{IsSlipIn, lines_at}
use Rattle.am_diagnosis.specs.declared.expected.Expected.{Expected}
use Rattle.am_diagnosis.specs.declared.expected.Expected.TheVariants.{Order, SectionEnd}
use Rattle.am_diagnosis.specs.declared.expected.Slip.{Slip}
use Rattle.am_explain.specs.Excerpts.{place_text}
use Rattle.am_explain.specs.Notes.{note_of, note_text}

-- the line of such a fault may be joined of several by backslashes
abbrev pub may_join : ScriptFaultKind → Bool
may_join (BadMaster kind) = true
may_join (BadMap kind) = true
may_join NoSuchMap = true
may_join kind = false

-- what was expected, where the end of a section may still follow: a part that may stand there
abbrev pub in_order : Expected → Expected
in_order SectionEnd = Order
in_order expected = expected

-- what was expected, where the reader is at its end or not
abbrev pub expected_at : Bool → Expected → Expected
expected_at ended expected = if ended then expected else in_order expected

-- the end of a section was expected
abbrev pub is_section_end : Expected → Bool
is_section_end SectionEnd = true
is_section_end expected = false

-- the first of these lines
abbrev pub first_line : List (List ℕ) → List ℕ
first_line [] = []
first_line (line ∷ below) = line

-- what is told of this slip below a fault that is told at the first of these lines
abbrev pub slip_text : Bool → ScriptFault → List (List ℕ) → Slip → List ℕ
slip_text ended fault lines slip =
    place_text (first_line lines) (may_join fault.kind && is_joined (first_line lines)) slip.column
    (expected_words (expected_at ended slip.expected))
    ++ note_text (note_of fault.line lines (is_section_end (expected_at ended slip.expected)))

-- Told below a fault, the line of which is the first of these: nothing, or where that line isn't as
-- expected, and what was expected there.
abbrev pub IsHelp : Bool → ScriptFault → List (List ℕ) → List ℕ → Type 0
IsHelp ended fault lines help =
    (help ≡ [])
    ⊎ ((slip : Slip) × IsSlipIn fault.kind lines (Some slip) × (help ≡ slip_text ended fault lines slip))

-- the same, of the script of which this is recalled
abbrev pub HelpsWith : Recalled → ScriptFault → List ℕ → Type 0
HelpsWith recalled fault help =
    (text : List ℕ) → IsOf recalled text
    → IsHelp (is_ended recalled) fault (lines_at fault.line (lines_of text)) help
