-- What is told of a slip, in parts.
use Rattle.std.proofs.Common.{◌≡◌, ℕ, Bool, ◌&&◌, List, ◌++◌, Option, append_assoc}
use Rattle.am_lines.specs.{is_joined}
use Rattle.am_script.specs.declared.fault.ScriptFault.{ScriptFault}
use Rattle.am_diagnosis.specs.Expectations.{expected_words}
use Rattle.am_diagnosis.specs.declared.expected.Expected.{Expected}
use Rattle.am_diagnosis.specs.declared.expected.Slip.{Slip}
use Rattle.am_explain.specs.Excerpts.{place_text}
use Rattle.am_explain.specs.Help.{expected_at, first_line, is_section_end, may_join, slip_text}
use Rattle.am_explain.specs.Notes.{note_of, note_text}
use Rattle.am_explain.specs.declared.note.Note.{Note}

pub slip_parts : (old mid : List ℕ) (ended : Bool) (fault : ScriptFault) (lines : List (List ℕ)) (slip : Slip) (line words : List ℕ) (joined : Bool) (expected : Expected) (unended : Bool) (told : Option Note) →
    mid ≡ old ++ place_text line joined slip.column words → told ≡ note_of fault.line lines unended → unended ≡ is_section_end expected → words ≡ expected_words expected →
    joined ≡ (may_join fault.kind && is_joined line) → line ≡ first_line lines → expected ≡ expected_at ended slip.expected → mid ++ note_text told ≡ old ++ slip_text ended fault lines slip
slip_parts old mid ended fault lines slip line words joined expected unended told m n u w j l e =
    rw (m, n, u, w, j, l, e) (append_assoc old _ _)
