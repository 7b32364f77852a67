-- What is told of a scene's slip, in parts.
use Rattle.std.proofs.Common.{◌≡◌, ℕ, false, List, ◌++◌, Option, append_assoc}
use Rattle.am_explain.specs.Excerpts.{place_text}
use Rattle.am_explain.specs.Help.{first_line}
use Rattle.am_explain.specs.Notes.{note_of, note_text}
use Rattle.am_explain.specs.SceneExpectations.{scene_words}
use Rattle.am_explain.specs.SceneHelp.{scene_slip_text}
use Rattle.am_explain.specs.declared.note.Note.{Note}
use Rattle.am_explain.specs.declared.scene_expected.SceneSlip.{SceneSlip}

pub scene_slip_parts : (old mid : List ℕ) (number : ℕ) (lines : List (List ℕ)) (slip : SceneSlip)
    (line words : List ℕ) (told : Option Note) →
    mid ≡ old ++ place_text line false slip.column words → told ≡ note_of number lines false
    → words ≡ scene_words slip.expected → line ≡ first_line lines →
    mid ++ note_text told ≡ old ++ scene_slip_text number lines slip
scene_slip_parts old mid number lines slip line words told m n w l =
    rw (m, n, w, l) (append_assoc old _ _)
