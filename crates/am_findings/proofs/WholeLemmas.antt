-- No numbers lead to where the scene begins.
use Rattle.std.proofs.Common.{◌≡◌, ℕ, List, [], ◌∷◌, refl, sym, subst}
use Rattle.am_machine.specs.{Answer}
use Rattle.am_explore.specs.{AreTaken, Choice, Question, Scene, Seen, Stand, stand_of}
use Rattle.am_scenes.specs.{Told}
use Rattle.am_findings.specs.{Answers, AnswersFrom, IsPart, Part, start_of}
use Rattle.am_findings.specs.Whole.{IsWholeWithout}
use Rattle.am_findings.specs.declared.explore.Part.TheVariants as parts

same_stand : (scene : Scene) (a : Stand) (choices : List Choice) (answers : List Answer) (b : Stand)
    → AreTaken scene a [] choices answers b → b ≡ a
same_stand scene a [] [] b taken = taken
same_stand scene a [] (answer ∷ answers) b taken = absurd taken
same_stand scene a (choice ∷ choices) [] b taken = absurd taken
same_stand scene a (choice ∷ choices) (answer ∷ answers) b taken = absurd taken

pub is_whole : IsWholeWithout
is_whole told (parts.Behind first begun) most question seen is answers =
    subst (λ (mid : Stand). AnswersFrom told mid most question seen)
    (same_stand told.scene (start_of told) first.items is.0 (stand_of begun) is.1) answers
is_whole told parts.Nothing most question seen none answers = absurd (none [] [] (start_of told) refl)
