use Rattle.std.proofs.Common.{Bool, true, false, not, ◌≡◌, sym, refl, ◌∙◌}
use Rattle.std.proofs.lemmas.List.{take_rest}
use Rattle.am_lines.specs.{is_blank}
use Rattle.am_diagnosis.specs.Columns.{is_letter}
use Rattle.am_diagnosis.proofs.ColumnLemmas.{skipped_to, all_skipped}
use Rattle.am_diagnosis.proofs.columns.behind_word.Goals as goal

twice : (b : Bool) → b ≡ not (not b)
twice true = refl
twice false = refl

pub returns-in-None : goal.returns-in-None
returns-in-None c = all_skipped is_letter is_blank (λ b. twice (is_blank b)) c.args.line.now (sym c.blank_place.ensures ∙ c.in-None.is)

pub returns-in-Some : goal.returns-in-Some
returns-in-Some c = rw (take_rest c.args.line.now c.in-Some.at) (skipped_to is_letter is_blank (λ b. twice (is_blank b)) c.args.line.now c.in-Some.at (sym c.blank_place.ensures ∙ c.in-Some.is))
